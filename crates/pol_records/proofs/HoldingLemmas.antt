-- How what the journal of records stands for goes on through its calls.
use Rattle.std.proofs.Common.{◌≡◌, ◌⊎◌, inl, inr, Option, ℕ, ◌+◌, ◌^◌, ◌≤◌, ◌<◌, List, [], ◌∷◌, ◌++◌, length, refl, sym, ◌∙◌, ap, subst, arith, append_assoc, append-nil, length-append}
use Rattle.std.specs.List.{AllByRecursion}
use mathlib.Core.List.{IsPrefix}
use Rattle.pol_wire.specs.Faults.{Rises}
use Rattle.pol_disk.specs.Disk.{LeavesOnly}
use Rattle.pol_journal.specs.Format.{StandsFor, IsBeforeOrAfter}
use Rattle.pol_journal.specs.Journal.{JournalState, IsReady, HasFailed, IsAtRest, IsUnsettled, SinceOpening}
use Rattle.pol_journal.specs.Refused.{AppendRefused}
use Rattle.pol_journal.specs.declared.kind.Kind.{Kind}
use Rattle.pol_journal.specs.declared.opening.Opening.{Opening}
use Rattle.pol_journal.specs.declared.refused.JournalRefused.{JournalRefused}
use Rattle.pol_journal.specs.declared.refused.JournalRefused.TheVariants as refused
use Rattle.pol_journal.specs.declared.stage.Reached.{Reached}
use Rattle.pol_journal.specs.declared.stage.Stage.{Stage}
use Rattle.pol_journal.specs.declared.stage.Stage.TheVariants.{Ready, Unsettled}
use Rattle.pol_journal.proofs.JournalLemmas.{since_call}
use Rattle.pol_records.specs.Holding.{Lost, lost_behind, IsFront, HasLost, IsLeft, RisesBy, IsLosing, Holds}
use Rattle.pol_records.specs.Unwritten.{lost_by, unwritten_of}

abbrev Bodies : Type 0
Bodies = List (List ℕ)

prefix_grows : (front written more : Bodies) → IsPrefix front written → IsPrefix front (written ++ more)
prefix_grows front written more is = (is.0 ++ more, sym (append_assoc front is.0 more) ∙ ap (λ (l : Bodies). l ++ more) is.1)

all_push : {A : Type 0} (P : A → Type 0) (xs : List A) (x : A) → AllByRecursion P xs → P x → AllByRecursion P (xs ++ x ∷ [])
all_push P [] x all one = (one, tt)
all_push P (y ∷ xs) x all one = (all.0, all_push P xs x all.1 one)

all_map : {A : Type 0} (P Q : A → Type 0) → ((x : A) → P x → Q x) → (xs : List A) → AllByRecursion P xs → AllByRecursion Q xs
all_map P Q holds [] all = tt
all_map P Q holds (x ∷ xs) all = (holds x all.0, all_map P Q holds xs all.1)

rises_still : (many old mid new : ℕ) → mid ≤ new → RisesBy many old mid → RisesBy many old new
rises_still many old mid new more (inl enough) = inl (omega (arith, more, enough))
rises_still many old mid new more (inr last) = inr (omega (arith, more, last))

rises_more : (many next old mid new : ℕ) → next ≡ many + 1 → mid ≤ new → Rises mid new → RisesBy many old mid → RisesBy next old new
rises_more many next old mid new is more (inl above) (inl enough) = inl (omega (arith, is, above, enough))
rises_more many next old mid new is more (inr end) was = inr (omega (arith, end))
rises_more many next old mid new is more (inl above) (inr last) = inr (omega (arith, more, last))

-- What an image stands for, as bodies are written and appends fail
module _ (kind : Kind) (opening written : Bodies) (lost : List Lost) (body image : List ℕ) where
  which_written : (bodies : Bodies) → IsFront opening written bodies ⊎ HasLost opening lost bodies → IsFront opening (written ++ body ∷ []) bodies ⊎ HasLost opening lost bodies
  which_written bodies (inl is) = inl (record { front = is.front; first = prefix_grows is.front written (body ∷ []) is.first; all = is.all })
  which_written bodies (inr is) = inr is

  left_written : IsLeft kind opening written lost image → IsLeft kind opening (written ++ body ∷ []) lost image
  left_written is = record { bodies = is.bodies; stands = is.stands; which = which_written is.bodies is.which }

  which_lost : (bodies : Bodies) (one : Lost) → IsFront opening written bodies ⊎ HasLost opening lost bodies → IsFront opening written bodies ⊎ HasLost opening (lost ++ one ∷ []) bodies
  which_lost bodies one (inl is) = inl is
  which_lost bodies one (inr is) = inr (record {
    earlier = is.earlier;
    one = is.one;
    later = is.later ++ one ∷ [];
    among = ap (λ (l : List Lost). l ++ one ∷ []) is.among ∙ append_assoc is.earlier (is.one ∷ is.later) (one ∷ []);
    all = is.all;
  })

  left_lost : (one : Lost) → IsLeft kind opening written lost image → IsLeft kind opening written (lost ++ one ∷ []) image
  left_lost one is = record { bodies = is.bodies; stands = is.stands; which = which_lost is.bodies one is.which }

-- images that a call leaves
module _ (kind : Kind) (opening written : Bodies) (lost : List Lost) (image : List ℕ) where
  stands_now : StandsFor kind (opening ++ written) image → IsLeft kind opening written lost image
  stands_now stands = record {
    bodies = opening ++ written;
    stands = stands;
    which = inl (record { front = written; first = ([], append-nil written); all = refl });
  }

  stands_lost : (earlier : List Lost) (body : List ℕ) → lost ≡ earlier ++ lost_behind written body ∷ []
      → StandsFor kind ((opening ++ written) ++ body ∷ []) image → IsLeft kind opening written lost image
  stands_lost earlier body is stands = record {
    bodies = (opening ++ written) ++ body ∷ [];
    stands = stands;
    which = inr (record { earlier = earlier; one = lost_behind written body; later = []; among = is; all = append_assoc opening written (body ∷ []) });
  }

  -- a body that is lost may be there
  either_lost : (earlier : List Lost) (body : List ℕ) → lost ≡ earlier ++ lost_behind written body ∷ []
      → IsBeforeOrAfter kind (opening ++ written) body image → IsLeft kind opening written lost image
  either_lost earlier body is (inl before) = stands_now before
  either_lost earlier body is (inr after) = stands_lost earlier body is after

-- a body that is written may be there
either_written : (kind : Kind) (opening written : Bodies) (lost : List Lost) (body image : List ℕ) → IsBeforeOrAfter kind (opening ++ written) body image
    → IsLeft kind opening (written ++ body ∷ []) lost image
either_written kind opening written lost body image (inl before) =
    left_written kind opening written lost body image (stands_now kind opening written lost image before)
either_written kind opening written lost body image (inr after) =
    stands_now kind opening (written ++ body ∷ []) lost image (subst (λ (l : Bodies). StandsFor kind l image) (append_assoc opening written (body ∷ [])) after)

ready_failed : (reached : Reached) → Ready ≡ Unsettled reached → ⊥
ready_failed reached is = cc

module _ {D : Type 0} (seen : D → Option (List ℕ)) (may_leave : D → List ℕ → Type 0) (clock : D → ℕ) (left_since : D → ℕ → List ℕ → Type 0) (fault_count : D → ℕ) where
  abbrev Held : Bodies → Bodies → List Lost → JournalState D → Type 0
  Held = Holds seen may_leave clock left_since fault_count

  module _ (opening written : Bodies) (lost : List Lost) (old new : JournalState D) (holds : Held opening written lost old) (gate : ℕ) (stage : Stage) (is : new ≡ record old { disk = new.disk; gate = gate; stage = stage }) (counts : fault_count old.disk ≤ fault_count new.disk) where
    kind : new.kind ≡ old.kind
    kind = ap (λ (j : JournalState D). j.kind) is

    opened : new.opening ≡ old.opening
    opened = ap (λ (j : JournalState D). j.opening) is

    -- what a call leaves of the images
    since_then : (Q : List ℕ → Type 0) (now : Bodies) (others : List Lost) → ((image : List ℕ) → IsLeft old.kind opening written lost image → IsLeft old.kind opening now others image)
        → ((image : List ℕ) → Q image → IsLeft old.kind opening now others image) → LeavesOnly clock left_since old.disk new.disk Q
        → SinceOpening clock left_since fault_count (IsLeft new.kind opening now others) new
    since_then Q now others before after moments =
        since_call clock left_since fault_count (IsLeft old.kind opening written lost) Q (IsLeft new.kind opening now others) old new
        (λ image left. subst (λ k. IsLeft k opening now others image) (sym kind) (before image left))
        (λ image left. subst (λ k. IsLeft k opening now others image) (sym kind) (after image left))
        holds.since opened moments counts

    still : RisesBy (length lost) new.opening.faults (fault_count new.disk)
    still = subst (λ (o : Opening). RisesBy (length lost) o.faults (fault_count new.disk)) (sym opened)
        (rises_still (length lost) old.opening.faults (fault_count old.disk) (fault_count new.disk) counts holds.faults)

    module _ (body : List ℕ) (moments : (bodies : Bodies) → IsAtRest seen may_leave bodies old → LeavesOnly clock left_since old.disk new.disk (IsBeforeOrAfter old.kind bodies body)) (rest : IsAtRest seen may_leave (opening ++ written) old) where
      pub appended : ((bodies : Bodies) → IsAtRest seen may_leave bodies old → IsAtRest seen may_leave (bodies ++ body ∷ []) new) → Held opening (written ++ body ∷ []) lost new
      appended rests = record {
        now = inl (subst (λ (l : Bodies). IsAtRest seen may_leave l new) (append_assoc opening written (body ∷ [])) (rests (opening ++ written) rest));
        since = since_then (IsBeforeOrAfter old.kind (opening ++ written) body) (written ++ body ∷ []) lost
            (left_written old.kind opening written lost body) (either_written old.kind opening written lost body) (moments (opening ++ written) rest);
        behind = all_map (λ one. IsPrefix one.behind written) (λ one. IsPrefix one.behind (written ++ body ∷ []))
            (λ one is. prefix_grows one.behind written (body ∷ []) is) lost holds.behind;
        faults = still;
      }

      pub unsettled : ((bodies : Bodies) → IsAtRest seen may_leave bodies old → IsUnsettled seen may_leave bodies body new) → Rises (fault_count old.disk) (fault_count new.disk)
          → Held opening written (lost ++ lost_behind written body ∷ []) new
      unsettled hangs rises = record {
        now = inr (record { earlier = lost; body = body; last = refl; unsettled = hangs (opening ++ written) rest });
        since = since_then (IsBeforeOrAfter old.kind (opening ++ written) body) written (lost ++ lost_behind written body ∷ [])
            (λ image left. left_lost old.kind opening written lost body image (lost_behind written body) left)
            (λ image either. either_lost old.kind opening written (lost ++ lost_behind written body ∷ []) image lost body refl either)
            (moments (opening ++ written) rest);
        behind = all_push (λ one. IsPrefix one.behind written) lost (lost_behind written body) holds.behind ([], append-nil written);
        faults = subst (λ (o : Opening). RisesBy (length (lost ++ lost_behind written body ∷ [])) o.faults (fault_count new.disk)) (sym opened)
            (rises_more (length lost) (length (lost ++ lost_behind written body ∷ [])) old.opening.faults (fault_count old.disk) (fault_count new.disk)
            (length-append lost (lost_behind written body ∷ [])) counts rises holds.faults);
      }

    module _ (moments : (bodies : Bodies) (body : List ℕ) → IsUnsettled seen may_leave bodies body old → LeavesOnly clock left_since old.disk new.disk (IsBeforeOrAfter old.kind bodies body)) where
      after_repair : (losing : IsLosing seen may_leave opening written lost old) → IsAtRest seen may_leave (opening ++ written) new ⊎ IsLosing seen may_leave opening written lost new
          → Held opening written lost new
      after_repair losing now = record {
        now = now;
        since = since_then (IsBeforeOrAfter old.kind (opening ++ written) losing.body) written lost (λ image left. left)
            (λ image either. either_lost old.kind opening written lost image losing.earlier losing.body losing.last either)
            (moments (opening ++ written) losing.body losing.unsettled);
        behind = holds.behind;
        faults = still;
      }

      pub repaired : ((bodies : Bodies) (body : List ℕ) → IsUnsettled seen may_leave bodies body old → IsAtRest seen may_leave bodies new)
          → IsLosing seen may_leave opening written lost old → Held opening written lost new
      repaired rests losing = after_repair losing (inl (rests (opening ++ written) losing.body losing.unsettled))

      pub not_repaired : ((bodies : Bodies) (body : List ℕ) → IsUnsettled seen may_leave bodies body old → IsUnsettled seen may_leave bodies body new)
          → IsLosing seen may_leave opening written lost old → Held opening written lost new
      not_repaired hangs losing = after_repair losing
          (inr (record { earlier = losing.earlier; body = losing.body; last = losing.last; unsettled = hangs (opening ++ written) losing.body losing.unsettled }))

  -- which of the two a journal is in
  pub rests_on : (opening written : Bodies) (lost : List Lost) (journal : JournalState D) → IsReady journal
      → IsAtRest seen may_leave (opening ++ written) journal ⊎ IsLosing seen may_leave opening written lost journal → IsAtRest seen may_leave (opening ++ written) journal
  rests_on opening written lost journal ready (inl rest) = rest
  rests_on opening written lost journal ready (inr losing) = absurd (ready_failed losing.unsettled.reached (sym ready ∙ losing.unsettled.failed))

  pub loses : (opening written : Bodies) (lost : List Lost) (journal : JournalState D) → HasFailed journal
      → IsAtRest seen may_leave (opening ++ written) journal ⊎ IsLosing seen may_leave opening written lost journal → IsLosing seen may_leave opening written lost journal
  loses opening written lost journal failed (inl rest) = absurd (ready_failed failed.0 (sym rest.ready ∙ failed.1))
  loses opening written lost journal failed (inr losing) = losing

  -- an append that was refused
  pub append_refused : (opening written : Bodies) (lost : List Lost) (old new : JournalState D) → IsReady old → (body : List ℕ) (stage : Stage) → new ≡ record old { disk = new.disk; stage = stage }
      → fault_count old.disk ≤ fault_count new.disk → (2 ^ 40 < old.gate + 10 + length body → new ≡ old) → (why : JournalRefused)
      → AppendRefused (old.gate + 1) (old.gate + 10 + length body) (fault_count old.disk) (fault_count new.disk) why
      → ((bodies : Bodies) → IsAtRest seen may_leave bodies old → LeavesOnly clock left_since old.disk new.disk (IsBeforeOrAfter old.kind bodies body))
      → (why ≡ refused.Unknown → (bodies : Bodies) → IsAtRest seen may_leave bodies old → IsUnsettled seen may_leave bodies body new)
      → Held opening written lost old → Held opening written (lost_by (unwritten_of why) written body lost) new
  append_refused opening written lost old new ready body stage is counts full (refused.JournalFull end wanted) cause moments unknown holds =
      subst (λ j. Held opening written lost j) (sym (full cause.2)) holds
  append_refused opening written lost old new ready body stage is counts full refused.Unknown cause moments unknown holds =
      unsettled opening written lost old new holds old.gate stage is counts body moments (rests_on opening written lost old ready holds.now) (unknown refl) cause.1
  append_refused opening written lost old new ready body stage is counts full refused.NotAJournal cause moments unknown holds = absurd cause
  append_refused opening written lost old new ready body stage is counts full refused.JournalThere cause moments unknown holds = absurd cause
  append_refused opening written lost old new ready body stage is counts full (refused.BadRecord at) cause moments unknown holds = absurd cause
  append_refused opening written lost old new ready body stage is counts full refused.DiskFault cause moments unknown holds = absurd cause
  append_refused opening written lost old new ready body stage is counts full refused.OutOfMemory cause moments unknown holds = absurd cause
