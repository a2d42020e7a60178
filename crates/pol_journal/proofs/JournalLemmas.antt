-- A journal from one stage to the next.
use Rattle.std.proofs.Common.{◌≡◌, Option, IsSome, ⊎_elim, ℕ, ◌+◌, ◌≤◌, List, [], ◌∷◌, ◌++◌, length, drop, refl, sym, ◌∙◌, ap, subst, arith}
use Rattle.pol_disk.specs.Disk.{IsDurable, LeavesOnly}
use Rattle.pol_journal.specs.Crash.{After, IsSame, IsUntouched}
use Rattle.pol_journal.specs.Format.{IsClosed, IsRecord, IsReadTo, StandsFor}
use Rattle.pol_journal.specs.Journal.{JournalState, Hangs, IsUnsettled, SinceOpening, HasRead, MeetsEnd}
use Rattle.pol_journal.specs.declared.opening.Opening.{Opening}
use Rattle.pol_journal.specs.declared.stage.Reached.{Reached}
use Rattle.pol_journal.specs.declared.stage.Stage.TheVariants.{Ready, Unsettled}
use Rattle.pol_journal.proofs.ReadLemmas.{one_more, at_end}

same_reached : (r s : Reached) → Unsettled r ≡ Unsettled s → r ≡ s
same_reached r s is = cc

module _ {D : Type 0} (seen : D → Option (List ℕ)) (may_leave : D → List ℕ → Type 0) (bodies : List (List ℕ)) where
  pub hangs_at : (body : List ℕ) (journal : JournalState D) (reached : Reached) → journal.stage ≡ Unsettled reached → IsUnsettled seen may_leave bodies body journal
      → Hangs reached journal.kind bodies body journal.gate (seen journal.disk) (may_leave journal.disk)
  hangs_at body journal reached stage is =
      subst (λ r. Hangs r journal.kind bodies body journal.gate (seen journal.disk) (may_leave journal.disk))
      (same_reached is.reached reached (sym is.failed ∙ stage)) is.hangs

module _ {D : Type 0} (clock : D → ℕ) (left_since : D → ℕ → List ℕ → Type 0) (fault_count : D → ℕ) where
  -- at the opening: what a crash may leave now is all that it may have left since
  pub since_now : (may_leave : D → List ℕ → Type 0) (P : List ℕ → Type 0) (journal : JournalState D)
      → ((image : List ℕ) → left_since journal.disk (clock journal.disk) image → may_leave journal.disk image)
      → journal.opening ≡ record { faults = fault_count journal.disk; moment = clock journal.disk }
      → ((image : List ℕ) → may_leave journal.disk image → P image) → SinceOpening clock left_since fault_count P journal
  since_now may_leave P journal only is holds = record {
    later = omega (arith, ap (λ (o : Opening). o.moment) is);
    counted = omega (arith, ap (λ (o : Opening). o.faults) is);
    images = λ image left. holds image (only image (subst (λ (o : Opening). left_since journal.disk o.moment image) is left));
  }

  -- after a call: what a crash since the opening may have left had P before, or has what the call leaves
  pub since_call : (P Q R : List ℕ → Type 0) (old new : JournalState D) → ((image : List ℕ) → P image → R image) → ((image : List ℕ) → Q image → R image)
      → SinceOpening clock left_since fault_count P old → new.opening ≡ old.opening → LeavesOnly clock left_since old.disk new.disk Q
      → fault_count old.disk ≤ fault_count new.disk → SinceOpening clock left_since fault_count R new
  since_call P Q R old new before after was same moments counts = record {
    later = omega (arith, was.later, moments.later, ap (λ (o : Opening). o.moment) same);
    counted = omega (arith, was.counted, counts, ap (λ (o : Opening). o.faults) same);
    images = λ image left. ⊎_elim
        (λ long. before image (was.images image long))
        (λ now. after image now)
        (moments.before old.opening.moment image was.later (subst (λ (o : Opening). left_since new.disk o.moment image) same left));
  }

-- a journal that is read, and its disk after more was read of it
module _ {D : Type 0} (seen : D → Option (List ℕ)) (may_leave : D → List ℕ → Type 0) (clock : D → ℕ) (left_since : D → ℕ → List ℕ → Type 0) (fault_count : D → ℕ) (size : D → Option ℕ) (bodies : List (List ℕ)) (file : List ℕ) (journal : JournalState D) (read : HasRead seen may_leave clock left_since fault_count file bodies journal) (disk : D) (same : IsUntouched clock left_since may_leave seen size journal.disk disk) (counts : fault_count journal.disk ≤ fault_count disk) where
  still_file : (image : List ℕ) → After IsSame (may_leave journal.disk) image → image ≡ file
  still_file image from = from.2 ∙ subst (λ o. IsDurable o (may_leave journal.disk)) read.told read.durable from.0 from.1

  pub ends : IsClosed (drop journal.gate file)
      → MeetsEnd seen may_leave clock left_since fault_count file bodies (record journal { disk = disk; stage = Ready })
  ends closed =
      let stands : StandsFor journal.kind bodies file = at_end journal.kind bodies journal.gate file read.read closed in record {
        at_rest = record {
          ready = refl;
          stands = record {
            told = subst (λ o. IsSome o) (sym (same.seen_same ∙ read.told)) refl;
            place = read.read.place;
            images = λ image left. subst (StandsFor journal.kind bodies) (sym (still_file image (same.images.now image left))) stands;
          };
        };
        stands = stands;
        since = since_call clock left_since fault_count (λ image. image ≡ file) (After IsSame (may_leave journal.disk)) (StandsFor journal.kind bodies) journal
            (record journal { disk = disk; stage = Ready }) (λ image is. subst (StandsFor journal.kind bodies) (sym is) stands)
            (λ image from. subst (StandsFor journal.kind bodies) (sym (still_file image from)) stands) read.since refl same.images.moments counts;
      }

  pub goes_on : (body : List ℕ) → IsRecord body (drop journal.gate file) → (gate : ℕ) → gate ≡ journal.gate + 9 + length body
      → HasRead seen may_leave clock left_since fault_count file (bodies ++ body ∷ []) (record journal { disk = disk; last = journal.gate; gate = gate })
  goes_on body is gate place = record {
    reading = read.reading;
    told = same.seen_same ∙ read.told;
    durable = subst (λ o. IsDurable o (may_leave disk)) (sym (same.seen_same ∙ read.told)) (λ image left. still_file image (same.images.now image left));
    since = since_call clock left_since fault_count (λ image. image ≡ file) (After IsSame (may_leave journal.disk)) (λ image. image ≡ file) journal
        (record journal { disk = disk; last = journal.gate; gate = gate }) (λ image is. is) still_file read.since refl same.images.moments counts;
    read = subst (λ (n : ℕ). IsReadTo journal.kind (bodies ++ body ∷ []) n file) (sym place) (one_more journal.kind bodies journal.gate file read.read body is);
  }

  -- a call that failed
  pub stays : HasRead seen may_leave clock left_since fault_count file bodies (record journal { disk = disk })
  stays = record {
    reading = read.reading;
    told = same.seen_same ∙ read.told;
    durable = subst (λ o. IsDurable o (may_leave disk)) (sym (same.seen_same ∙ read.told)) (λ image left. still_file image (same.images.now image left));
    since = since_call clock left_since fault_count (λ image. image ≡ file) (After IsSame (may_leave journal.disk)) (λ image. image ≡ file) journal
        (record journal { disk = disk }) (λ image is. is) still_file read.since refl same.images.moments counts;
    read = read.read;
  }
