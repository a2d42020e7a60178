-- A journal of objects while its records are read.
use Rattle.std.proofs.Common.{◌≡◌, inl, inr, Option, ℕ, ◌+◌, ◌≤◌, List, [], ◌∷◌, ◌++◌, length, refl, sym, ◌∙◌, ap, subst, append_assoc, arith}
use Rattle.pol_journal.specs.Crash.{IsUntouched}
use Rattle.pol_journal.specs.Format.{IsBadAt, IsReadTo, header_of, record_of, records_of}
use Rattle.pol_journal.specs.Journal.{HasRead, IsReading, JournalState, MeetsEnd}
use Rattle.pol_journal.specs.Refused.{IsBadIn, NextRefused}
use Rattle.pol_journal.specs.declared.kind.Kind.{Kind}
use Rattle.pol_journal.specs.declared.kind.Kind.TheVariants.{Objects}
use Rattle.pol_journal.specs.declared.refused.JournalRefused.{JournalRefused}
use Rattle.pol_journal.specs.declared.refused.JournalRefused.TheVariants.{NotAJournal, JournalThere, BadRecord, JournalFull, Unknown, DiskFault, OutOfMemory}
use Rattle.pol_journal.specs.declared.stage.Stage.TheVariants.{Ready}
use Rattle.pol_journal.proofs.FormatLemmas.{records-push}
use Rattle.pol_journal.proofs.Moments.{same_after_both}
use Rattle.pol_object_store.specs.Reading.{IsReadOn, IsReadSoFar, IsReadWhole}
use Rattle.pol_object_store.specs.Reopened.{IsRefusedAt, IsUnfit, IsUnfitAt, LeadTo, LeadsBy, RefusedBy}
use Rattle.pol_object_store.proofs.LeadLemmas.{lead_push}
use Rattle.pol_objects.specs.Objects.{Object}
use Rattle.pol_wire.specs.Faults.{Rises}

rises_later : (old mid new : ℕ) → old ≤ mid → Rises mid new → Rises old new
rises_later old mid new later (inl above) = inl (omega (arith, later, above))
rises_later old mid new later (inr end) = inr end

-- a refusal of what comes later
pub refused_map : (N : Type 0) (P Q : ℕ → Type 0) → ((at : ℕ) → P at → Q at) → (old mid new : ℕ) → old ≤ mid → (why : JournalRefused)
    → RefusedBy ⊥ P mid new why → RefusedBy N Q old new why
refused_map N P Q holds old mid new later NotAJournal is = absurd is
refused_map N P Q holds old mid new later JournalThere is = is
refused_map N P Q holds old mid new later (BadRecord at) is = holds at is
refused_map N P Q holds old mid new later (JournalFull length wanted) is = is
refused_map N P Q holds old mid new later Unknown is = is
refused_map N P Q holds old mid new later DiskFault is = rises_later old mid new later is
refused_map N P Q holds old mid new later OutOfMemory is = is

-- the records before a gate at which one stands that leads nowhere
unfit_here : (kind : Kind) (bodies : List (List ℕ)) (objects : List Object) (body : List ℕ) (gate next : ℕ) (file : List ℕ) → kind ≡ Objects → LeadTo [] bodies objects
    → IsReadTo kind bodies gate file → IsReadTo kind (bodies ++ body ∷ []) next file → IsUnfit body objects → IsUnfitAt gate file
unfit_here kind bodies objects body gate next file is leads before after unfit = record {
  bodies = bodies;
  objects = objects;
  leads = leads;
  read = record {
    long = before.long;
    tail = record_of body ++ after.tail;
    bytes = after.bytes
        ∙ ap (λ (l : List ℕ). header_of kind ++ l) (ap (λ (l : List ℕ). l ++ after.tail) (records-push bodies body) ∙ append_assoc (records_of bodies) (record_of body) after.tail)
        ∙ ap (λ (k : Kind). header_of k ++ (records_of bodies ++ (record_of body ++ after.tail))) is;
    place = before.place;
  };
  body = body;
  stands = record { rest = after.tail; bytes = refl };
  unfit = unfit;
}

module _ {D : Type 0} (seen : D → Option (List ℕ)) (may_leave : D → List ℕ → Type 0) (clock : D → ℕ) (left_since : D → ℕ → List ℕ → Type 0) (fault_count : D → ℕ) (size : D → Option ℕ) where
  abbrev SoFar : List ℕ → List (List ℕ) → JournalState D → List Object → Type 0
  SoFar = IsReadSoFar seen may_leave clock left_since fault_count

  abbrev On : JournalState D → JournalState D → Type 0
  On = IsReadOn seen may_leave clock left_since fault_count size

  -- where the loop over all records stands
  pub record Reads (first now : JournalState D) (objects : List Object) : Type 0 where
    pub reading : IsReading now
    pub read : (file : List ℕ) → SoFar file [] first [] → (bodies : List (List ℕ)) × SoFar file bodies now objects
    pub on : On first now

  module _ (first now then : JournalState D) (objects : List Object) (reads : Reads first now objects) where
    -- why no record was given
    pub next_refused : (new : ℕ) (why : JournalRefused) → NextRefused now.gate (fault_count now.disk) new why
        → ((file : List ℕ) (bodies : List (List ℕ)) → HasRead seen may_leave clock left_since fault_count file bodies now → IsBadIn now.kind file why)
        → RefusedBy ⊥ (λ at. (file : List ℕ) → SoFar file [] first [] → IsRefusedAt at file) (fault_count first.disk) new why
    next_refused new NotAJournal is bad = is
    next_refused new JournalThere is bad = is
    next_refused new (BadRecord at) is bad =
        λ file was. let so_far = reads.read file was in inl (subst (λ (k : Kind). IsBadAt k at file) so_far.1.kind (bad file so_far.0 so_far.1.read))
    next_refused new (JournalFull length wanted) is bad = is
    next_refused new Unknown is bad = is
    next_refused new DiskFault is bad = rises_later (fault_count first.disk) (fault_count now.disk) new reads.on.kept is
    next_refused new OutOfMemory is bad = is

    -- none was left
    pub reads_whole : then ≡ record now { disk = then.disk; stage = Ready } → ((file : List ℕ) (bodies : List (List ℕ)) → HasRead seen may_leave clock left_since fault_count file bodies now → MeetsEnd seen may_leave clock left_since fault_count file bodies then)
        → (file : List ℕ) → SoFar file [] first [] → IsReadWhole seen may_leave clock left_since fault_count file then objects
    reads_whole same meets file was =
        let so_far = reads.read file was in record {
          bodies = so_far.0;
          kind = ap (λ (j : JournalState D). j.kind) same ∙ so_far.1.kind;
          met = meets file so_far.0 so_far.1.read;
          leads = so_far.1.leads;
        }

    -- a record was given
    module _ (body : List ℕ) (same : then ≡ record now { disk = then.disk; last = now.gate; gate = now.gate + 9 + length body })
        (more : (file : List ℕ) (bodies : List (List ℕ)) → HasRead seen may_leave clock left_since fault_count file bodies now → HasRead seen may_leave clock left_since fault_count file (bodies ++ body ∷ []) then) where
      -- and its change made
      pub reads_more : (next : List Object) → LeadsBy body objects next → IsUntouched clock left_since may_leave seen size now.disk then.disk → fault_count now.disk ≤ fault_count then.disk
          → Reads first then next
      reads_more next by untouched kept = record {
        reading = ap (λ (j : JournalState D). j.stage) same ∙ reads.reading;
        read = λ file was.
            let so_far = reads.read file was in (
              so_far.0 ++ body ∷ [],
              record {
                kind = ap (λ (j : JournalState D). j.kind) same ∙ so_far.1.kind;
                read = more file so_far.0 so_far.1.read;
                leads = lead_push [] objects next so_far.0 body so_far.1.leads by;
              },
            );
        on = record {
          same = subst (λ (j : JournalState D). j ≡ record first { disk = j.disk; last = j.last; gate = j.gate; stage = j.stage }) (sym same)
              (ap (λ (j : JournalState D). record j { disk = then.disk; last = now.gate; gate = now.gate + 9 + length body }) reads.on.same);
          untouched = same_after_both reads.on.untouched untouched;
          kept = omega (arith, reads.on.kept, kept);
        };
      }

      -- and its body leads nowhere
      pub reads_unfit : IsUnfit body objects → (file : List ℕ) → SoFar file [] first [] → IsRefusedAt now.gate file
      reads_unfit unfit file was =
          let so_far = reads.read file was in
          inr (unfit_here now.kind so_far.0 objects body now.gate then.gate file so_far.1.kind so_far.1.leads so_far.1.read.read
          (subst (λ (k : Kind). IsReadTo k (so_far.0 ++ body ∷ []) then.gate file) (ap (λ (j : JournalState D). j.kind) same) (more file so_far.0 so_far.1.read).read) unfit)
