-- What the writing of a step's record leaves.
use Rattle.std.proofs.Common.{◌≡◌, inr, Option, Result, Ok, Err, ℕ, ◌+◌, ◌^◌, ◌≤◌, List, [], ◌∷◌, ◌++◌, length, refl, ◌∙◌, ap, arith}
use Rattle.std.specs.Result.{IfErr, OnErr, OnOk}
use Rattle.pol_journal.specs.Journal.{JournalState}
use Rattle.pol_journal.specs.declared.stage.Stage.{Stage}
use Rattle.pol_records.specs.Holding.{Holds, Lost}
use Rattle.pol_records.specs.Unwritten.{IsUnwritten, lost_by, wanted_with}
use Rattle.pol_records.specs.declared.unwritten.Unwritten.{Unwritten}
use Rattle.pol_kept.specs.Stages.{IsLeftOut, IsWritten}

module _ {D : Type 0} (seen : D → Option (List ℕ)) (may_leave : D → List ℕ → Type 0) (clock : D → ℕ) (left_since : D → ℕ → List ℕ → Type 0) (fault_count : D → ℕ) where
  abbrev Held : List (List ℕ) → List (List ℕ) → List Lost → JournalState D → Type 0
  Held = Holds seen may_leave clock left_since fault_count

  module _ (body : List ℕ) (old new : JournalState D) where
    pub written : (disk : D) (stage : Stage) → new ≡ record old { disk = disk; gate = old.gate + 9 + length body; stage = stage }
        → ((opening written : List (List ℕ)) (lost : List Lost) → Held opening written lost old → Held opening (written ++ body ∷ []) lost new)
        → wanted_with old body ≤ 2 ^ 40 → IsWritten seen may_leave clock left_since fault_count (body ∷ []) old new
    written disk stage after holds fits = record {
      holds = holds;
      end = ap (λ (j : JournalState D). j.gate) after ∙ omega arith;
      opened = ap (λ (j : JournalState D). j.opening) after;
      fits = inr (omega (arith, fits));
      idle = λ none. absurd (cc);
    }

    pub left-out : (why : Unwritten) (disk : D) (stage : Stage) → new ≡ record old { disk = disk; stage = stage }
        → ((opening written : List (List ℕ)) (lost : List Lost) → Held opening written lost old → Held opening written (lost_by why written body lost) new)
        → IsUnwritten fault_count old body new why → IsLeftOut seen may_leave clock left_since fault_count (body ∷ []) old new why
    left-out why disk stage after holds cause = record {
      body = body;
      one = refl;
      holds = holds;
      end = ap (λ (j : JournalState D). j.gate) after;
      opened = ap (λ (j : JournalState D). j.opening) after;
      cause = cause;
    }

-- what is known at the end of a call
pub on-ok : {T E A B C W : Type 0} (r : Result T E) → (A → B → C → W) → OnOk r A → OnOk r B → OnOk r C → OnOk r W
on-ok (Ok x) all a b c = all a b c
on-ok (Err e) all a b c = tt

pub if-err : {T E : Type 0} {A : Type 0} (r : Result T E) (P Q R : E → Type 0) → ((e : E) → A → P e → Q e → R e) → OnErr r A → IfErr r P → IfErr r Q → IfErr r R
if-err (Ok x) P Q R all a p q = tt
if-err (Err e) P Q R all a p q = all e a p q
