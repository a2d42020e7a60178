-- What a sink has after several pieces of a text.
use Rattle.std.proofs.Common.{◌≡◌, ◌≤◌, ◌+◌, ◌-◌, ℕ, List, length, take, drop, Option, Ok, Err, sym, ap, subst, ◌∙◌, inr, arith, length-drop, take-add}
use Rattle.std.specs.Io.KnownBytes.{Appends, Keeps, WriteAppends}
use Rattle.std.proofs.KnownBytes.{Appends-trans, Appends-kept}
use Rattle.std.proofs.lemmas.List.{take_all, take-append-drop}
use Rattle.pol_wire.specs.Faults.{CountsFaults, Rises}
use Rattle.pol_cli.specs.Told.{GivesText}

-- the front of a text was given
pub record GivesFront (old now : Option (List ℕ)) (old_faults now_faults : ℕ) (text : List ℕ) (count : ℕ) : Type 0 where
  pub within : count ≤ length text
  pub same : now_faults ≡ old_faults
  pub gives : Appends old now (take count text)

module _ (old now new : Option (List ℕ)) (old_faults now_faults new_faults : ℕ) (text : List ℕ) (count : ℕ) (front : GivesFront old now old_faults now_faults text count) where
  -- one more piece of it
  pub front-more : {E : Type 0} (piece : List ℕ) (taken : ℕ) → piece ≡ drop count text → WriteAppends {E = E} now new (Ok taken) piece → CountsFaults {E = E} now_faults new_faults (Ok taken)
      → taken ≤ length piece → GivesFront old new old_faults new_faults text (count + taken)
  front-more piece taken is gives counts bound = record {
    within = omega (arith, front.within, bound, length-drop count text, ap length is);
    same = counts.counted ∙ front.same;
    gives = subst (Appends old new) (sym (take-add count taken text)) (Appends-trans old now new (take count text) (take taken (drop count text)) front.gives (subst (λ piece. Appends now new (take taken piece)) is gives));
  }

  -- the sink failed behind the front
  pub front-failed : {E : Type 0} (error : E) → Keeps now new → CountsFaults {A = ℕ} now_faults new_faults (Err error) → GivesText old new old_faults new_faults text
  front-failed error keeps counts = record {
    given = take count text;
    missing = drop count text;
    text_is = sym (take-append-drop count text);
    gives = Appends-kept old now new (take count text) front.gives keeps;
    caused = inr (subst (λ faults. Rises faults new_faults) front.same counts.caused);
  }

-- the rest of a text
pub rest-whole : (text : List ℕ) (count : ℕ) → take (length text - count) (drop count text) ≡ drop count text
rest-whole text count = take_all (length text - count) (drop count text) (omega (arith, length-drop count text))
