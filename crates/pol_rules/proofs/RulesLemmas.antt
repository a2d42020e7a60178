-- The first of the rules that fails.
use Rattle.std.proofs.Common.{◌≡◌, ℕ, Bool, true, false, is_some, List, [], ◌∷◌, ◌++◌, Option, None, Some, refl, ap, ◌∙◌}
use Rattle.std.specs.List.{AllByRecursion}
use Rattle.std.specs.Option.{option_or}
use Rattle.pol_commands.specs.Reply.{is_full}
use Rattle.pol_commands.specs.declared.reply.Refusal.{Refusal}
use Rattle.pol_commands.specs.declared.reply.Refusal.TheVariants.{RunFull, NameTaken}
use Rattle.pol_state.specs.Rows.{Rows}
use Rattle.pol_state.specs.Bounds.{first_refusal, refuse_if}
use Rattle.pol_rules.specs.Rules.{run_full, name_taken}

-- a rule that fails first is the answer
pub refusal-stops : (rule : Option Refusal) (why : Refusal) (rules : List (Option Refusal)) → rule ≡ Some why → first_refusal (rule ∷ rules) ≡ Some why
refusal-stops rule why rules fails = ap (λ first. first_refusal (first ∷ rules)) fails

-- rules that come later are judged where those before them pass
pub first-joined : (rules more : List (Option Refusal)) → first_refusal (rules ++ more) ≡ option_or (first_refusal rules) (first_refusal more)
first-joined [] more = refl
first-joined (None ∷ rules) more = first-joined rules more
first-joined (Some why ∷ rules) more = refl

-- and so is the one that comes last
pub first-then : (rules : List (Option Refusal)) (last : Option Refusal) → first_refusal (rules ++ last ∷ []) ≡ option_or (first_refusal rules) last
first-then rules last = first-joined rules (last ∷ []) ∙ ap (option_or (first_refusal rules)) (alone last)
  where
    alone : (rule : Option Refusal) → first_refusal (rule ∷ []) ≡ rule
    alone None = refl
    alone (Some why) = refl

-- neither of two fails
pub none-either : (first second : Option Refusal) → option_or first second ≡ None → (first ≡ None) × (second ≡ None)
none-either None second none = (refl, none)
none-either (Some why) second none = let contrary : Some why ≡ None = none in cc

-- whether a rule says that the run is full
abbrev pub tells_full : Option Refusal → Bool
tells_full None = false
tells_full (Some why) = is_full why

pub refuse_if-other : (test : Bool) (why : Refusal) → is_full why ≡ false → tells_full (refuse_if test why) ≡ false
refuse_if-other true why other = other
refuse_if-other false why other = refl

-- where no rule says so, neither does the first that fails
pub first-other : (rules : List (Option Refusal)) → AllByRecursion (λ rule. tells_full rule ≡ false) rules → tells_full (first_refusal rules) ≡ false
first-other [] others = refl
first-other (None ∷ rules) others = first-other rules others.1
first-other (Some why ∷ rules) others = others.0

-- the rule on the charges says so wherever it fails
refuse_if-full : (test : Bool) (charged charge : ℕ) → tells_full (refuse_if test (RunFull charged charge)) ≡ is_some (refuse_if test (RunFull charged charge))
refuse_if-full true charged charge = refl
refuse_if-full false charged charge = refl

pub run_full-tells : (s : Rows) (charge : ℕ) → tells_full (run_full s charge) ≡ is_some (run_full s charge)
unfolding run_full
run_full-tells s charge = refuse_if-full _ s.charged charge

-- nor does the first of two
pub either-other : (first second : Option Refusal) → tells_full first ≡ false → tells_full second ≡ false → tells_full (option_or first second) ≡ false
either-other None second other also = also
either-other (Some why) second other also = other

-- a rule that passes
pub refused-not : (test : Bool) (why : Refusal) → refuse_if test why ≡ None → test ≡ false
refused-not true why passes = let contrary : Some why ≡ None = passes in cc
refused-not false why passes = refl

-- nothing has a name that is free
pub name-free : {A : Type 0} (found : Option A) (name : List ℕ) → name_taken found name ≡ None → found ≡ None
unfolding name_taken
name-free None name passes = refl
name-free (Some one) name passes = let contrary : Some (NameTaken name) ≡ None = passes in cc
