-- Loops that judge one of several after the other: what is left of them tells what all do.
use Rattle.std.proofs.Common.{◌≡◌, ℕ, ◌+◌, ◌<◌, ◌≤◌, List, [], ◌∷◌, drop, get_or, length, Option, None, Some, refl, sym, ap, ◌∙◌}
use Rattle.std.specs.Option.{option_or}
use Rattle.std.proofs.lemmas.List.{at_drop_all, at_drop_more}
use Rattle.pol_commands.specs.declared.reply.Refusal.{Refusal}
use Rattle.pol_state.specs.Bounds.{first_refusal}

-- the rule on those that are left is the rule on the first of them, else that on the others
pub record Judging {X : Type 0} (all : ℕ → List X → Option Refusal) (rule : ℕ → X → Option Refusal) : Type 0 where
  pub step : (i : ℕ) (x : X) (xs : List X) → all i (x ∷ xs) ≡ option_or (rule i x) (all (i + 1) xs)
  pub none : (i : ℕ) → all i [] ≡ None

module _ {X : Type 0} (all : ℕ → List X → Option Refusal) (rule : ℕ → X → Option Refusal) (judging : Judging all rule) where
  at_first : (xs : List X) (i : ℕ) (x : X) (told : Option Refusal) → i < length xs → x ≡ get_or xs i x → rule i x ≡ told → all i (drop i xs) ≡ option_or told (all (i + 1) (drop (i + 1) xs))
  at_first xs i x told inside is tells =
      at_drop_more (all i) xs i x inside
      ∙ judging.step i (get_or xs i x) (drop (i + 1) xs)
      ∙ ap (λ one. option_or one (all (i + 1) (drop (i + 1) xs))) (ap (rule i) (sym is) ∙ tells)

  pub past : (xs : List X) (i : ℕ) (x : X) → i < length xs → x ≡ get_or xs i x → rule i x ≡ None → all (i + 1) (drop (i + 1) xs) ≡ all i (drop i xs)
  past xs i x inside is passes = sym (at_first xs i x None inside is passes)

  pub stops : (xs : List X) (i : ℕ) (x : X) → i < length xs → x ≡ get_or xs i x → (why : Refusal) → rule i x ≡ Some why → all i (drop i xs) ≡ Some why
  stops xs i x inside is why fails = at_first xs i x (Some why) inside is fails

  pub over : (xs : List X) (i : ℕ) → length xs ≤ i → all i (drop i xs) ≡ None
  over xs i few = at_drop_all (all i) xs i few ∙ judging.none i

-- the first of several rules
pub first-step : (rule : Option Refusal) (rules : List (Option Refusal)) → first_refusal (rule ∷ rules) ≡ option_or rule (first_refusal rules)
first-step None rules = refl
first-step (Some why) rules = refl
