-- Bounds that are read off their table.
use Rattle.std.proofs.Common.{◌≡◌, ℕ, ◌≤◌, ◌^◌, Bool, true, false, nat_lt, List, [], ◌∷◌, Option, None, Some, refl, ap, ◌∙◌}
use Rattle.std.proofs.lemmas.Bool.{ltb-false}
use Rattle.pol_commands.specs.declared.reply.Quantity.{Quantity}
use Rattle.pol_commands.specs.declared.reply.Quantity.TheVariants as quantity
use Rattle.pol_commands.specs.declared.reply.Refusal.{Refusal}
use Rattle.pol_commands.specs.declared.reply.Refusal.TheVariants.{Limit}
use Rattle.pol_state.specs.Bounds.{above, bound_of, first_refusal, limits, over_limit, refuse_if, EachPasses}
use Rattle.pol_state.specs.Rows.{Rows}
use Rattle.pol_state.specs.Sound.{IsSound}

-- a rule that passes leaves it to those after it
pub refusal-past : (rule : Option Refusal) (rules : List (Option Refusal)) (first : Option Refusal) → rule ≡ None → first_refusal rules ≡ first → first_refusal (rule ∷ rules) ≡ first
refusal-past rule rules first passes rest = ap (λ one. first_refusal (one ∷ rules)) passes ∙ rest

-- no rule fails exactly where each passes
pub refusal-none : (rules : List (Option Refusal)) → EachPasses rules → first_refusal rules ≡ None
refusal-none [] passes = refl
refusal-none (rule ∷ rules) passes = refusal-past rule rules None passes.0 (refusal-none rules passes.1)

pub EachPasses-none : (rules : List (Option Refusal)) → first_refusal rules ≡ None → EachPasses rules
EachPasses-none [] none = tt
EachPasses-none (None ∷ rules) none = (refl, EachPasses-none rules none)
EachPasses-none (Some why ∷ rules) none = let contrary : Some why ≡ None = none in cc

-- a number that isn't above its bound
pub above-within : (kind : Quantity) (number : ℕ) → above kind number ≡ None → number ≤ bound_of kind
above-within kind number passes = by (nat_lt (bound_of kind) number) refl passes
  where
    by : (b : Bool) → nat_lt (bound_of kind) number ≡ b → refuse_if b (Limit kind (bound_of kind)) ≡ None → number ≤ bound_of kind
    by true is contrary = cc
    by false is none = ltb-false (bound_of kind) number is

module _ (s : Rows) (sound : IsSound s) where
  pub each-within : EachPasses (limits s)
  unfolding over_limit
  each-within = EachPasses-none (limits s) sound.within

  pub next_id_bound : s.next_id ≤ 2 ^ 62
  next_id_bound = above-within quantity.NextId s.next_id each-within.1.1.1.1.1.1.1.1.1.1.1.1.1.1.1.1.1.1.1.1.1.1.1.0

  pub next_serial_bound : s.next_serial ≤ 2 ^ 62
  next_serial_bound =
      above-within quantity.NextSerial s.next_serial each-within.1.1.1.1.1.1.1.1.1.1.1.1.1.1.1.1.1.1.1.1.1.1.1.1.0
