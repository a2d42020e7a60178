-- Weights as 64 bits tell them, and rules that pass.
use Rattle.std.proofs.Common.{◌≡◌, ℕ, ◌-◌, ◌^◌, min, Bool, true, false, nat_le, nat_lt, Option, is_none, Result, Ok, Err, refl, sym, ap, ◌∙◌, arith}
use Rattle.std.proofs.Math.Nat.{min-eq_left, min-eq_right}
use Rattle.std.proofs.lemmas.Bool.{lt-leb, ltb-false, ltb-true}
use Rattle.std.specs.Bool.{⊤}
use Rattle.std.specs.Result.{is_ok}
use Rattle.pol_commands.specs.declared.reply.Refusal.{Refusal}
use Rattle.pol_meta.specs.Weight.{capped}
use Rattle.pol_rules.specs.Judged.{Sees}

-- a weight as 64 bits tell it is at most the bound of weights exactly where it is so itself
pub light_capped : (weight : ℕ) → nat_le (capped weight) 16777216 ≡ nat_le weight 16777216
unfolding capped
light_capped weight = by (nat_lt (2 ^ 64 - 1) weight) refl
  where
    by : (b : Bool) → nat_lt (2 ^ 64 - 1) weight ≡ b → nat_le (min weight (2 ^ 64 - 1)) 16777216 ≡ nat_le weight 16777216
    by true is =
        let over = ltb-true (2 ^ 64 - 1) weight is in
        ap (λ one. nat_le one 16777216) (min-eq_right {n = 2 ^ 64 - 1} {m = weight} (omega (arith, over))) ∙ sym (lt-leb weight 16777216 (omega (arith, over)))
    by false is =
        let within = ltb-false (2 ^ 64 - 1) weight is in
        ap (λ one. nat_le one 16777216) (min-eq_left within)

-- a rule passes exactly where what judges it answers Ok
pub seen_passes : {T : Type 0} (rule : Option Refusal) (result : Result T Refusal) → Sees rule (λ found. ⊤) result → is_none rule ≡ is_ok result
seen_passes rule (Ok found) sees = ap is_none sees.0
seen_passes rule (Err why) sees = ap is_none sees
