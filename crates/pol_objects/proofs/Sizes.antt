-- What the rules of a put answer.
use Rattle.std.proofs.Common.{◌≡◌, ◌≤◌, ◌<◌, ◌+◌, ◌-◌, ◌^◌, ℕ, true, false, List, length, min, None, Some, is_some, refl, ap, arith}
use Rattle.std.specs.Prelude.{nat_lt}
use Rattle.std.proofs.lemmas.Grind.{common_steps}
use Rattle.pol_objects.specs.Machine.{put_refusal}
use Rattle.pol_objects.specs.Objects.{object_at}
use Rattle.pol_objects.specs.Rules.{size_refusal}
use Rattle.pol_objects.specs.declared.object_state.ObjectState.{ObjectState}
use Rattle.pol_objects.specs.declared.rule.ObjectRule.TheVariants.{ObjectThere, TooLong, SpaceFull}

pub too_long : (counted length : ℕ) → 8388608 < length → Some (TooLong length) ≡ size_refusal counted length
unfolding size_refusal
too_long counted length above =
    let long : nat_lt 8388608 length ≡ true = grind (arith, common_steps) in
    rw long refl

pub space_full : (counted length sum : ℕ) → length ≤ 8388608 → sum ≡ min (counted + length) (2 ^ 64 - 1) → 268435456 < sum → Some (SpaceFull sum) ≡ size_refusal counted length
unfolding size_refusal
space_full counted length sum within is above =
    let short : nat_lt 8388608 length ≡ false = grind (arith, common_steps) in
    let over : 268435456 < counted + length = omega arith in
    let full : nat_lt 268435456 (counted + length) ≡ true = grind (arith, common_steps) in
    rw (short, full) (ap (λ told. Some (SpaceFull told)) is)

pub fits : (counted length sum : ℕ) → length ≤ 8388608 → sum ≡ min (counted + length) (2 ^ 64 - 1) → sum ≤ 268435456 → None ≡ size_refusal counted length
unfolding size_refusal
fits counted length sum within is below =
    let short : nat_lt 8388608 length ≡ false = grind (arith, common_steps) in
    let under : counted + length ≤ 268435456 = omega arith in
    let room : nat_lt 268435456 (counted + length) ≡ false = grind (arith, common_steps) in
    rw (short, room) refl

pub there : (state : ObjectState) (path : List (List ℕ)) (bytes : List ℕ) → is_some (object_at state.objects path) ≡ true → Some ObjectThere ≡ put_refusal state path bytes
unfolding put_refusal
there state path bytes some = rw some refl

pub new : (state : ObjectState) (path : List (List ℕ)) (bytes : List ℕ) → is_some (object_at state.objects path) ≡ false → size_refusal state.counted (length bytes) ≡ put_refusal state path bytes
unfolding put_refusal
new state path bytes none = rw none refl
