-- Which id may be given out after the highest that is there.
use Rattle.std.proofs.Common.{◌≡◌, ◌<◌, ◌≤◌, ◌+◌, ℕ, Ok, Err, arith}
use Rattle.std.proofs.lemmas.Bool.{le-ltb, lt-ltb}
use Rattle.pol_meta.specs.declared.why.Why.TheVariants.{IdsUsedUp}
use Rattle.pol_drafts.specs.Ids.{given}

pub given_below : (highest : ℕ) → highest < 2147483647 → given (highest + 1) ≡ Ok (highest + 1)
unfolding given
given_below highest below =
    let within : highest + 1 ≤ 2147483647 = omega arith in
    rw (le-ltb 2147483647 (highest + 1) within)

pub given_above : (highest : ℕ) → 2147483647 ≤ highest → given (highest + 1) ≡ Err IdsUsedUp
unfolding given
given_above highest above =
    let over : 2147483647 < highest + 1 = omega arith in
    rw (lt-ltb 2147483647 (highest + 1) over)

pub ruleset next_ids = (given_below, given_above)
