-- Moves that are at most one more than a version.
use Rattle.std.proofs.Common.{◌≡◌, ℕ, ◌+◌, ◌-◌, ◌≤◌, nat_le, arith}
use Rattle.std.proofs.lemmas.Bool.Decides.{same_from_decides, Decides-like}
use Rattle.pol_sound_access.proofs.DecidedLemmas.{at-most}

pub moved_told : (moves version : ℕ) → nat_le (moves - 1) version ≡ nat_le moves (version + 1)
moved_told moves version =
    same_from_decides {P = moves ≤ version + 1} (nat_le (moves - 1) version) (nat_le moves (version + 1)) (Decides-like (nat_le (moves - 1) version) (λ less. omega (arith, less)) (λ less. omega (arith, less)) (at-most (moves - 1) version)) (at-most moves (version + 1))
