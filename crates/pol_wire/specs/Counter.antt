-- A generator that counts.
use Rattle.std.specs.Prelude.{ℕ, ◌+◌, ◌%◌, ◌^◌}

-- one step: it gives its number and goes on to the next one, modulo 2^64
abbrev pub counting_step : ℕ → ℕ × ℕ
counting_step number = (number, (number + 1) % 2 ^ 64)
