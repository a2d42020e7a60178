-- Words with something in brackets.
use Rattle.std.specs.Prelude.{ℕ, ◌-◌, nat_eq, List, codes, drop, take, length, Option, Some, None, option_and_then, if◌then◌else◌}
use Rattle.std.specs.List.{ends_with, starts_with}
use Rattle.pol_metajson.specs.Numeral.{numeral}

-- what stands behind a beginning, and what stands before an end
abbrev pub behind : List ℕ → List ℕ → Option (List ℕ)
behind start word = if starts_with nat_eq word start then Some (drop (length start) word) else None

abbrev pub before : List ℕ → List ℕ → Option (List ℕ)
before end word = if ends_with nat_eq word end then Some (take (length word - length end) word) else None

-- what stands between a beginning and an end
abbrev pub between : List ℕ → List ℕ → List ℕ → Option (List ℕ)
between start end word = option_and_then (before end) (behind start word)

-- the number from 1 to 2,147,483,647 between a beginning and a bracket
abbrev pub sized : List ℕ → List ℕ → Option ℕ
sized start word = option_and_then (numeral 1 2147483647) (between start (codes "]") word)
