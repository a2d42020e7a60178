-- The rules on sizes, and how a rule is printed.
use Rattle.std.specs.Prelude.{ℕ, ◌+◌, ◌-◌, ◌^◌, ◌++◌, List, codes, decimal, min, nat_lt, Option, Some, None, if◌then◌else◌}
use Rattle.pol_objects.specs.declared.rule.ObjectRule.{ObjectRule}
use Rattle.pol_objects.specs.declared.rule.ObjectRule.TheVariants.{NoObject, ObjectThere, TooLong, SpaceFull}

-- the rule that refuses so many bytes where so many are counted: an object has at most 8 MiB, and at most 256 MiB are
-- counted with it
unfoldable pub size_refusal : ℕ → ℕ → Option ObjectRule
size_refusal counted length =
    if nat_lt 8388608 length then Some (TooLong length)
    else if nat_lt 268435456 (counted + length) then Some (SpaceFull (min (counted + length) (2 ^ 64 - 1)))
    else None

-- the text of a refusal
abbrev pub rule_text : ObjectRule → List ℕ
rule_text NoObject = codes "NoObject"
rule_text ObjectThere = codes "ObjectThere"
rule_text (TooLong length) = codes "TooLong: " ++ decimal length
rule_text (SpaceFull counted) = codes "SpaceFull: " ++ decimal counted
