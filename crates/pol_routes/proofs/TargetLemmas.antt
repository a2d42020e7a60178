-- The path of a target is UTF-8 where the target is.
use Rattle.std.proofs.Common.{◌≡◌, ℕ, ◌<◌, ◌≤◌, ◌==◌, List, length, get_or, IsUtf8, arith}
use Rattle.std.specs.List.{position_or_len}
use Rattle.std.proofs.lemmas.Bool.{eqb-true}
use Rattle.std.proofs.lemmas.List.Sums.{passes_at_first, prefix_len-le-length}
use Rattle.std.proofs.lemmas.Str.{IsUtf8-take}
use Rattle.pol_routes.specs.Target.{question_mark, path_of}

pub IsUtf8-path_of : (target : List ℕ) → IsUtf8 target → IsUtf8 (path_of target)
IsUtf8-path_of target utf8 =
    let end = position_or_len (λ byte. byte == question_mark) target in
    IsUtf8-take target end utf8 (prefix_len-le-length _ target, λ inside high. mark inside high)
  where
    mark : position_or_len (λ byte. byte == question_mark) target < length target
        → 128 ≤ get_or target (position_or_len (λ byte. byte == question_mark) target) 0
        → 192 ≤ get_or target (position_or_len (λ byte. byte == question_mark) target) 0
    mark inside high =
        let is : get_or target (position_or_len (λ byte. byte == question_mark) target) 0 ≡ 63 =
        eqb-true _ 63 (passes_at_first (λ byte. byte == question_mark) target 0 inside) in
        absurd (omega (arith, is, high))
