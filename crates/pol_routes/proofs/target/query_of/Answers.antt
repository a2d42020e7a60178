use Rattle.std.proofs.Common.{ℕ, ◌+◌, ◌-◌, ◌==◌, length, drop, sym, ap, ◌∙◌, arith, rules, take_all, length-drop}
use Rattle.std.proofs.lemmas.List.{drop_all}
use Rattle.std.proofs.lemmas.List.Sums.{position_or_len_is}
use Rattle.pol_routes.specs.Target.{question_mark}
use Rattle.pol_routes.proofs.target.query_of.Goals as goal

pub returns-in-Some : goal.returns-in-Some
returns-in-Some c =
    let target = c.args.target.now in
    let found = position_or_len_is (λ (byte : ℕ). byte == question_mark) target c.in-Some.end 0 (search rules) (search rules) (search rules) in
    take_all (length target - (c.in-Some.end + 1)) (drop (c.in-Some.end + 1) target) (omega (arith, length-drop (c.in-Some.end + 1) target))
    ∙ ap (λ n. drop (n + 1) target) (sym found)

pub returns-in-None : goal.returns-in-None
returns-in-None c =
    let target = c.args.target.now in
    let none = position_or_len_is (λ (byte : ℕ). byte == question_mark) target (length target) 0 (omega arith) (search rules) (search rules) in
    sym (ap (λ n. drop (n + 1) target) none ∙ drop_all (length target + 1) target (omega arith))
