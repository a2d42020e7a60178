use Rattle.std.proofs.Common.{◌+◌, ◌++◌, List, ℕ, length, take, ap, arith, sym, ◌∙◌}
use Rattle.std.specs.Hash as fed
use Rattle.std.proofs.lemmas.List.{length-take-le}
use Rattle.pol_tables.specs.Number.{number_of}
use Rattle.pol_content.specs.Numbers.{namespace_number}
use Rattle.pol_content.proofs.AboveLemmas.{count-above, number-above}
use Rattle.pol_content.proofs.rows.NamespaceRowGrouped.group.Goals as goal

pub overflow_add-place : goal.overflow_add-place
overflow_add-place c = omega (arith, c.requires, count-above c.args.self.now, c.levels.ensures.named.bounded)

pub slice_bounds-number_of-end : goal.slice_bounds-number_of-end
slice_bounds-number_of-end c =
    let within = ap (λ (levels : List (List ℕ)). length levels) c.levels.ensures.value in
    sym (length-take-le (c.args.place + 1) c.levels.result.now (omega (arith, within, c.requires, count-above c.args.self.now)))

pub returns : goal.returns
unfolding namespace_number
returns c =
    c.number_of.ensures
    ∙ ap (λ (levels : List (List ℕ)). number_of (fed.u64 c.args.self.now.catalog ++ fed.slice fed.str (take (c.args.place + 1) levels))) c.levels.ensures.value
    ∙ sym (number-above c.args.self.now c.args.place c.requires)
