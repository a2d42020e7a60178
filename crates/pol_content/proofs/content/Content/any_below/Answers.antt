use Rattle.std.proofs.Common.{ℕ, ap, sym, ◌∙◌}
use Rattle.std.specs.List.{list_any}
use Rattle.pol_tallies.specs.Grouped.{is_of}
use Rattle.pol_content.specs.Numbers.{numbers_above}
use Rattle.pol_content.proofs.AboveLemmas.{none-stands}
use Rattle.pol_content.proofs.content.Content.any_below.Goals as goal

pub returns-else-any_of : goal.returns-else-any_of
returns-else-any_of c =
    let rows = c.self.inside.namespaces.rows in
    let none = ap (λ (number : ℕ). list_any (is_of numbers_above number) rows) (sym c.number.ensures) ∙ sym c.any_of.ensures ∙ c.if-any_of.false in
    rw (← c.self.view_is) (c.if-any_of.false ∙ sym (none-stands c.args.upper.now rows c.levels-named.ensures.named.filled none))
