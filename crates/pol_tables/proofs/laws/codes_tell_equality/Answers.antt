use Rattle.std.proofs.Common.{ap, sym, ◌∙◌}
use Rattle.pol_tables.specs.Same.{same}
use Rattle.pol_tables.proofs.SameLemmas.{same-true, same-refl}
use Rattle.pol_tables.proofs.laws.codes_tell_equality.Goals as goal

pub returns : goal.returns
returns g c = λ code left right. (same-true code left right, λ is. ap (same code left) (sym is) ∙ same-refl code left)
