use Rattle.std.proofs.Common.{refl}
use Rattle.toml.proofs.Views.{view-Table}
use Rattle.pol_declaration.proofs.declaration.parsed.Goals as goal

pub returns-in-Ok : goal.returns-in-Ok
returns-in-Ok c = rw (c.in-Ok.ensures.ok, view-Table c.in-Ok.table) refl
