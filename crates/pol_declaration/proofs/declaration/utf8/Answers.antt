use Rattle.std.proofs.Common.{refl}
use Rattle.pol_declaration.proofs.TextLemmas.{utf8_holds, utf8_fails}
use Rattle.pol_declaration.proofs.declaration.utf8.Goals as goal

pub returns-in-Ok : goal.returns-in-Ok
returns-in-Ok c = (c.in-Ok.ensures.cases.0, utf8_holds _ c.in-Ok.ensures.cases.1)

pub returns-in-Err : goal.returns-in-Err
returns-in-Err c = (refl, utf8_fails _ c.in-Err.ensures.cases.0)
