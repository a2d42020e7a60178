use Rattle.std.proofs.Common.{All, take}
use Rattle.pol_viewjson.specs.Laws.{IsHeldVersion}
use Rattle.pol_viewjson.proofs.held.versions_are_held.Given as goal

abbrev pub invariant-loop-version : goal.invariant-loop-version
invariant-loop-version l = All IsHeldVersion (take l.version-index l.versions)
