use Rattle.std.proofs.Common.{◌≡◌, string_bytes, take}
use Rattle.std.specs.List.{flat_map}
use Rattle.pol_setup.specs.Setup.{line_of}
use Rattle.pol_setup.proofs.principals.lines_of.Given as goal

abbrev pub invariant-loop-principal : goal.invariant-loop-principal
invariant-loop-principal l = string_bytes l.lines ≡ flat_map line_of (take l.principal-index l.principals)
