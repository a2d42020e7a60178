use Rattle.std.proofs.Common.{◌≡◌, take}
use Rattle.pol_meta.specs.Valid.{schema_ids}
use Rattle.pol_metacodec.proofs.ids.schema_ids.Given as goal

abbrev pub invariant-loop-schema : goal.invariant-loop-schema
invariant-loop-schema l = l.ids.items ≡ schema_ids (take l.schema-index l.schemas)
