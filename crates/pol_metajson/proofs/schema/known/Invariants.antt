use Rattle.std.proofs.Common.{◌≡◌, drop}
use Rattle.pol_meta.specs.Columns.{has_field}
use Rattle.pol_metajson.specs.Known.{known_from}
use Rattle.pol_metajson.proofs.schema.known.Given as goal

abbrev pub invariant-loop-place : goal.invariant-loop-place
invariant-loop-place l = known_from (has_field l.columns) 0 l.ids ≡ known_from (has_field l.columns) l.place (drop l.place l.ids)
