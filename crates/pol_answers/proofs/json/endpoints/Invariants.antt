use Rattle.std.proofs.Common.{◌≡◌, map, take}
use Rattle.pol_requests.specs.Table.{entry_of}
use Rattle.pol_answers.specs.Json.{endpoints_of}
use Rattle.pol_answers.proofs.json.endpoints.Given as goal

abbrev pub invariant-loop-row : goal.invariant-loop-row
invariant-loop-row l = l.texts.items ≡ endpoints_of (map entry_of (take l.row-index l.rows))
