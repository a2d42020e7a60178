use Rattle.std.proofs.Common.{◌≡◌, take}
use Rattle.std.specs.List.{fold}
use Rattle.serde_json.specs.Data.{no_members}
use Rattle.serde_json.specs.View.{members_view}
use Rattle.pol_answers.specs.Json.{with_property}
use Rattle.pol_answers.proofs.json.members_of.Given as goal

abbrev pub invariant-loop-pair : goal.invariant-loop-pair
invariant-loop-pair l =
    members_view l.members.entries ≡ fold with_property no_members (take l.pair-index l.pairs)
