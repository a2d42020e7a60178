use Rattle.std.proofs.Common.{◌≡◌, take}
use Rattle.std.specs.List.{fold}
use Rattle.serde_json.specs.Data.{no_members}
use Rattle.serde_json.specs.View.{members_view}
use Rattle.pol_metaprint.specs.Json.{put_pair}
use Rattle.pol_metaprint.proofs.members.pair_members.Given as goal

abbrev pub invariant-loop-pair : goal.invariant-loop-pair
invariant-loop-pair l = members_view l.members.entries ≡ fold put_pair no_members (take l.pair-index l.pairs)
