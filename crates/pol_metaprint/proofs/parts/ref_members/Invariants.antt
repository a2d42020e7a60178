use Rattle.std.proofs.Common.{◌≡◌, take}
use Rattle.std.specs.List.{fold}
use Rattle.serde_json.specs.Data.{no_members}
use Rattle.serde_json.specs.View.{members_view}
use Rattle.pol_metaprint.specs.Json.{put_ref}
use Rattle.pol_metaprint.proofs.parts.ref_members.Given as goal

abbrev pub invariant-loop-named : goal.invariant-loop-named
invariant-loop-named l = members_view l.members.entries ≡ fold put_ref no_members (take l.named-index l.refs)
