use Rattle.std.proofs.Common.{◌≡◌, take}
use Rattle.pol_views.specs.Valid.{version_ids}
use Rattle.pol_viewcodec.proofs.whole.version_ids.Given as goal

abbrev pub invariant-loop-version : goal.invariant-loop-version
invariant-loop-version l = l.ids.items ≡ version_ids (take l.version-index l.versions)
