use Rattle.std.proofs.Common.{◌≡◌, false, length, rules, subst, sym}
use Rattle.std.specs.List.{AllWithin}
use Rattle.std.specs.List.Sorted.{IsPartitionedBy}
use Rattle.std.proofs.lemmas.List.{take_rest}
use Rattle.std.proofs.lemmas.List.Sorted.{IsPartitionPoint-from_clause}
use Rattle.pol_locations.specs.Location.{is_cover}
use Rattle.pol_locations.specs.declared.location_set.Member.{Member}
use Rattle.pol_locations.proofs.NearLemmas.{covered-parts, near-of}
use Rattle.pol_locations.proofs.location_set.near.Goals as goal

pub returns : goal.returns
returns c =
    let members = c.args.members.now in
    let wanted = c.args.wanted.now in
    let place = c.place_of-place.result in
    let split = c.place_of-place.ensures.split in
    let behind = take_rest members place in
    let parted = subst (IsPartitionedBy (λ (member : Member). is_cover wanted member.location)) (sym behind) (covered-parts members place wanted c.requires.ascend split.1) in
    let point = IsPartitionPoint-from_clause (λ (member : Member). is_cover wanted member.location) _ c.partition_point-covered.result c.partition_point-covered.ensures.partitioned parted (λ a r q k. search rules) in
    let uncovered = subst (λ some. AllWithin (λ (member : Member). is_cover wanted member.location ≡ false) some c.partition_point-covered.result (length some)) behind point.1 in
    near-of members wanted c.requires.apart c.requires.ascend place c.partition_point-covered.result c.saturating_sub.result c.place_of-place.ensures.bound split.0 split.1 uncovered c.saturating_sub.ensures
