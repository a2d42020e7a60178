use Rattle.std.proofs.Common.{ℕ, List, ap, ◌∙◌}
use Rattle.uuid.specs.Parts.{with_variant, with_version}
use Rattle.uuid.specs.declared.Variant.TheVariants as variant
use Rattle.uuid.specs.declared.Version.TheVariants as version
use Rattle.pol_table_actions.specs.Creation.{uuid_of}
use Rattle.pol_table_actions.proofs.creation.uuid_of.Goals as goal

pub returns : goal.returns
unfolding uuid_of
returns c =
    c.into_uuid.ensures
    ∙ c.from_random_bytes.ensures.value
    ∙ ap (λ (bytes : List ℕ). with_version (with_variant bytes variant.RFC4122) version.Random) (c.into_bytes-bytes.ensures ∙ c.from_u64_pair.ensures)
