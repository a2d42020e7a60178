-- Versions: their ids, and those whose schemas are among those of a set.
use Rattle.std.proofs.Common.{◌≡◌, ◌<◌, ◌+◌, ℕ, nat_eq, List, [], ◌∷◌, ◌++◌, length, take, get_or, refl, sym, ap, ◌∙◌}
use Rattle.std.specs.List.{list_all, list_any}
use Rattle.std.proofs.lemmas.List.{map-append, take_more}
use Rattle.pol_meta.specs.Valid.{schema_ids}
use Rattle.pol_metacodec.specs.Whole.{is_among}
use Rattle.pol_views.specs.Valid.{version_ids}
use Rattle.pol_views.specs.declared.metadata.ViewMetadata.{ViewMetadata}
use Rattle.pol_views.specs.declared.version.ViewVersion.{ViewVersion}
use Rattle.pol_viewcodec.specs.Views.{has_schema}

pub named_schemas : (keys : List ℕ) (meta : ViewMetadata) (versions : List ViewVersion) → ((id : ℕ) → list_any (nat_eq id) keys ≡ is_among (schema_ids meta.schemas) id)
    → list_all (λ version. list_any (nat_eq version.schema_id) keys) versions ≡ list_all (has_schema meta) versions
named_schemas keys meta [] same = refl
named_schemas keys meta (version ∷ versions) same = rw (same version.schema_id, named_schemas keys meta versions same) refl

-- the ids of the versions so far, and that of the next
pub ids_more : (versions : List ViewVersion) (i : ℕ) (version : ViewVersion) → i < length versions → version ≡ get_or versions i version
    → version_ids (take (i + 1) versions) ≡ version_ids (take i versions) ++ version.version_id ∷ []
ids_more versions i version within is =
    ap version_ids (take_more versions i version within)
    ∙ map-append (λ (one : ViewVersion). one.version_id) (take i versions) (get_or versions i version ∷ [])
    ∙ ap (λ (one : ViewVersion). version_ids (take i versions) ++ one.version_id ∷ []) (sym is)
