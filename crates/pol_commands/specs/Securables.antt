-- Securables as refusals show them.
use Rattle.std.specs.Prelude.{ℕ, List, ◌∷◌, ◌++◌, codes}
use Rattle.pol_names.specs.Namespace.{dotted}
use Rattle.pol_commands.specs.declared.securables.SecurableName.{SecurableName}
use Rattle.pol_commands.specs.declared.securables.SecurableName.TheVariants as name

-- the kind of a securable, its catalogue, and its name there
abbrev pub securable_text : SecurableName → List ℕ
securable_text name.Realm = codes "realm"
securable_text (name.Catalog catalog) = codes "catalogue " ++ catalog
securable_text (name.Namespace catalog levels) = codes "namespace " ++ catalog ++ 0x2F ∷ dotted levels
securable_text (name.Table catalog identifier) =
    codes "table " ++ catalog ++ 0x2F ∷ dotted identifier.namespace ++ 0x2E ∷ identifier.name
securable_text (name.View catalog identifier) =
    codes "view " ++ catalog ++ 0x2F ∷ dotted identifier.namespace ++ 0x2E ∷ identifier.name
