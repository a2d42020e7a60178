-- Securables and their kinds.
use Rattle.std.specs.Prelude.{ℕ, Bool, true, false, Option, None, Some}
use Rattle.pol_access.specs.declared.securable.Securable.{Securable}
use Rattle.pol_access.specs.declared.securable.Securable.TheVariants.{Realm, Catalog, Namespace, Table, View}
use Rattle.pol_access.specs.declared.securable.SecurableKind.{SecurableKind}
use Rattle.pol_access.specs.declared.securable.SecurableKind.TheVariants as kind

abbrev pub kind_of : Securable → SecurableKind
kind_of Realm = kind.Realm
kind_of (Catalog id) = kind.Catalog
kind_of (Namespace id) = kind.Namespace
kind_of (Table id) = kind.Table
kind_of (View id) = kind.View

-- whether it is the realm
abbrev pub is_realm : Securable → Bool
is_realm Realm = true
is_realm (Catalog id) = false
is_realm (Namespace id) = false
is_realm (Table id) = false
is_realm (View id) = false

-- the id of what is below the realm
abbrev pub id_of : Securable → Option ℕ
id_of Realm = None
id_of (Catalog id) = Some id
id_of (Namespace id) = Some id
id_of (Table id) = Some id
id_of (View id) = Some id
