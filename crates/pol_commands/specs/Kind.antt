-- Kinds of what a privilege is granted on.
use Rattle.pol_access.specs.declared.securable.SecurableKind.{SecurableKind}
use Rattle.pol_access.specs.declared.securable.SecurableKind.TheVariants as kind
use Rattle.pol_commands.specs.declared.grants.GrantedOn.{GrantedOn}
use Rattle.pol_commands.specs.declared.grants.GrantedOn.TheVariants as on

abbrev pub kind_of : GrantedOn → SecurableKind
kind_of on.Catalog = kind.Catalog
kind_of (on.Namespace levels) = kind.Namespace
kind_of (on.Table identifier) = kind.Table
kind_of (on.View identifier) = kind.View
