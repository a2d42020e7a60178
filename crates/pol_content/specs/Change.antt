-- The changes of a state: the kind of the row that one puts.
use Rattle.std.specs.Prelude.{Bool, false, Option, None, Some}
use denote.Enum.Bare.{sameb}
use Rattle.pol_content.specs.contracts.change.RowKind.{the_type}
use Rattle.pol_content.specs.declared.change.Change.{Change}
use Rattle.pol_content.specs.declared.change.Change.TheVariants.{Time, NextId, NextSerial, PutPrincipal, DropPrincipal, PutPrincipalRole, DropPrincipalRole, PutCatalog, DropCatalog, PutCatalogRole, DropCatalogRole, PutNamespace, DropNamespace, PutTable, DropTable, PutView, DropView, PutMember, DropMember, PutJoin, DropJoin, PutGrant, DropGrant, PutSession, PutToken}
use Rattle.pol_content.specs.declared.change.RowKind.{RowKind}
use Rattle.pol_content.specs.declared.change.RowKind.TheVariants as kind

-- the kind of the row that a change puts, where it puts one
abbrev pub kind_put : Change → Option RowKind
kind_put (Time time) = None
kind_put (NextId id) = None
kind_put (NextSerial serial) = None
kind_put (PutPrincipal row) = Some kind.Principal
kind_put (DropPrincipal id) = None
kind_put (PutPrincipalRole row) = Some kind.PrincipalRole
kind_put (DropPrincipalRole id) = None
kind_put (PutCatalog row) = Some kind.Catalog
kind_put (DropCatalog id) = None
kind_put (PutCatalogRole row) = Some kind.CatalogRole
kind_put (DropCatalogRole id) = None
kind_put (PutNamespace row) = Some kind.Namespace
kind_put (DropNamespace id) = None
kind_put (PutTable row) = Some kind.Table
kind_put (DropTable id) = None
kind_put (PutView row) = Some kind.View
kind_put (DropView id) = None
kind_put (PutMember row) = Some kind.Member
kind_put (DropMember row) = None
kind_put (PutJoin row) = Some kind.Join
kind_put (DropJoin row) = None
kind_put (PutGrant row) = Some kind.Grant
kind_put (DropGrant row) = None
kind_put (PutSession row) = Some kind.Session
kind_put (PutToken row) = Some kind.Token

-- whether a change puts a row of a kind
abbrev pub is_kind : RowKind → Option RowKind → Bool
is_kind wanted None = false
is_kind wanted (Some kind) = sameb the_type kind wanted

abbrev pub puts : RowKind → Change → Bool
puts wanted change = is_kind wanted (kind_put change)
