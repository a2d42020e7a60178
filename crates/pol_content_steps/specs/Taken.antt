-- What a row that is dropped takes along: the members, joins and grants that name it.
use Rattle.std.specs.Prelude.{Bool, false, not, ◌&&◌, ◌||◌, List, Option, None, Some}
use Rattle.std.specs.List.{list_all, list_any}
use Rattle.pol_access.specs.Access.{AccessRows}
use Rattle.pol_access.specs.Referent.{grant_names, join_names, member_names}
use Rattle.pol_access.specs.contracts.rows.GrantRow as grant
use Rattle.pol_access.specs.contracts.rows.JoinRow as join
use Rattle.pol_access.specs.contracts.rows.MemberRow as member
use Rattle.pol_access.specs.declared.referent.Referent.{Referent}
use Rattle.pol_access.specs.declared.rows.CatalogRoleRow.{CatalogRoleRow}
use Rattle.pol_access.specs.declared.rows.GrantRow.{GrantRow}
use Rattle.pol_access.specs.declared.rows.JoinRow.{JoinRow}
use Rattle.pol_access.specs.declared.rows.MemberRow.{MemberRow}
use Rattle.pol_content.specs.declared.change.Change.{Change}
use Rattle.pol_content.specs.declared.change.Change.TheVariants.{Time, NextId, NextSerial, PutPrincipal, DropPrincipal, PutPrincipalRole, DropPrincipalRole, PutCatalog, DropCatalog, PutCatalogRole, DropCatalogRole, PutNamespace, DropNamespace, PutTable, DropTable, PutView, DropView, PutMember, DropMember, PutJoin, DropJoin, PutGrant, DropGrant, PutSession, PutToken}
use Rattle.pol_content_steps.specs.declared.taken.Dropped.{Dropped}
use Rattle.pol_content_steps.specs.declared.taken.Dropped.TheVariants.{Member, Join, Grant}
use Rattle.pol_tables.specs.Facts.{holds}
use Rattle.pol_tables.specs.Same.{same}

-- the member, the join or the grant that a change drops
unfoldable pub fact_dropped : Change → Option Dropped
fact_dropped (Time time) = None
fact_dropped (NextId id) = None
fact_dropped (NextSerial serial) = None
fact_dropped (PutPrincipal row) = None
fact_dropped (DropPrincipal id) = None
fact_dropped (PutPrincipalRole row) = None
fact_dropped (DropPrincipalRole id) = None
fact_dropped (PutCatalog row) = None
fact_dropped (DropCatalog id) = None
fact_dropped (PutCatalogRole row) = None
fact_dropped (DropCatalogRole id) = None
fact_dropped (PutNamespace row) = None
fact_dropped (DropNamespace id) = None
fact_dropped (PutTable row) = None
fact_dropped (DropTable id) = None
fact_dropped (PutView row) = None
fact_dropped (DropView id) = None
fact_dropped (PutMember row) = None
fact_dropped (DropMember row) = Some (Member row)
fact_dropped (PutJoin row) = None
fact_dropped (DropJoin row) = Some (Join row)
fact_dropped (PutGrant row) = None
fact_dropped (DropGrant row) = Some (Grant row)
fact_dropped (PutSession row) = None
fact_dropped (PutToken row) = None

-- whether there is a fact, and it names the referent, where the catalogue roles are these
abbrev pub fact_names : List CatalogRoleRow → Referent → Option Dropped → Bool
fact_names roles one None = false
fact_names roles one (Some (Member row)) = member_names one row
fact_names roles one (Some (Join row)) = join_names roles one row
fact_names roles one (Some (Grant row)) = grant_names roles one row

-- whether there is a fact, and it is this member, this join, this grant
abbrev pub is_this_member : MemberRow → Option Dropped → Bool
is_this_member row None = false
is_this_member row (Some (Member gone)) = same member.the_row.coded gone row
is_this_member row (Some (Join gone)) = false
is_this_member row (Some (Grant gone)) = false

abbrev pub is_this_join : JoinRow → Option Dropped → Bool
is_this_join row None = false
is_this_join row (Some (Member gone)) = false
is_this_join row (Some (Join gone)) = same join.the_row.coded gone row
is_this_join row (Some (Grant gone)) = false

abbrev pub is_this_grant : GrantRow → Option Dropped → Bool
is_this_grant row None = false
is_this_grant row (Some (Member gone)) = false
is_this_grant row (Some (Join gone)) = false
is_this_grant row (Some (Grant gone)) = same grant.the_row.coded gone row

-- whether a change drops a fact that names the referent, and whether it drops this member, this join, this grant
abbrev pub drops_named : List CatalogRoleRow → Referent → Change → Bool
drops_named roles one change = fact_names roles one (fact_dropped change)

abbrev pub drops_member : MemberRow → Change → Bool
drops_member row change = is_this_member row (fact_dropped change)

abbrev pub drops_join : JoinRow → Change → Bool
drops_join row change = is_this_join row (fact_dropped change)

abbrev pub drops_grant : GrantRow → Change → Bool
drops_grant row change = is_this_grant row (fact_dropped change)

-- whether one of the changes drops a fact, where it names what is dropped
abbrev pub goes_along : {T : Type 0} → (T → Bool) → (T → Change → Bool) → List Change → T → Bool
goes_along names drops changes fact = not (names fact) || list_any (drops fact) changes

-- the changes drop each member, join and grant that names the referent
abbrev pub each_goes_along : Referent → AccessRows → List Change → Bool
each_goes_along one access changes =
    list_all (goes_along (member_names one) drops_member changes) access.members
    && (list_all (goes_along (join_names access.catalog_roles one) drops_join changes) access.joins
    && list_all (goes_along (grant_names access.catalog_roles one) drops_grant changes) access.grants)

-- the changes drop the members, joins and grants that name the referent, and no other rows
abbrev pub takes_along : Referent → AccessRows → List Change → Bool
takes_along one access changes =
    list_all (drops_named access.catalog_roles one) changes && each_goes_along one access changes

-- whether there is a fact, and it is one of the members, joins and grants
abbrev pub is_known : AccessRows → Option Dropped → Bool
is_known access None = false
is_known access (Some (Member row)) = holds member.the_row.coded row access.members
is_known access (Some (Join row)) = holds join.the_row.coded row access.joins
is_known access (Some (Grant row)) = holds grant.the_row.coded row access.grants

-- whether the second drops the fact that the first does
abbrev pub is_same_drop : Option Dropped → Option Dropped → Bool
is_same_drop None later = false
is_same_drop (Some (Member row)) later = is_this_member row later
is_same_drop (Some (Join row)) later = is_this_join row later
is_same_drop (Some (Grant row)) later = is_this_grant row later

-- whether a change drops a fact that is there, and whether two drop the same one
abbrev pub drops_known : AccessRows → Change → Bool
drops_known access change = is_known access (fact_dropped change)

abbrev pub drops_same : Change → Change → Bool
drops_same change later = is_same_drop (fact_dropped change) (fact_dropped later)
