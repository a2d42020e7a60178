-- What a filter leaves out of a set of facts is dropped.
use Rattle.std.proofs.Common.{◌≡◌, Bool, true, false, not, List, map, filter, refl, ap, ◌∙◌}
use Rattle.std.specs.Coded.{Coded}
use Rattle.std.specs.declared.cmp.Ordering.{Ordering}
use Rattle.pol_tables.specs.Changes.{fact_changes}
use Rattle.pol_tables.specs.Order.{in_order}
use Rattle.pol_tables.proofs.FactChangesLemmas.{fact_changes-filter}
use Rattle.pol_tables.proofs.ListLemmas.{each-all, filter-alike}
use Rattle.pol_access.specs.Order.{grant_cmp, join_cmp, member_cmp, grants_in_order, joins_in_order, members_in_order}
use Rattle.pol_access.specs.Referent.{grant_names, join_names, member_names}
use Rattle.pol_access.specs.contracts.rows.GrantRow as grant
use Rattle.pol_access.specs.contracts.rows.JoinRow as join
use Rattle.pol_access.specs.contracts.rows.MemberRow as member
use Rattle.pol_access.specs.Access.{AccessRows}
use Rattle.pol_access.specs.declared.referent.Referent.{Referent}
use Rattle.pol_access.specs.declared.rows.GrantRow.{GrantRow}
use Rattle.pol_access.specs.declared.rows.JoinRow.{JoinRow}
use Rattle.pol_access.specs.declared.rows.MemberRow.{MemberRow}

twice : (b : Bool) → not (not b) ≡ b
twice true = refl
twice false = refl

left-out : {T Change : Type 0} (code : Coded T) (cmp : T → T → Ordering) (put drop : T → Change) (named : T → Bool) (rows : List T) → fact_changes code cmp put drop rows (filter (λ row. not (named row)) rows) ≡ map drop (in_order cmp (filter named rows))
left-out code cmp put drop named rows =
    fact_changes-filter code cmp put drop (λ row. not (named row)) rows
    ∙ ap (λ kept. map drop (in_order cmp kept)) (filter-alike (λ row. not (not (named row))) named rows (each-all (λ row. not (not (named row)) ≡ named row) rows (λ row. twice (named row))))

-- between the rows and those without what names a referent, the changes are drops of what names it, in rising order
pub named_is_dropped : {Change : Type 0} → (access : AccessRows) (referent : Referent)
    → ((put drop : MemberRow → Change) → fact_changes member.the_row.coded member_cmp put drop access.members (filter (λ row. not (member_names referent row)) access.members) ≡ map drop (members_in_order (filter (member_names referent) access.members)))
    × ((put drop : JoinRow → Change) → fact_changes join.the_row.coded join_cmp put drop access.joins (filter (λ row. not (join_names access.catalog_roles referent row)) access.joins) ≡ map drop (joins_in_order (filter (join_names access.catalog_roles referent) access.joins)))
    × ((put drop : GrantRow → Change) → fact_changes grant.the_row.coded grant_cmp put drop access.grants (filter (λ row. not (grant_names access.catalog_roles referent row)) access.grants) ≡ map drop (grants_in_order (filter (grant_names access.catalog_roles referent) access.grants)))
named_is_dropped access referent = (
  λ put drop. left-out member.the_row.coded member_cmp put drop (member_names referent) access.members,
  λ put drop. left-out join.the_row.coded join_cmp put drop (join_names access.catalog_roles referent) access.joins,
  λ put drop. left-out grant.the_row.coded grant_cmp put drop (grant_names access.catalog_roles referent) access.grants,
)
