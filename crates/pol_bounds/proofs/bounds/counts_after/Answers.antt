use Rattle.std.proofs.Common.{◌≡◌, length, rules}
use Rattle.pol_content.specs.declared.change.RowKind.TheVariants as kind
use Rattle.pol_bounds.specs.Counted.{count_after}
use Rattle.pol_bounds.proofs.bounds.counts_after.Goals as goal

-- one count after the other
pub returns : goal.returns
returns c =
    let s = c.args.state.now.rows in
    let changes = c.args.changes.now in
    let catalogs : c.count_after.result ≡ count_after kind.Catalog s changes (length s.content.catalogs) = search rules in
    let principals : c.count_after-2.result ≡ count_after kind.Principal s changes (length s.access.principals) = search rules in
    let principal_roles : c.count_after-3.result ≡ count_after kind.PrincipalRole s changes (length s.access.principal_roles) = search rules in
    let catalog_roles : c.count_after-4.result ≡ count_after kind.CatalogRole s changes (length s.access.catalog_roles) = search rules in
    let members : c.count_after-5.result ≡ count_after kind.Member s changes (length s.access.members) = search rules in
    let joins : c.count_after-6.result ≡ count_after kind.Join s changes (length s.access.joins) = search rules in
    let grants : c.count_after-7.result ≡ count_after kind.Grant s changes (length s.access.grants) = search rules in
    let namespaces : c.count_after-8.result ≡ count_after kind.Namespace s changes (length s.content.namespaces) = search rules in
    let views : c.count_after-10.result ≡ count_after kind.View s changes (length s.content.views) = search rules in
    let tables : c.count_after-9.result ≡ count_after kind.Table s changes (length s.content.tables) = search rules in
    λ i. record { catalogs = catalogs i; principals = principals i; principal_roles = principal_roles i; catalog_roles = catalog_roles i; members = members i; joins = joins i; grants = grants i; namespaces = namespaces i; tables = tables i; views = views i }
