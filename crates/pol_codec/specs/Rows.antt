-- The forms of rows: each is its fields, in the order in which the row declares them.
use Rattle.std.specs.Prelude.{◌≡◌, ℕ, List, [], ◌∷◌, ◌++◌, Bool, true, false, find, nat_eq, Option, Some, None, ⊤, refl}
use Rattle.std.proofs.Common.{ap, sym, true≢false}
use Rattle.pol_access.specs.Privilege.{privilege_is, privilege_number, privileges, same_privilege}
use Rattle.pol_access.specs.declared.privilege.Privilege.{Privilege}
use Rattle.pol_access.specs.declared.rows.CatalogRoleRow.{CatalogRoleRow}
use Rattle.pol_access.specs.declared.rows.GrantRow.{GrantRow}
use Rattle.pol_access.specs.declared.rows.JoinRow.{JoinRow}
use Rattle.pol_access.specs.declared.rows.MemberRow.{MemberRow}
use Rattle.pol_access.specs.declared.rows.PrincipalRoleRow.{PrincipalRoleRow}
use Rattle.pol_access.specs.declared.rows.PrincipalRow.{PrincipalRow}
use Rattle.pol_access.specs.declared.securable.Securable.{Securable}
use Rattle.pol_access.specs.declared.securable.Securable.TheVariants.{Realm, Catalog, Namespace, Table, View}
use Rattle.pol_access.proofs.PrivilegeLemmas.{each-privilege}
use Rattle.pol_content.specs.declared.rows.CatalogRow.{CatalogRow}
use Rattle.pol_content.specs.declared.rows.NamespaceRow.{NamespaceRow}
use Rattle.pol_names.specs.declared.scope.Scope.{Scope}
use Rattle.pol_names.specs.declared.scope.Scope.TheVariants.{All, Roles}
use Rattle.pol_tokens.specs.declared.session.SessionRow.{SessionRow}
use Rattle.pol_tokens.specs.declared.token.TokenRow.{TokenRow}
use Rattle.pol_forms.specs.Enums.{Written, Variant, written_as, enum, enum_read, made_read_back, case_of, truth}
use Rattle.pol_forms.specs.Form.{Form}
use Rattle.pol_forms.specs.Forms.{bytes_of, list, mapped, no_fields, number, numbered, text, ◌&◌}
use Rattle.pol_forms.specs.Names.{location, namespace, plain, properties}

-- a privilege: one byte, its number
abbrev is_one : Option Privilege → Privilege → Bool
is_one None one = false
is_one (Some found) one = same_privilege found one

is_one-Some : (found : Option Privilege) (one : Privilege) → is_one found one ≡ true → found ≡ Some one
is_one-Some None one contrary = absurd (true≢false (sym contrary))
is_one-Some (Some found) one is = ap Some (privilege_is found one is)

abbrev pub privilege_at : ℕ → Option Privilege
privilege_at place = find (λ kept. nat_eq (privilege_number kept) place) privileges

pub each-numbered : (one : Privilege) → privilege_at (privilege_number one) ≡ Some one
each-numbered one =
    is_one-Some (privilege_at (privilege_number one)) one (each-privilege (λ one. is_one (privilege_at (privilege_number one)) one) refl one)

unfoldable pub privilege : Form Privilege
privilege = numbered privileges privilege_number each-numbered

-- a securable: the place of its kind, and its id where it has one
abbrev securable_written : Securable → Written
securable_written Realm = written_as 0 no_fields tt
securable_written (Catalog id) = written_as 1 number id
securable_written (Namespace id) = written_as 2 number id
securable_written (Table id) = written_as 3 number id
securable_written (View id) = written_as 4 number id

abbrev realm : ⊤ → Securable
realm fields = Realm

abbrev securable_variants : List (Variant securable_written)
securable_variants =
    case_of 0 realm no_fields (λ fields. refl)
    ∷ case_of 1 Catalog number (λ id. refl)
    ∷ case_of 2 Namespace number (λ id. refl)
    ∷ case_of 3 Table number (λ id. refl)
    ∷ case_of 4 View number (λ id. refl)
    ∷ []

pub securable_read_back : (value : Securable) (rest : List ℕ) → (securable_written value).holds → enum_read securable_variants ((securable_written value).bytes ++ rest) ≡ Some (value, rest)
securable_read_back Realm rest held = made_read_back realm no_fields tt rest held
securable_read_back (Catalog id) rest held = made_read_back Catalog number id rest held
securable_read_back (Namespace id) rest held = made_read_back Namespace number id rest held
securable_read_back (Table id) rest held = made_read_back Table number id rest held
securable_read_back (View id) rest held = made_read_back View number id rest held

unfoldable pub securable : Form Securable
securable = enum securable_written securable_variants securable_read_back

-- a principal: id, name, client id, digest
unfoldable pub principal : Form PrincipalRow
principal = mapped (number & plain & text & bytes_of 32)
    (λ fields. record { id = fields.0; name = fields.1.0; client_id = fields.1.1.0; digest = fields.1.1.1 })
    (λ row. (row.id, (row.name, (row.client_id, row.digest))))
    (λ row. refl) (λ fields. refl)

-- a principal role: id, name
unfoldable pub principal_role : Form PrincipalRoleRow
principal_role = mapped (number & plain)
    (λ fields. record { id = fields.0; name = fields.1 })
    (λ row. (row.id, row.name))
    (λ row. refl) (λ fields. refl)

-- a catalogue role: id, catalogue, name
unfoldable pub catalog_role : Form CatalogRoleRow
catalog_role = mapped (number & number & plain)
    (λ fields. record { id = fields.0; catalog = fields.1.0; name = fields.1.1 })
    (λ row. (row.id, (row.catalog, row.name)))
    (λ row. refl) (λ fields. refl)

-- a member: principal, role
unfoldable pub member : Form MemberRow
member = mapped (number & number)
    (λ fields. record { principal = fields.0; role = fields.1 })
    (λ row. (row.principal, row.role))
    (λ row. refl) (λ fields. refl)

-- a join: principal role, catalogue role
unfoldable pub join : Form JoinRow
join = mapped (number & number)
    (λ fields. record { principal_role = fields.0; catalog_role = fields.1 })
    (λ row. (row.principal_role, row.catalog_role))
    (λ row. refl) (λ fields. refl)

-- a grant: catalogue role, privilege, securable
unfoldable pub grant : Form GrantRow
grant = mapped (number & privilege & securable)
    (λ fields. record { catalog_role = fields.0; privilege = fields.1.0; securable = fields.1.1 })
    (λ row. (row.catalog_role, (row.privilege, row.securable)))
    (λ row. refl) (λ fields. refl)

-- a catalogue: id, name, base, allowed locations, properties
unfoldable pub catalog : Form CatalogRow
catalog = mapped (number & plain & location & list location & properties)
    (λ fields. record { id = fields.0; name = fields.1.0; base = fields.1.1.0; allowed = fields.1.1.1.0; properties = fields.1.1.1.1 })
    (λ row. (row.id, (row.name, (row.base, (row.allowed, row.properties)))))
    (λ row. refl) (λ fields. refl)

-- a namespace: id, catalogue, levels, properties
unfoldable pub namespace_row : Form NamespaceRow
namespace_row = mapped (number & number & namespace & properties)
    (λ fields. record { id = fields.0; catalog = fields.1.0; levels = fields.1.1.0; properties = fields.1.1.1 })
    (λ row. (row.id, (row.catalog, (row.levels, row.properties))))
    (λ row. refl) (λ fields. refl)

-- a scope: 0 for all roles, or 1 and the list of their ids
abbrev scope_written : Scope → Written
scope_written All = written_as 0 no_fields tt
scope_written (Roles ids) = written_as 1 (list number) ids

abbrev all_roles : ⊤ → Scope
all_roles fields = All

abbrev scope_variants : List (Variant scope_written)
scope_variants = case_of 0 all_roles no_fields (λ fields. refl) ∷ case_of 1 Roles (list number) (λ ids. refl) ∷ []

pub scope_read_back : (value : Scope) (rest : List ℕ) → (scope_written value).holds → enum_read scope_variants ((scope_written value).bytes ++ rest) ≡ Some (value, rest)
scope_read_back All rest held = made_read_back all_roles no_fields tt rest held
scope_read_back (Roles ids) rest held = made_read_back Roles (list number) ids rest held

unfoldable pub scope : Form Scope
scope = enum scope_written scope_variants scope_read_back

-- a session: serial, the two random words, principal, scope, expiry
unfoldable pub session : Form SessionRow
session = mapped (number & number & number & number & scope & number)
    (λ fields. record { serial = fields.0; word_a = fields.1.0; word_b = fields.1.1.0; principal = fields.1.1.1.0; scope = fields.1.1.1.1.0; expires = fields.1.1.1.1.1 })
    (λ row. (row.serial, (row.word_a, (row.word_b, (row.principal, (row.scope, row.expires))))))
    (λ row. refl) (λ fields. refl)

-- a storage token: serial, the two random words, principal, table, count of moves, location, whether it writes, expiry
unfoldable pub token : Form TokenRow
token = mapped (number & number & number & number & number & number & location & truth & number)
    (λ fields. record { serial = fields.0; word_a = fields.1.0; word_b = fields.1.1.0; principal = fields.1.1.1.0; table = fields.1.1.1.1.0; moves = fields.1.1.1.1.1.0; location = fields.1.1.1.1.1.1.0; write = fields.1.1.1.1.1.1.1.0; expires = fields.1.1.1.1.1.1.1.1 })
    (λ row. (row.serial, (row.word_a, (row.word_b, (row.principal, (row.table, (row.moves, (row.location, (row.write, row.expires)))))))))
    (λ row. refl) (λ fields. refl)
