-- Grants by name: the kind of what a privilege is granted on, and the grants that may be.
use Rattle.std.specs.Prelude.{◌≡◌, Bool, true, false, Option, Some, None, refl}
use Rattle.pol_access.specs.Privilege.{grantable}
use Rattle.pol_access.specs.declared.privilege.Privilege.{Privilege}
use Rattle.pol_commands.specs.Kind.{kind_of}
use Rattle.pol_commands.specs.declared.grants.Grant.{Grant}
use Rattle.pol_commands.specs.declared.grants.GrantedOn.{GrantedOn}

abbrev pub grant_by : (privilege : Privilege) (on : GrantedOn) (may : Bool) → grantable privilege (kind_of on) ≡ may → Option Grant
grant_by privilege on true is = Some (record { privilege = privilege; on = on; proper = is })
grant_by privilege on false is = None

-- the grant of a privilege on a securable, where it may be granted on such
unfoldable pub grant_on : Privilege → GrantedOn → Option Grant
grant_on privilege on = grant_by privilege on (grantable privilege (kind_of on)) refl
