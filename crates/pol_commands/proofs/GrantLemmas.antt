-- A grant is made exactly where its privilege may be granted on what it is on.
use Rattle.std.proofs.Common.{◌≡◌, Bool, true, false, true≢false, None, Some, refl, sym, ◌∙◌}
use Rattle.std.proofs.Math.Bool.{Bool-set}
use Rattle.pol_access.specs.Privilege.{grantable}
use Rattle.pol_access.specs.declared.privilege.Privilege.{Privilege}
use Rattle.pol_commands.specs.Grants.{grant_by, grant_on}
use Rattle.pol_commands.specs.Kind.{kind_of}
use Rattle.pol_commands.specs.declared.grants.Grant.{Grant}
use Rattle.pol_commands.specs.declared.grants.GrantedOn.{GrantedOn}

pub not_granted : (privilege : Privilege) (on : GrantedOn) → grantable privilege (kind_of on) ≡ false → grant_on privilege on ≡ None
unfolding grant_on
not_granted privilege on fails = by (grantable privilege (kind_of on)) refl fails
  where
    by : (may : Bool) (is : grantable privilege (kind_of on) ≡ may) → may ≡ false → grant_by privilege on may is ≡ None
    by true is so = absurd (true≢false so)
    by false is so = refl

pub granted : (grant : Grant) → grant_on grant.privilege grant.on ≡ Some grant
unfolding grant_on
granted grant = by (grantable grant.privilege (kind_of grant.on)) refl
  where
    by : (may : Bool) (is : grantable grant.privilege (kind_of grant.on) ≡ may) → grant_by grant.privilege grant.on may is ≡ Some grant
    by true is = λ i. Some (record { privilege = grant.privilege; on = grant.on; proper = Bool-set _ _ is grant.proper i })
    by false is = absurd (true≢false (sym grant.proper ∙ is))
