-- Where tables lie: owners with their locations, which need not stand apart.
use Rattle.std.specs.Prelude.{◌≡◌, ℕ, ◌&&◌, ◌||◌, Bool, not, nat_eq, List, min, Option, Some, None}
use Rattle.pol_locations.specs.contracts.location_set.Member.{the_row}
use Rattle.pol_locations.specs.declared.location_set.Member.{Member}
use Rattle.pol_tables.specs.Facts.{holds}
use Rattle.pol_tables.specs.Same.{same}

-- owners with their locations, and how many more of them need no memory
pub record PlacesValue : Type 0 where
  pub members : List Member
  pub room : ℕ

-- whether this member is one of these
abbrev pub is_placed : Member → List Member → Bool
is_placed member members = holds the_row.coded member members

-- whether a member is the owner's
abbrev pub is_owner : ℕ → Member → Bool
is_owner owner member = nat_eq member.owner owner

-- the members once the owner's are taken away, in any order
abbrev pub IsTaken : ℕ → List Member → List Member → Type 0
IsTaken owner old new = (other : Member) → is_placed other new ≡ (not (is_owner owner other) && is_placed other old)

-- the members once one is put in the place of its owner's
abbrev pub IsPut : Member → List Member → List Member → Type 0
IsPut member old new =
    (other : Member) → is_placed other new ≡ (same the_row.coded other member || (not (is_owner member.owner other) && is_placed other old))

-- the lesser of two numbers that may be there
abbrev pub least : Option ℕ → Option ℕ → Option ℕ
least None other = other
least (Some one) None = Some one
least (Some one) (Some other) = Some (min one other)
