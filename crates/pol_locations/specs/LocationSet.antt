-- Sets of owners and locations of which no two overlap.
use Rattle.std.specs.Prelude.{◌≡◌, ◌≢◌, ℕ, ◌&&◌, Bool, false, not, nat_eq, List, [], ◌∷◌, ◌++◌, Option, All, filter, map, min}
use Rattle.std.specs.Bool.{⊤}
use Rattle.std.specs.Cmp.Lexicographic.{slice_cmp}
use Rattle.std.specs.Ordering.{is_lt, nat_cmp}
use Rattle.std.specs.declared.cmp.Ordering.{Ordering}
use Rattle.std.specs.declared.cmp.Ordering.TheVariants.{Less}
use Rattle.std.specs.List.{list_any, reduce}
use Rattle.pol_locations.specs.Location.{is_overlap}
use Rattle.pol_locations.specs.declared.location_set.Member.{Member}

-- what contracts see of a set: its members, and how many more it has places for
pub record Held : Type 0 where
  pub members : List Member
  pub spare : ℕ

-- two members have different owners, and their locations do not overlap
pub record IsApart (member other : Member) : Type 0 where
  pub owners : member.owner ≢ other.owner
  pub locations : is_overlap member.location other.location ≡ false

-- no two members have one owner or overlap
abbrev pub AreApart : List Member → Type 0
AreApart [] = ⊤
AreApart (member ∷ members) = All (IsApart member) members × AreApart members

-- how locations compare: segment by segment, a proper prefix first
abbrev pub location_cmp : List (List ℕ) → List (List ℕ) → Ordering
location_cmp = slice_cmp (slice_cmp nat_cmp)

-- a member has a lesser location
abbrev pub is_before : List (List ℕ) → Member → Bool
is_before location member = is_lt (location_cmp member.location location)

-- each member has a lesser location than those behind it
abbrev pub LocationsAscend : List Member → Type 0
LocationsAscend [] = ⊤
LocationsAscend (member ∷ members) = All (λ later. location_cmp member.location later.location ≡ Less) members × LocationsAscend members

-- some of the members side by side, such that none of the others overlaps the wanted location
pub record IsNear (wanted : List (List ℕ)) (members near : List Member) : Type 0 where
  pub before : List Member
  pub after : List Member
  pub is : members ≡ before ++ (near ++ after)
  pub apart_before : All (λ member. is_overlap member.location wanted ≡ false) before
  pub apart_after : All (λ member. is_overlap member.location wanted ≡ false) after

-- new is old with one member more, and all others stay
pub record Gains (old new : List Member) (member : Member) : Type 0 where
  pub before : List Member
  pub after : List Member
  pub was : old ≡ before ++ after
  pub is : new ≡ before ++ member ∷ after

-- whether a member overlaps the wanted location and has an owner outside `except`
abbrev pub is_clash : List (List ℕ) → List ℕ → Member → Bool
is_clash wanted except member = is_overlap member.location wanted && not (list_any (λ owner. nat_eq owner member.owner) except)

-- the least owner of these members
abbrev pub clash_of : List Member → List (List ℕ) → List ℕ → Option ℕ
clash_of members wanted except = reduce min (map (λ member. member.owner) (filter (is_clash wanted except) members))
