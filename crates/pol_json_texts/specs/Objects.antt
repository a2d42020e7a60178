-- Texts of objects, piece by piece.
use Rattle.std.specs.Prelude.{ℕ, List, [], ◌∷◌, ◌++◌, Bool, true, false}
use Rattle.json.specs.Print.{quoted}
use Rattle.serde_json.specs.Data.{Data, Members, member, no_members}
use Rattle.serde_json.specs.Written.{comma_if, compact_text}

-- members one after the other, where others may stand before
abbrev pub entries_text : Bool → Members → List ℕ
entries_text later no_members = []
entries_text later (member name value others) =
    comma_if later ++ (quoted name ++ 58 ∷ (compact_text value ++ entries_text true others))

-- an object with these members, but for its end
abbrev pub opened_text : Members → List ℕ
opened_text members = 123 ∷ entries_text false members

-- the name of a member, where others may stand before
abbrev pub named_text : Bool → List ℕ → List ℕ
named_text later name = comma_if later ++ (quoted name ++ 58 ∷ [])

-- all members of both, those of the first in front
abbrev pub joined : Members → Members → Members
joined no_members others = others
joined (member name value front) others = member name value (joined front others)

-- whether there are members
abbrev pub are_some : Members → Bool
are_some no_members = false
are_some (member name value others) = true
