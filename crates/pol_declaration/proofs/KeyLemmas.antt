-- Keys that aren't listed.
use Rattle.std.proofs.Common.{◌≡◌, ℕ, Bool, true, false, not, List, [], ◌∷◌, map, Option, Some, None, option_map, String, Global, Bor, string_bytes, refl, cond, ap, sym, ◌∙◌}
use Rattle.std.specs.List.{find, list_any}
use Rattle.std.specs.Map.{keys_of}
use Rattle.std.specs.Str.{bytes_eq}
use Rattle.toml.specs.View.{members_view}
use Rattle.toml.proofs.Views.{Entry}
use Rattle.pol_declaration.specs.Forms as spec
use Rattle.pol_declaration.specs.Forms.{is_listed, only_listed, unlisted}

-- whether a key isn't one of the borrowed texts
abbrev pub is_unlisted : List (Bor (List ℕ)) → String Global → Bool
is_unlisted listed key = not (list_any (λ one. bytes_eq one.now (string_bytes key)) listed)

listed_by : (listed : List (Bor (List ℕ))) (key : List ℕ) → list_any (λ one. bytes_eq one.now key) listed ≡ is_listed (map (λ one. one.now) listed) key
listed_by [] key = refl
listed_by (one ∷ listed) key = rw (listed_by listed key) refl

first_of : (b c : Bool) (key : String Global) (rest : Option (String Global)) (wanted : Option (List ℕ)) → b ≡ c → option_map string_bytes rest ≡ wanted
    → option_map string_bytes (cond b (Some key) rest) ≡ cond c (Some (string_bytes key)) wanted
first_of true c key rest wanted is so = rw (← is) refl
first_of false c key rest wanted is so = rw (← is) so

-- the first key of a table that isn't listed
pub first_unlisted : (listed : List (Bor (List ℕ))) (es : List Entry)
    → option_map string_bytes (find (is_unlisted listed) (keys_of es)) ≡ find (λ key. not (is_listed (map (λ one. one.now) listed) key)) (spec.keys_of (members_view es))
first_unlisted listed [] = refl
first_unlisted listed (e ∷ es) =
    first_of _ _ e.0 _ _ (rw (listed_by listed (string_bytes e.0)) refl) (first_unlisted listed es)

-- what that key tells
pub listed_told : (listed : List (Bor (List ℕ))) (es : List Entry) (first : Option (String Global)) → first ≡ find (λ key. not (list_any (λ one. bytes_eq one.now (string_bytes key)) listed)) (keys_of es)
    → only_listed (map (λ one. one.now) listed) (members_view es) ≡ unlisted (option_map string_bytes first)
unfolding only_listed
listed_told listed es first is = sym (ap unlisted (ap (option_map string_bytes) is ∙ first_unlisted listed es))
