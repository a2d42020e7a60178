-- Words that mean nothing.
use Rattle.std.proofs.Common.{◌≡◌, ℕ, Bool, true, false, cond, List, [], ◌∷◌, Option, None, Some, refl, sym, true≢false}
use Rattle.std.specs.Bool.{⊤}
use Rattle.std.specs.List.{find}
use Rattle.std.specs.Option.{option_map}
use Rattle.std.specs.Str.{bytes_eq}
use Rattle.std.proofs.lemmas.Bool.{false_from_ne_true}
use Rattle.std.proofs.lemmas.Slice.Eq.{bytes_eq-Decides}
use Rattle.pol_readers.specs.Forms.{meaning}

-- a word is none of those of the rows
abbrev pub IsOther : {A : Type 0} → List (List ℕ × A) → List ℕ → Type 0
IsOther [] word = ⊤
IsOther (row ∷ rows) word = (word ≡ row.0 → ⊥) × (IsOther rows word)

past : {A : Type 0} (test : Bool) (row : List ℕ × A) (rest : Option (List ℕ × A)) → test ≡ false → None ≡ option_map (λ found. found.1) rest → None ≡ option_map (λ found. found.1) (cond test (Some row) rest)
past true row rest fails none = absurd (true≢false fails)
past false row rest fails none = none

-- so it means nothing
pub unknown : {A : Type 0} (rows : List (List ℕ × A)) (word : List ℕ) → IsOther rows word → None ≡ meaning rows word
unknown [] word others = refl
unknown (row ∷ rows) word others =
    let differs = false_from_ne_true (bytes_eq row.0 word) (λ same. others.0 (sym ((bytes_eq-Decides row.0 word).0 same))) in
    past (bytes_eq row.0 word) row (find (λ found. bytes_eq found.0 word) rows) differs (unknown rows word others.1)
