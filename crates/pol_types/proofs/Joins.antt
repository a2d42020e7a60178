-- Lists of texts with a byte between each two.
use Rattle.std.proofs.Common.{◌≡◌, ℕ, List, [], ◌∷◌, ◌++◌, ap, sym, ◌∙◌, append-nil}
use Rattle.std.specs.List.{flat_map, join_with_byte, slice_split}
use Rattle.std.specs.Prelude.{All, ◌==◌, true, false}
use Rattle.std.proofs.lemmas.List.Elements.{All-head, All-tail}
use Rattle.std.proofs.lemmas.List.Splits.{slice_split_at, slice_split_none}
use Rattle.std.proofs.lemmas.Grind.{common_steps}
use Rattle.std.proofs.Common.{arith}

-- a joined list is its first text, and then a byte and a text for each other
pub join_with_byte-flat_map : (byte : ℕ) (text : List ℕ) (texts : List (List ℕ)) → join_with_byte byte (text ∷ texts) ≡ text ++ flat_map (λ other. byte ∷ other) texts
join_with_byte-flat_map byte text [] = sym (append-nil text)
join_with_byte-flat_map byte text (next ∷ texts) = ap (λ rest. text ++ byte ∷ rest) (join_with_byte-flat_map byte next texts)

same_number : (n : ℕ) → (n == n) ≡ true
same_number n = grind (arith, common_steps)

-- texts without the byte come back where they are joined and cut
pub slice_split-join_with_byte : (byte : ℕ) (text : List ℕ) (texts : List (List ℕ)) → All (All (λ other. (other == byte) ≡ false)) (text ∷ texts) →
    slice_split (λ other. other == byte) (join_with_byte byte (text ∷ texts)) ≡ text ∷ texts
slice_split-join_with_byte byte text [] without =
    slice_split_none (λ other. other == byte) text (All-head (All (λ other. (other == byte) ≡ false)) text [] without)
slice_split-join_with_byte byte text (next ∷ texts) without =
    slice_split_at (λ other. other == byte) text byte (join_with_byte byte (next ∷ texts)) (All-head (All (λ other. (other == byte) ≡ false)) text (next ∷ texts) without) (same_number byte)
    ∙ ap (λ rest. text ∷ rest) (slice_split-join_with_byte byte next texts (All-tail (All (λ other. (other == byte) ≡ false)) text (next ∷ texts) without))
