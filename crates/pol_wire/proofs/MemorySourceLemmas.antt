-- Lemmas on the pieces of a source in memory.
use Rattle.std.proofs.Common.{◌≡◌, ℕ, suc, ◌+◌, ◌<◌, ◌≤◌, min, nat_lt, List, [], ◌∷◌, ◌++◌, length, take, drop, sym, ap, ◌∙◌, arith, take-append-drop}
use Rattle.std.proofs.lemmas.List.{drop-drop, drop_all, take_at}
use Rattle.std.proofs.lemmas.List.Elements.{filter_passes}
use Rattle.std.specs.List.{All, filter, fold}
use Rattle.std.proofs.lemmas.Bool.{ltb-true}
use Rattle.pol_wire.specs.MemorySource.{nearest_past}

-- what holds of two numbers' lesser one holds of the least of all
fold-min-keeps : (P : ℕ → Type 0) → ((a b : ℕ) → P a → P b → P (min a b)) → (xs : List ℕ) (high : ℕ) → All P xs → P high → P (fold min high xs)
fold-min-keeps P lesser [] high all h = h
fold-min-keeps P lesser (x ∷ xs) high all h =
    fold-min-keeps P lesser xs (min high x) (λ k d low. all (suc k) d (omega arith)) (lesser high x h (all 0 x (omega arith)))

past : (places : List ℕ) (from : ℕ) → All (λ place. from < place) (filter (λ place. nat_lt from place) places)
past places from k d low = ltb-true from _ (filter_passes (λ place. nat_lt from place) places k d low)

-- the nearest place past `from` is past it
pub nearest_past-above : (places : List ℕ) (from last : ℕ) → from < last → from < nearest_past places from last
unfolding nearest_past
nearest_past-above places from last h = fold-min-keeps (λ n. from < n) (λ a b p q. omega arith) _ last (past places from) h

-- it isn't before `from`
pub nearest_past-from : (places : List ℕ) (from last : ℕ) → from ≤ last → from ≤ nearest_past places from last
unfolding nearest_past
nearest_past-from places from last h =
    fold-min-keeps (λ n. from ≤ n) (λ a b p q. omega arith) _ last (λ k d low. let above = past places from k d low in omega arith) h

fold-min-le : (xs : List ℕ) (high : ℕ) → fold min high xs ≤ high
fold-min-le [] high = omega arith
fold-min-le (x ∷ xs) high = omega (arith, fold-min-le xs (min high x))

-- it isn't after `last`
pub nearest_past-within : (places : List ℕ) (from last : ℕ) → nearest_past places from last ≤ last
unfolding nearest_past
nearest_past-within places from last = fold-min-le (filter (λ place. nat_lt from place) places) last

-- the bytes that one call gives, and those that are left after it
pub piece_taken : (bytes given rest : List ℕ) (taken count : ℕ) → given ≡ take count (drop taken bytes) → length given ≡ count
    → drop taken bytes ≡ take count (given ++ rest) ++ drop (taken + count) bytes
piece_taken bytes given rest taken count same fits =
    sym (take-append-drop count (drop taken bytes))
    ∙ ap (λ front. front ++ drop count (drop taken bytes)) (sym same ∙ sym (take_at given rest count fits))
    ∙ ap (λ back. take count (given ++ rest) ++ back) (drop-drop count taken bytes)

-- what a call of `take` needs
pub ruleset pieces = (nearest_past-above, nearest_past-from, nearest_past-within, piece_taken, drop_all)
