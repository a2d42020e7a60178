-- Principals that are given their secrets one by one.
use Rattle.std.proofs.Common.{◌≡◌, ℕ, ◌+◌, ◌*◌, ◌<◌, ◌≤◌, Bool, true, false, cond, List, [], ◌∷◌, ◌++◌, length, get_or, drop, refl, sym, ap, subst, ◌∙◌, append_assoc, arith}
use Rattle.std.specs.List.{count_by}
use Rattle.std.proofs.lemmas.List.{drop_more}
use Rattle.std.proofs.lemmas.List.Sums.{count_by-le-length, sum_by-drop_more}
use Rattle.pol_setup.specs.Setup.{is_drawn, keyed, with_secret}
use Rattle.pol_setup.specs.declared.principals.KeyedPrincipal.{KeyedPrincipal}
use Rattle.pol_declaration.specs.declared.tables.NewPrincipal.{NewPrincipal}

-- how many of a list pass a test
pub ruleset counts = (count_by-le-length)

-- those that were given their secrets, the place of the next drawn one, and words for all others
pub record IsKeyedTo (words : List ℕ) (all : List NewPrincipal) (done : List KeyedPrincipal) (place index : ℕ) : Type 0 where
  pub so : keyed words 0 all ≡ done ++ keyed words place (drop index all)
  pub room : 2 * (place + count_by is_drawn (drop index all)) ≤ length words

-- the next one, and those after it
counted : (all : List NewPrincipal) (index : ℕ) (one : NewPrincipal) → index < length all → one ≡ get_or all index one
    → count_by is_drawn (drop index all) ≡ cond (is_drawn one) 1 0 + count_by is_drawn (drop (index + 1) all)
counted all index one inside is =
    sum_by-drop_more (λ p. cond (is_drawn p) 1 0) all index one inside
    ∙ ap (λ p. cond (is_drawn p) 1 0 + count_by is_drawn (drop (index + 1) all)) (sym is)

drawn_room : (b : Bool) (place rest n : ℕ) → 2 * (place + (cond b 1 0 + rest)) ≤ n → b ≡ true → 2 * place + 1 < n
drawn_room true place rest n room is = omega (arith, room)
drawn_room false place rest n room is = cc

-- there are two words for one whose secret is to be drawn
pub room_here : (words : List ℕ) (all : List NewPrincipal) (done : List KeyedPrincipal) (place index : ℕ) (one : NewPrincipal) → IsKeyedTo words all done place index
    → index < length all → one ≡ get_or all index one → is_drawn one ≡ true → 2 * place + 1 < length words
room_here words all done place index one so inside is drawn =
    drawn_room (is_drawn one) place _ _ (subst (λ n. 2 * (place + n) ≤ length words) (counted all index one inside is) so.room) drawn

shifted : (b : Bool) (place rest n : ℕ) → 2 * (place + (cond b 1 0 + rest)) ≤ n → 2 * (cond b (place + 1) place + rest) ≤ n
shifted true place rest n room = omega (arith, room)
shifted false place rest n room = omega (arith, room)

-- one more has its secret
pub keyed_more : (words : List ℕ) (all : List NewPrincipal) (done : List KeyedPrincipal) (place index : ℕ) (one : NewPrincipal) → IsKeyedTo words all done place index
    → index < length all → one ≡ get_or all index one → IsKeyedTo words all (done ++ with_secret words place one ∷ []) (cond (is_drawn one) (place + 1) place) (index + 1)
keyed_more words all done place index one so inside is = record {
  so = so.so ∙ ap (λ rest. done ++ rest) next ∙ sym (append_assoc done (with_secret words place one ∷ []) _);
  room = shifted (is_drawn one) place _ _ (subst (λ n. 2 * (place + n) ≤ length words) (counted all index one inside is) so.room);
}
  where
    next : keyed words place (drop index all) ≡ with_secret words place one ∷ keyed words (cond (is_drawn one) (place + 1) place) (drop (index + 1) all)
    next = ap (keyed words place) (drop_more all index one inside ∙ ap (λ p. p ∷ drop (index + 1) all) (sym is))
