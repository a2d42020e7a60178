-- Keys that are seen one after the other, and differ.
use Rattle.std.proofs.Common.{◌≡◌, Bool, true, false, not, List, [], ◌∷◌, ◌||◌, ◌++◌, map, refl, sym, subst, ap, ◌∙◌, true≢false}
use Rattle.std.specs.Prelude.{Decides}
use Rattle.std.specs.Cmp.{IsEquivalence}
use Rattle.std.specs.Coded.{Coded}
use Rattle.std.specs.List.{list_any, AllByRecursion, IsDistinct}
use Rattle.std.proofs.lemmas.Bool.{or_from, or_parts}
use Rattle.std.proofs.lemmas.Bool.Decides.{Decides-and}
use Rattle.std.proofs.lemmas.List.{append-nil, append_assoc}
use Rattle.std.proofs.lemmas.Map.Keys.{IsDistinct-head, IsDistinct-tail}
use Rattle.indexmap.specs.IndexSet.{insert_key}
use Rattle.pol_tables.specs.Facts.{holds}
use Rattle.pol_tables.specs.Same.{same}
use Rattle.pol_tables.proofs.SameLemmas.{same-exact, same-symmetric}
use Rattle.pol_sound_access.specs.Judged.{all_differ}

pub untrue : (b : Bool) → not b ≡ true → b ≡ false
untrue true is = sym is
untrue false is = refl

-- none passes a test exactly where each fails it
pub none-decides : {X : Type 0} (test : X → Bool) (xs : List X) → Decides (not (list_any test xs)) (AllByRecursion (λ x. test x ≡ false) xs)
none-decides test [] = (λ is. tt, λ all. refl)
none-decides test (x ∷ xs) = (
  λ is. let parts = or_parts (test x) (list_any test xs) (untrue (test x || list_any test xs) is) in (parts.0, (none-decides test xs).0 (ap not parts.1)),
  λ all. ap not (or_from (test x) (list_any test xs) all.0 (untrue (list_any test xs) ((none-decides test xs).1 all.1))),
)

-- the test tells whether items differ
pub differ-decides : {X : Type 0} (alike : X → X → Bool) (xs : List X) → Decides (all_differ alike xs) (IsDistinct alike xs)
unfolding all_differ IsDistinct
differ-decides alike [] = (λ is. tt, λ all. refl)
differ-decides alike (x ∷ xs) =
    Decides-and (not (list_any (alike x) xs)) (all_differ alike xs) (none-decides (alike x) xs) (differ-decides alike xs)

-- images differ exactly where the rows do that have them
module _ {R K : Type 0} (equal : K → K → Bool) (told : R → K) where
  abbrev pub alike_by : R → R → Bool
  alike_by left right = equal (told left) (told right)

  each-of : (first : K) (rows : List R) → AllByRecursion (λ key. equal first key ≡ false) (map told rows) → AllByRecursion (λ row. equal first (told row) ≡ false) rows
  each-of first [] all = tt
  each-of first (row ∷ rows) all = (all.0, each-of first rows all.1)

  each-image : (first : K) (rows : List R) → AllByRecursion (λ row. equal first (told row) ≡ false) rows → AllByRecursion (λ key. equal first key ≡ false) (map told rows)
  each-image first [] all = tt
  each-image first (row ∷ rows) all = (all.0, each-image first rows all.1)

  pub apart-from : (rows : List R) → IsDistinct equal (map told rows) → IsDistinct alike_by rows
  unfolding IsDistinct
  apart-from [] differ = tt
  apart-from (row ∷ rows) differ = (each-of (told row) rows differ.0, apart-from rows differ.1)

  pub images-apart : (rows : List R) → IsDistinct alike_by rows → IsDistinct equal (map told rows)
  unfolding IsDistinct
  images-apart [] differ = tt
  images-apart (row ∷ rows) differ = (each-image (told row) rows differ.0, images-apart rows differ.1)

-- what holds of each of a list holds of one in its middle
each-of-key : {X : Type 0} (P : X → Type 0) (before : List X) (item : X) (after : List X) → AllByRecursion P (before ++ item ∷ after) → P item
each-of-key P [] item after all = all.0
each-of-key P (first ∷ before) item after all = each-of-key P before item after all.1

-- keys that a set tells apart by an exact test of equality
module _ {K : Type 0} (code : Coded K) (equal : K → K → Bool) (exact : (x y : K) → equal x y ≡ true → x ≡ y) (laws : IsEquivalence equal) where
  by_code : equal ≡ same code
  by_code = same-exact code equal exact laws.refl

  pub holds-keys : (key : K) (seen : List K) → list_any (equal key) seen ≡ holds code key seen
  holds-keys key seen = ap (λ test. list_any (test key) seen) by_code

  pub distinct-keys : (seen : List K) → IsDistinct equal seen → IsDistinct (same code) seen
  distinct-keys seen differ = subst (λ test. IsDistinct test seen) by_code differ

  -- a key that was not seen before goes last
  pub insert-new : (key : K) (seen : List K) → list_any (equal key) seen ≡ false → insert_key equal seen key ≡ seen ++ key ∷ []
  insert-new key seen new = rw new refl

module _ {R K : Type 0} (code : Coded K) (told : R → K) where
  -- whether two rows have one key
  abbrev pub alike : R → R → Bool
  alike left right = same code (told left) (told right)

  -- a key that was seen before its row stands twice
  split : (key : K) (seen rest : List K) → IsDistinct (same code) (seen ++ key ∷ rest) → holds code key seen ≡ false
  split key [] rest differ = refl
  split key (first ∷ seen) rest differ =
      let apart = each-of-key (λ later. same code first later ≡ false) seen key rest (IsDistinct-head (same code) first (seen ++ key ∷ rest) differ) in
      or_from (same code key first) (holds code key seen) (same-symmetric code key first ∙ apart) (split key seen rest (IsDistinct-tail (same code) first (seen ++ key ∷ rest) differ))

  seen-again : (rows : List R) (key : K) (seen rest : List K) → seen ++ key ∷ rest ≡ map told rows → holds code key seen ≡ true → false ≡ all_differ alike rows
  seen-again rows key seen rest are held = by (all_differ alike rows) refl
    where
      by : (b : Bool) → all_differ alike rows ≡ b → false ≡ b
      by true differ = absurd (true≢false (sym held ∙ split key seen rest (subst (IsDistinct (same code)) (sym are) (images-apart (same code) told rows ((differ-decides alike rows).0 differ)))))
      by false fails = refl

  -- while the keys of a first part of the rows are seen, a row stands next: its key is not new
  pub next-again : (rows left rest : List R) (row : R) (seen : List K) (new : Bool) → seen ++ map told left ≡ map told rows → left ≡ row ∷ rest → new ≡ not (holds code (told row) seen) → new ≡ false → false ≡ all_differ alike rows
  next-again rows left rest row seen new are next test old =
      seen-again rows (told row) seen (map told rest) (ap (λ part. seen ++ map told part) (sym next) ∙ are) (held (holds code (told row) seen) (sym old ∙ test))
    where
      held : (b : Bool) → false ≡ not b → b ≡ true
      held true is = refl
      held false is = is

  -- it is new, and seen then
  pub next-seen : (rows left rest : List R) (row : R) (seen after : List K) → seen ++ map told left ≡ map told rows → left ≡ row ∷ rest → after ≡ seen ++ told row ∷ [] → after ++ map told rest ≡ map told rows
  next-seen rows left rest row seen after are next more =
      ap (λ keys. keys ++ map told rest) more
      ∙ append_assoc seen (told row ∷ []) (map told rest)
      ∙ ap (λ part. seen ++ map told part) (sym next)
      ∙ are

  -- no row is left, and the keys differ
  pub all-seen : (rows left : List R) (seen : List K) → seen ++ map told left ≡ map told rows → left ≡ [] → IsDistinct (same code) seen → true ≡ all_differ alike rows
  all-seen rows left seen are none differ =
      let all = sym (append-nil seen) ∙ ap (λ part. seen ++ map told part) (sym none) ∙ are in
      sym ((differ-decides alike rows).1 (apart-from (same code) told rows (subst (IsDistinct (same code)) all differ)))
