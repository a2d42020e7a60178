-- Where each namespace on a path is there, the last one is; principals by their ids; and texts that are locations.
use Rattle.std.proofs.Common.{◌≡◌, ◌≢◌, ℕ, suc, ◌+◌, ◌<◌, true, false, Bool, cond, List, [], ◌∷◌, ◌++◌, map, take, drop, get_or, length, Option, None, Some, is_none, is_some, refl, sym, subst, ap, ◌∙◌, inl, inr, arith, true≢false, zero}
use Rattle.std.proofs.Math.Seq.{take-length}
use Rattle.std.proofs.lemmas.List.{drop_more, take-append-drop, take_more}
use Rattle.std.proofs.lemmas.Bool.{cases_Bool}
use Rattle.std.specs.List.{find, range_with_len, AllByRecursion}
use Rattle.std.specs.Borrow.{Bor}
use Rattle.std.specs.Option.{option_copied, option_map, option_or, IsSome}
use Rattle.pol_access.specs.Access.{principal_id}
use Rattle.pol_access.specs.declared.rows.PrincipalRow.{PrincipalRow}
use Rattle.pol_tables.specs.Table.{knows, row_of}
use Rattle.pol_tables.proofs.TableLemmas.{is_some-row_of}
use Rattle.pol_locations.specs.Location.{location_refusal, IsLocation}
use Rattle.pol_locations.proofs.Segments.{location_refusal-IsLocation}
use Rattle.pol_content.specs.Content.{ContentRows, first_missing, is_missing, lineage, namespace_named}
use Rattle.pol_commands.specs.declared.reply.Refusal.{Refusal}
use Rattle.pol_commands.specs.declared.reply.Refusal.TheVariants.{BadLocation}
use Rattle.pol_rules.specs.Rules.{bad_text, bad_texts}

-- where nothing passes a test, each item fails it
each_fails : {X : Type 0} (test : X → Bool) (xs : List X) → find test xs ≡ None → AllByRecursion (λ x. test x ≡ false) xs
each_fails test [] none = tt
each_fails test (x ∷ xs) none = elim (cases_Bool (test x)) [
  | inl here ↦
      let contrary : Some x ≡ None = sym (ap (λ b. cond b (Some x) (find test xs)) here) ∙ none in cc
  | inr fails ↦
      (fails, each_fails test xs (sym (ap (λ b. cond b (Some x) (find test xs)) fails) ∙ none))
]

-- what holds along a row of numbers holds at its last
at_last : {X : Type 0} (P : X → Type 0) (at : ℕ → X) (first more : ℕ) → AllByRecursion P (map at (range_with_len first (suc more))) → P (at (first + more))
at_last P at first zero all = subst (λ n. P (at n)) (let same : first ≡ first + 0 = omega arith in same) all.0
at_last P at first (suc more) all =
    subst (λ n. P (at n)) (let same : first + 1 + more ≡ first + suc more = omega arith in same) (at_last P at (first + 1) more all.1)

by_depth : (catalog : ℕ) (content : ContentRows) (levels : List (List ℕ)) (depth : ℕ) → length levels ≡ depth → 0 < depth → AllByRecursion (λ path. is_missing catalog content path ≡ false) (map (λ n. take n levels) (range_with_len 1 depth)) → is_missing catalog content levels ≡ false
by_depth catalog content levels zero is some all = absurd (let none : 0 < 0 = some in omega (arith, none))
by_depth catalog content levels (suc more) is some all =
    let last = at_last (λ path. is_missing catalog content path ≡ false) (λ n. take n levels) 1 more all in
    let whole : take (1 + more) levels ≡ levels = ap (λ n. take n levels) (let same : 1 + more ≡ length levels = omega (arith, is) in same) ∙ take-length levels in
    subst (λ path. is_missing catalog content path ≡ false) whole last

none_not : {X : Type 0} (found : Option X) → is_none found ≡ false → is_some found ≡ true
none_not None none = absurd (true≢false none)
none_not (Some x) none = refl

pub path_there : (catalog : ℕ) (content : ContentRows) (levels : List (List ℕ)) → 0 < length levels → first_missing catalog levels content ≡ None → is_some (namespace_named catalog levels content) ≡ true
path_there catalog content levels some none =
    none_not (namespace_named catalog levels content) (by_depth catalog content levels (length levels) refl some (each_fails (is_missing catalog content) (lineage levels) none))

-- what is lent is there where what it stands for is
pub lent_some : {X : Type 0} (found : Option (Bor X)) → is_some (option_copied found) ≡ true → IsSome found
lent_some None some = absurd (true≢false (sym some))
lent_some (Some x) some = refl

pub levels_some : (levels : List (List ℕ)) → levels ≢ [] → 0 < length levels
levels_some [] filled = absurd (filled refl)
levels_some (level ∷ levels) filled = omega arith

-- a principal that is looked up is known exactly where it is found
pub principal_found : (id : ℕ) (rows : List PrincipalRow) (found : Option PrincipalRow) → found ≡ row_of principal_id id rows → knows principal_id id rows ≡ is_some found
principal_found id rows found is = sym (is_some-row_of principal_id id rows) ∙ ap is_some (sym is)

-- what stands behind texts that are locations
past : (found rest : Option Refusal) → option_or found rest ≡ None → rest ≡ None
past None rest none = none
past (Some other) rest none = let contrary : Some other ≡ None = none in cc

first_good : (found rest : Option Refusal) → option_or found rest ≡ None → found ≡ None
first_good None rest none = refl
first_good (Some other) rest none = let contrary : Some other ≡ None = none in cc

told_behind : (read : List (List ℕ)) (text : List ℕ) (rest : List (List ℕ)) (found : Option Refusal) → bad_texts read ≡ None → option_or (bad_text text) (bad_texts rest) ≡ found → bad_texts (read ++ text ∷ rest) ≡ found
unfolding bad_texts
told_behind [] text rest found none is = is
told_behind (first ∷ read) text rest found none is =
    ap (λ one. option_or one (bad_texts (read ++ text ∷ rest))) (first_good (bad_text first) (bad_texts read) none)
    ∙ told_behind read text rest found (past (bad_text first) (bad_texts read) none) is

pub bad_nil : bad_texts [] ≡ None
unfolding bad_texts
bad_nil = refl

pub bad_push : (texts : List (List ℕ)) (place : ℕ) (other : List ℕ) → place < length texts → bad_texts (take place texts) ≡ None → bad_text (get_or texts place other) ≡ None → bad_texts (take (place + 1) texts) ≡ None
bad_push texts place other inside none good =
    ap bad_texts (take_more texts place other inside)
    ∙ told_behind (take place texts) (get_or texts place other) [] None none (ap (λ one. option_or one (bad_texts [])) good ∙ bad_nil)

pub bad_at : (texts : List (List ℕ)) (place : ℕ) (other : List ℕ) → place < length texts → bad_texts (take place texts) ≡ None → (why : Refusal) → bad_text (get_or texts place other) ≡ Some why → bad_texts texts ≡ Some why
bad_at texts place other inside none why bad =
    ap bad_texts (sym (take-append-drop place texts) ∙ ap (λ rest. take place texts ++ rest) (drop_more texts place other inside))
    ∙ told_behind (take place texts) (get_or texts place other) (drop (place + 1) texts) (Some why) none (ap (λ one. option_or one (bad_texts (drop (place + 1) texts))) bad)

-- segments of which a location is made are no bad location
pub location_made : (segments made : List (List ℕ)) → made ≡ segments → IsLocation made → option_map (BadLocation 0) (location_refusal segments) ≡ None
location_made segments made is location =
    ap (option_map (BadLocation 0)) (ap location_refusal (sym is) ∙ location_refusal-IsLocation made location)
