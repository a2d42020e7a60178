-- Rows that are found by a name which stands once.
use Rattle.std.proofs.Common.{◌≡◌, ℕ, Bool, true, false, cond, ◌&&◌, List, [], ◌∷◌, map, Option, None, Some, nat_eq, sym, ap, subst, ◌∙◌, inl, inr, true≢false}
use Rattle.std.specs.Cmp.Lexicographic.{same_text}
use Rattle.std.specs.List.{find, AllByRecursion, IsDistinct}
use Rattle.std.specs.Str.{bytes_eq}
use Rattle.std.proofs.lemmas.Bool.{and_parts, cases_Bool, eqb-true}
use Rattle.std.proofs.lemmas.Map.Keys.{IsDistinct-head, IsDistinct-tail}
use Rattle.pol_access.specs.Names.{has_catalog_role_name, same_role_name}
use Rattle.pol_access.specs.declared.rows.CatalogRoleRow.{CatalogRoleRow}
use Rattle.pol_tables.specs.Named.{Finds}
use Rattle.pol_tables.specs.Table.{has_id, row_of}
use Rattle.pol_tables.proofs.ListLemmas.{each-weaken}
use Rattle.pol_tables.proofs.TableLemmas.{some_is}
use Rattle.pol_access.proofs.KeptLemmas.{found-holds}

module _ {R : Type 0} (test : R → Bool) where
  -- no row past one that passes the test passes it
  abbrev pub PassOnce : List R → Type 0
  PassOnce [] = Unit {0}
  PassOnce (row ∷ rows) = (test row ≡ true → AllByRecursion (λ later. test later ≡ false) rows) × PassOnce rows

  -- a row of the list that passes is the one that is found
  only_found : (key : R → ℕ) (rows : List R) (row : R) → PassOnce rows → row_of key (key row) rows ≡ Some row → test row ≡ true → Some row ≡ find test rows
  only_found key [] row once there passes = let contrary : None ≡ Some row = there in cc
  only_found key (first ∷ rows) row once there passes =
      let rest = only_found key rows row once.1 in
      elim (cases_Bool (has_id key (key row) first)) [
        | inl here ↦
            let is : first ≡ row = some_is first row (sym (ap (λ b. cond b (Some first) (row_of key (key row) rows)) here) ∙ there) in
            ap Some (sym is) ∙ sym (ap (λ b. cond b (Some first) (find test rows)) (ap test is ∙ passes))
        | inr apart ↦
            let later : row_of key (key row) rows ≡ Some row = sym (ap (λ b. cond b (Some first) (row_of key (key row) rows)) apart) ∙ there in
            elim (cases_Bool (test first)) [
              | inl first_passes ↦ absurd (true≢false (sym passes ∙ found-holds (has_id key (key row)) (λ kept. test kept ≡ false) rows row (once.0 first_passes) later))
              | inr first_fails ↦ rest later passes ∙ sym (ap (λ b. cond b (Some first) (find test rows)) first_fails)
            ]
      ]

  pub found-alone : (key : R → ℕ) (rows : List R) (found : Option R) → PassOnce rows → Finds key test rows found → found ≡ find test rows
  found-alone key rows None once finds = sym finds
  found-alone key rows (Some row) once finds = only_found key rows row once finds.0 finds.1

  -- where rows differ of which two that pass are the same, one at most passes
  pass-once : (same : R → R → Bool) → ((left right : R) → test left ≡ true → test right ≡ true → same left right ≡ true) → (rows : List R) → IsDistinct same rows → PassOnce rows
  pass-once same alike [] differ = tt
  pass-once same alike (row ∷ rows) differ = (
    λ passes. each-weaken (λ later. same row later ≡ false) (λ later. test later ≡ false) rows (λ later apart. fails later passes apart) (IsDistinct-head same row rows differ),
    pass-once same alike rows (IsDistinct-tail same row rows differ),
  )
    where
      fails : (later : R) → test row ≡ true → same row later ≡ false → test later ≡ false
      fails later passes apart = elim (cases_Bool (test later)) [
        | inl also ↦ absurd (true≢false (sym (alike row later passes also) ∙ apart))
        | inr so ↦ so
      ]

-- where rows differ by a name, the row that is found by it is the first
pub first_found : {R : Type 0} (key : R → ℕ) (test : R → Bool) (same : R → R → Bool) → ((left right : R) → test left ≡ true → test right ≡ true → same left right ≡ true)
    → (rows : List R) → IsDistinct same rows → (found : Option R) → Finds key test rows found → found ≡ find test rows
first_found key test same alike rows differ found finds = found-alone test key rows found (pass-once test same alike rows differ) finds

-- where names differ, one row at most has a name
pub names-once : {R : Type 0} (name : R → List ℕ) (sought : List ℕ) (rows : List R) → IsDistinct bytes_eq (map name rows) → PassOnce (λ row. bytes_eq sought (name row)) rows
names-once name sought [] differ = tt
names-once {R} name sought (row ∷ rows) differ = (
  λ passes. past rows (subst (λ text. AllByRecursion (λ later. bytes_eq text later ≡ false) (map name rows)) (sym (same_text sought (name row) (sym passes))) (IsDistinct-head bytes_eq (name row) (map name rows) differ)),
  names-once name sought rows (IsDistinct-tail bytes_eq (name row) (map name rows) differ),
)
  where
    past : (rows : List R) → AllByRecursion (λ later. bytes_eq sought later ≡ false) (map name rows) → AllByRecursion (λ later. bytes_eq sought (name later) ≡ false) rows
    past [] none = tt
    past (first ∷ rows) none = (none.0, past rows none.1)

-- roles of one name in a catalogue have the same name
pub roles_alike : (catalog : ℕ) (sought : List ℕ) (left right : CatalogRoleRow) → has_catalog_role_name catalog sought left ≡ true → has_catalog_role_name catalog sought right ≡ true → same_role_name left right ≡ true
roles_alike catalog sought left right one other =
    let both = and_parts (nat_eq left.catalog catalog) (bytes_eq sought left.name) one in
    sym (λ i. nat_eq right.catalog (sym (eqb-true left.catalog catalog both.0) i) && bytes_eq (same_text sought left.name (sym both.1) i) right.name) ∙ other
