-- Rows found by their texts.
use Rattle.std.proofs.Common.{◌≡◌, ℕ, ◌<◌, ◌^◌, Bool, true, false, cond, ◌||◌, List, [], ◌∷◌, ◌++◌, map, Option, Some, None, nat_eq, nat_lt, refl, sym, ap, subst, ◌∙◌, inl, inr, true≢false}
use Rattle.std.specs.List.{find, list_any, AllByRecursion, IsDistinct}
use Rattle.std.specs.Borrow.{Bor}
use Rattle.std.specs.Cmp.{nat_eq_equiv}
use Rattle.std.specs.Option.{is_some, option_copied}
use Rattle.std.proofs.lemmas.Bool.{and_parts, cases_Bool, eq-eqb}
use Rattle.std.proofs.lemmas.List.{map-append}
use Rattle.std.proofs.lemmas.Map.Keys.{IsDistinct-push}
use Rattle.std.proofs.lemmas.Slice.Eq.{bytes_eq-Decides}
use Rattle.pol_tables.specs.Table.{has_id, knows, row_of, IdsDiffer}
use Rattle.pol_tables.proofs.ListLemmas.{each-push}
use Rattle.pol_tables.proofs.TableLemmas.{some_is, is_some-row_of, Lacks, lacks_past, differ_past}
use Rattle.pol_tables.proofs.ListLemmas.{each-weaken}
use Rattle.pol_tokens.specs.Text.{text_of_token, TellsSerial}
use Rattle.pol_tokens.specs.HeldTable.{is_sought as sought_by, rows_once, spells as spelled_by, AreKept}

-- the row, where it passes the test
abbrev pub passed : {R : Type 0} → (R → Bool) → Option R → Option R
passed test None = None
passed test (Some row) = cond (test row) (Some row) None

module _ {R : Type 0} (key : R → ℕ) where
  -- a test that only rows of one serial pass
  module _ (test : R → Bool) (serial : ℕ) where
    abbrev IsOfSerial : R → Type 0
    IsOfSerial row = test row ≡ true → has_id key serial row ≡ true

    failed : (b : Bool) (row : R) → test row ≡ b → IsOfSerial row → has_id key serial row ≡ false → test row ≡ false
    failed true row passes only other = absurd (true≢false (sym (only passes) ∙ other))
    failed false row fails only other = fails

    find-lacks : (rows : List R) → AllByRecursion IsOfSerial rows → Lacks key serial rows → find test rows ≡ None
    find-lacks [] only lacks = refl
    find-lacks (row ∷ rows) only lacks =
        rw (failed (test row) row refl only.0 lacks.0) (find-lacks rows only.1 lacks.1)

    pub find-of_serial : (rows : List R) → IdsDiffer key rows → AllByRecursion IsOfSerial rows → passed test (row_of key serial rows) ≡ find test rows
    find-of_serial [] differ only = refl
    find-of_serial (row ∷ rows) differ only = elim (cases_Bool (has_id key serial row)) [
      | inl here ↦ rw here (sym (ap (cond (test row) (Some row)) (find-lacks rows only.1 (lacks_past key serial row rows differ here))))
      | inr other ↦ rw (other, failed (test row) row refl only.0 other) (find-of_serial rows (differ_past key row rows differ) only.1)
    ]

  -- rows looked up by a text, at a moment
  module _ (word_a word_b expiry : R → ℕ) (text : List ℕ) (now : ℕ) where
    abbrev pub is_sought : R → Bool
    is_sought row = sought_by key word_a word_b expiry text now row

    abbrev spells : R → Bool
    spells row = spelled_by key word_a word_b text row

    text_is : (row : R) → is_sought row ≡ true → text ≡ text_of_token (key row) (word_a row) (word_b row)
    text_is row sought =
        (bytes_eq-Decides text (text_of_token (key row) (word_a row) (word_b row))).0 (and_parts (spells row) (nat_lt now (expiry row)) sought).0

    of_serial : (serial : ℕ) → TellsSerial text (Some serial) → (row : R) → key row < 2 ^ 64 → is_sought row ≡ true → has_id key serial row ≡ true
    of_serial serial tells row fits sought =
        eq-eqb serial (key row) (some_is serial (key row) (tells (key row) (word_a row) (word_b row) fits (text_is row sought)))

    -- the row of the text's serial is the one that is sought, or none is
    pub find-sought : (serial : ℕ) (rows : List R) → TellsSerial text (Some serial) → AreKept key rows → passed is_sought (row_of key serial rows) ≡ find is_sought rows
    find-sought serial rows tells kept =
        find-of_serial is_sought serial rows kept.differ (each-weaken (λ row. key row < 2 ^ 64) (λ row. is_sought row ≡ true → has_id key serial row ≡ true) rows (of_serial serial tells) kept.words)

    not_sought : (b : Bool) (row : R) → is_sought row ≡ b → TellsSerial text None → key row < 2 ^ 64 → is_sought row ≡ false
    not_sought false row is tells fits = is
    not_sought true row is tells fits =
        let contrary : None ≡ Some (key row) = tells (key row) (word_a row) (word_b row) fits (text_is row is) in cc

    -- a text that tells no serial is no row's
    pub none-sought : (rows : List R) → TellsSerial text None → AllByRecursion (λ row. key row < 2 ^ 64) rows → None ≡ find is_sought rows
    none-sought [] tells fit = refl
    none-sought (row ∷ rows) tells fit =
        rw (not_sought (is_sought row) row refl tells fit.0) (none-sought rows tells fit.1)

    -- a row is sought where its text and its time say so
    module _ (row : R) where
      pub taken : spells row ≡ true → nat_lt now (expiry row) ≡ true → Some row ≡ passed is_sought (Some row)
      taken has lives = rw (has, lives) refl

      pub other_text : spells row ≡ false → None ≡ passed is_sought (Some row)
      other_text lacks = rw lacks refl

      pub expired : spells row ≡ true → nat_lt now (expiry row) ≡ false → None ≡ passed is_sought (Some row)
      expired has ended = rw (has, ended) refl

  -- a row that is put
  knows-serials : (serial : ℕ) (rows : List R) → list_any (nat_eq serial) (map key rows) ≡ knows key serial rows
  knows-serials serial [] = refl
  knows-serials serial (row ∷ rows) = ap (λ later. nat_eq serial (key row) || later) (knows-serials serial rows)

  pub once-known : (row : R) (rows : List R) → knows key (key row) rows ≡ true → rows_once key row rows ≡ rows
  unfolding rows_once
  once-known row rows known = rw known refl

  pub once-new : (row : R) (rows : List R) → knows key (key row) rows ≡ false → rows_once key row rows ≡ rows ++ row ∷ []
  unfolding rows_once
  once-new row rows new = rw new refl

  pub AreKept-push : (row : R) (rows : List R) → key row < 2 ^ 64 → knows key (key row) rows ≡ false → AreKept key rows → AreKept key (rows ++ row ∷ [])
  AreKept-push row rows fits new kept = record {
    differ = subst (λ serials. IsDistinct nat_eq serials) (sym (map-append key rows (row ∷ []))) (IsDistinct-push nat_eq_equiv (map key rows) (key row) kept.differ (knows-serials (key row) rows ∙ new));
    words = each-push (λ one. key one < 2 ^ 64) rows row kept.words fits;
  }

-- a copy of what was found is there where it was found
pub is_some-copied : {A : Type 0} (found : Option (Bor A)) → is_some (option_copied found) ≡ is_some found
is_some-copied None = refl
is_some-copied (Some row) = refl

-- whether a serial is known, by the look-up of its row
pub known-is : {R : Type 0} (key : R → ℕ) (row : R) (serial : ℕ) (rows : List R) (found : Option (Bor R)) → serial ≡ key row → option_copied found ≡ row_of key serial rows → knows key (key row) rows ≡ is_some found
known-is key row serial rows found is told =
    ap (λ id. knows key id rows) (sym is) ∙ sym (is_some-row_of key serial rows) ∙ ap is_some (sym told) ∙ is_some-copied found
