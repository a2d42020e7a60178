-- A table after its commit: it is sound by itself, keeps its id and its name, and where it isn't moved its location.
use Rattle.std.proofs.Common.{◌≡◌, ◌≤◌, ◌+◌, ◌==◌, ℕ, Bool, true, false, not, nat_eq, List, length, Option, None, Some, Result, Ok, if◌then◌else◌, refl, sym, ap, ◌∙◌, arith, true≢false}
use Rattle.std.proofs.Math.Logic.{∥∥₁_elim, ∥∥₁_map, ∥∥₁_prop}
use Rattle.std.specs.Str.{bytes_eq}
use Rattle.std.proofs.lemmas.Bool.{ne_eqb}
use Rattle.std.proofs.lemmas.Slice.Eq.{bytes_eq-Decides}
use Rattle.pol_locations.specs.Location.{location_text, parse_refusal, segments_of}
use Rattle.pol_locations.specs.declared.refused.LocationRefused.{LocationRefused}
use Rattle.pol_locations.proofs.Texts.{only_texts, segments_of-location_text}
use Rattle.pol_meta.specs.Valid.{IsLong}
use Rattle.pol_meta.specs.declared.metadata.TableMetadata.{TableMetadata}
use Rattle.pol_drafts.specs.Drafts.{begun}
use Rattle.pol_state.specs.Rows.{Rows}
use Rattle.pol_table_rows.specs.Sound.{IsSoundTable}
use Rattle.pol_table_rows.specs.Tables.{table_id}
use Rattle.pol_table_rows.specs.declared.row.TableRow.{TableRow}
use Rattle.pol_tables.specs.Table.{row_of}
use Rattle.pol_updatelaws.proofs.ListLemmas.{after_cases}
use Rattle.pol_updatelaws.proofs.ValidLemmas.{stays_valid}
use Rattle.pol_updates.specs.Updates.{Place, after_each, finished, finished_of, metadata_after, settled_by}
use Rattle.pol_commit_actions.specs.Outcome.{CommitTo, CommittedTable, committed, grown_if, is_moved, lies_elsewhere, made_in}
use Rattle.pol_commit_actions.specs.Rules.{misplaced}

-- what a table that is committed to keeps, and that it is sound by itself
pub record IsKept (s : Rows) (one : CommittedTable) : Type 0 where
  pub there : row_of table_id one.before.id s.content.tables ≡ Some one.before
  pub id : one.after.id ≡ one.before.id
  pub namespace : one.after.namespace ≡ one.before.namespace
  pub name : one.after.name ≡ one.before.name
  pub sound : IsSoundTable one.after
  pub stays : is_moved one ≡ false → one.after.location ≡ one.before.location
  pub grows : one.before.moves ≤ one.after.moves

-- texts that are no different are equal
same_text : (left right : List ℕ) → not (bytes_eq left right) ≡ false → left ≡ right
same_text left right same = by (bytes_eq left right) refl same
  where
    by : (b : Bool) → bytes_eq left right ≡ b → not b ≡ false → left ≡ right
    by true is same = (bytes_eq-Decides left right).0 is
    by false is same = absurd (true≢false same)

-- the text of a location as it is printed, where it is one
printed_by : (text : List ℕ) (refusal : Option LocationRefused) → parse_refusal text ≡ refusal → parse_refusal (settled_by refusal text) ≡ None
    → settled_by refusal text ≡ location_text (segments_of (settled_by refusal text))
printed_by text None is passes = ap location_text (sym (segments_of-location_text (segments_of text) (only_texts text is).0))
printed_by text (Some why) is passes = let contrary : Some why ≡ None = sym is ∙ passes in cc

-- a list of updates that leaves another location than before leaves it as it is printed
IsPrinted : TableRow → TableMetadata → Type 0
IsPrinted row made = lies_elsewhere row made ≡ true → parse_refusal made.location ≡ None → made.location ≡ location_text (segments_of made.location)

unmoved : (row : TableRow) → lies_elsewhere row row.metadata ≡ false
unmoved row = ap not ((bytes_eq-Decides row.metadata.location row.metadata.location).1 refl)

printed : (time : ℕ) (one : CommitTo) (made : TableMetadata) → made_in time one ≡ Ok made → IsPrinted one.row made
unfolding IsPrinted finished
printed time one made told =
    after_cases (IsPrinted one.row) one.row.metadata one.row.version time one.commit.updates made told
    (λ elsewhere passes. absurd (true≢false (sym elsewhere ∙ unmoved one.row)))
    (λ d done. finished_printed one.row one.row.metadata one.row.version time d.meta)
  where
    finished_printed : (row : TableRow) (former : TableMetadata) (version time : ℕ) (meta : TableMetadata) → IsPrinted row (finished former version time meta)
    finished_printed row former version time meta elsewhere passes = printed_by meta.location (parse_refusal meta.location) refl passes

-- an empty list leaves the location
moved-updates : (time : ℕ) (one : CommitTo) (made : TableMetadata) → made_in time one ≡ Ok made → lies_elsewhere one.row made ≡ true → (length one.commit.updates == 0) ≡ false
unfolding metadata_after
moved-updates time one made told elsewhere = by (length one.commit.updates == 0) refl told
  where
    by : (b : Bool) → (length one.commit.updates == 0) ≡ b → (if b then Ok one.row.metadata else finished_of (λ d. finished one.row.metadata one.row.version time d.meta) (after_each time 0 one.commit.updates (begun one.row.metadata))) ≡ Ok made → b ≡ false
    by true is told =
        let step : ◌≡◌ {A = Result TableMetadata Place} (Ok one.row.metadata) (Ok made) = told in
        let same : one.row.metadata ≡ made = cc in
        absurd (true≢false (sym (ap (lies_elsewhere one.row) same ∙ elsewhere) ∙ unmoved one.row))
    by false is told = refl

-- a table that keeps its version stays as it is
stays-as : (row : TableRow) (made : TableMetadata) (grows elsewhere : Bool) → grows ≡ false → elsewhere ≡ false → made ≡ row.metadata
    → record row { version = grown_if grows row.version; moves = grown_if elsewhere row.moves; location = if elsewhere then segments_of made.location else row.location; metadata = made } ≡ row
stays-as row made false false stays lies is = λ i. record row { metadata = is i }
stays-as row made false true stays lies is = absurd (true≢false lies)
stays-as row made true elsewhere stays lies is = absurd (true≢false stays)

pub version-kept : (time : ℕ) (one : CommitTo) (made : TableMetadata) → made_in time one ≡ Ok made → (committed one made).after.version ≡ one.row.version → (committed one made).after ≡ one.row
unfolding metadata_after
version-kept time one made told kept = by (length one.commit.updates == 0) refl told
  where
    by : (b : Bool) → (length one.commit.updates == 0) ≡ b → (if b then Ok one.row.metadata else finished_of (λ d. finished one.row.metadata one.row.version time d.meta) (after_each time 0 one.commit.updates (begun one.row.metadata))) ≡ Ok made → (committed one made).after ≡ one.row
    by true empty told =
        let step : ◌≡◌ {A = Result TableMetadata Place} (Ok one.row.metadata) (Ok made) = told in
        let same : made ≡ one.row.metadata = cc in
        stays-as one.row made (not (length one.commit.updates == 0)) (lies_elsewhere one.row made) (ap not empty) (ap (lies_elsewhere one.row) same ∙ unmoved one.row) same
    by false some told =
        let grown : one.row.version + 1 ≡ one.row.version = ap (λ empty. grown_if (not empty) one.row.version) (sym some) ∙ kept in
        absurd (omega (arith, grown))

-- the numbers of a table that is committed to
not-less : (number : ℕ) (test : Bool) → number ≤ grown_if test number
not-less number true = omega arith
not-less number false = omega arith

moves-bound : (version moves : ℕ) (elsewhere empty : Bool) → moves ≤ version + 1 → (elsewhere ≡ true → empty ≡ false) → grown_if elsewhere moves ≤ grown_if (not empty) version + 1
moves-bound version moves true true bound some = absurd (true≢false (some refl))
moves-bound version moves true false bound some = omega (arith, bound)
moves-bound version moves false true bound some = bound
moves-bound version moves false false bound some = omega (arith, bound)

placed : (row : TableRow) (made : TableMetadata) (elsewhere : Bool) → lies_elsewhere row made ≡ elsewhere → row.metadata.location ≡ location_text row.location
    → (elsewhere ≡ true → made.location ≡ location_text (segments_of made.location))
    → made.location ≡ location_text (if elsewhere then segments_of made.location else row.location)
placed row made true is before prints = prints refl
placed row made false is before prints = same_text made.location row.metadata.location is ∙ before

stays-by : (row : TableRow) (made : TableMetadata) (elsewhere : Bool) → not (nat_eq (grown_if elsewhere row.moves) row.moves) ≡ false
    → (if elsewhere then segments_of made.location else row.location) ≡ row.location
stays-by row made true stays = absurd (true≢false (sym (ap not (ne_eqb (row.moves + 1) row.moves (λ is. omega (arith, is)))) ∙ stays))
stays-by row made false stays = refl

moved-misplaced : (moves : ℕ) (text : List ℕ) (elsewhere : Bool) → misplaced (not (nat_eq (grown_if elsewhere moves) moves)) text ≡ None → elsewhere ≡ true → parse_refusal text ≡ None
moved-misplaced moves text true passes is =
    ap (λ same. misplaced (not same) text) (sym (ne_eqb (moves + 1) moves (λ one. omega (arith, one)))) ∙ passes
moved-misplaced moves text false passes is = absurd (true≢false (sym is))

-- so it is of a table after its commit
pub committed-kept : (s : Rows) (time : ℕ) (one : CommitTo) (made : TableMetadata) → IsLong time → row_of table_id one.row.id s.content.tables ≡ Some one.row → IsSoundTable one.row → made_in time one ≡ Ok made
    → misplaced (is_moved (committed one made)) made.location ≡ None → IsKept s (committed one made)
unfolding IsPrinted
committed-kept s time one made within there sound told passes =
    let elsewhere = lies_elsewhere one.row made in
    record {
      there = there;
      id = refl;
      namespace = refl;
      name = refl;
      sound = record {
        metadata = ∥∥₁_elim sound.metadata ∥∥₁_prop (λ valid. ∥∥₁_map one.commit.formed (λ forms. stays_valid one.row.metadata one.row.version time one.commit.updates made valid forms within told));
        placed = placed one.row made elsewhere refl sound.placed (λ is. printed time one made told is (moved-misplaced one.row.moves made.location elsewhere passes is));
        moved = moves-bound one.row.version one.row.moves elsewhere (length one.commit.updates == 0) sound.moved (moved-updates time one made told);
      };
      stays = stays-by one.row made elsewhere;
      grows = not-less one.row.moves elsewhere;
    }
