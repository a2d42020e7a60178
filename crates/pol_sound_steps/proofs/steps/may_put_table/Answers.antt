use Rattle.std.proofs.Common.{◌≡◌, true, sym, ap, ◌∙◌}
use Rattle.pol_content.specs.Content.{ContentRows}
use Rattle.pol_content.specs.declared.change.Change.TheVariants.{PutTable}
use Rattle.pol_sound_access.proofs.FoundLemmas.{if_ok}
use Rattle.pol_access_steps.specs.Counters.{counted}
use Rattle.pol_sound_steps.specs.Steps.{is_move, may_place_table}
use Rattle.pol_access_steps.proofs.CountersLemmas.{counted-sound}
use Rattle.pol_sound_steps.proofs.RenameLemmas.{rename-sound}
use Rattle.pol_sound_steps.proofs.TableLemmas.{commit-sound, move-sound, placed-sound}
use Rattle.pol_state.specs.Applied.{changed}
use Rattle.pol_state.specs.Sound.{IsSound}
use Rattle.pol_table_rows.specs.Tables.{table_id}
use Rattle.pol_tables.specs.Table.{row_of}
use Rattle.pol_sound_steps.proofs.steps.may_put_table.Goals as goal

pub returns-in_default : goal.returns-in_default
returns-in_default c =
    let s = c.args.state.now.rows in
    let row = c.args.row.now in
    if_ok (λ may. may ≡ may_place_table s c.args.counters row) (λ sound. sound ≡ true → IsSound (changed (counted s c.args.counters) (PutTable row))) c.may_place_table.result
    (λ may is passes. placed-sound s c.requires.sound c.args.counters c.requires.follows row c.requires.valid (sym is ∙ passes)) c.may_place_table.ensures

pub returns-then-is_commit : goal.returns-then-is_commit
returns-then-is_commit c =
    let s = c.args.state.now.rows in
    let row = c.args.row.now in
    let found = sym (c.in-Some.ensures ∙ ap (λ (rows : ContentRows). row_of table_id row.id rows.tables) c.content.ensures) in
    λ is. commit-sound (counted s c.args.counters) (counted-sound s c.requires.sound c.args.counters c.requires.follows) c.in-Some.old.now row found c.requires.valid (sym c.is_commit.ensures ∙ c.if-is_commit.true)

pub returns-then-is_rename : goal.returns-then-is_rename
returns-then-is_rename c =
    let s = c.args.state.now.rows in
    let row = c.args.row.now in
    let base = counted-sound s c.requires.sound c.args.counters c.requires.follows in
    let found = sym (c.in-Some.ensures ∙ ap (λ (rows : ContentRows). row_of table_id row.id rows.tables) c.content.ensures) in
    λ is. rename-sound (counted s c.args.counters) base c.in-Some.old.now row found c.requires.valid (sym c.is_rename.ensures ∙ c.if-is_rename.true)

pub returns : goal.returns
returns c =
    let s = c.args.state.now.rows in
    let row = c.args.row.now in
    let found = sym (c.in-Some.ensures ∙ ap (λ (rows : ContentRows). row_of table_id row.id rows.tables) c.content.ensures) in
    if_ok (λ moves. moves ≡ is_move s c.in-Some.old.now row) (λ sound. sound ≡ true → IsSound (changed (counted s c.args.counters) (PutTable row))) c.is_move.result
    (λ moves is passes. move-sound (counted s c.args.counters) (counted-sound s c.requires.sound c.args.counters c.requires.follows) c.in-Some.old.now row found c.requires.valid (sym is ∙ passes)) c.is_move.ensures
