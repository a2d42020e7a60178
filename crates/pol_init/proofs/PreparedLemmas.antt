-- What is made of a declaration.
use Rattle.std.proofs.Common.{◌≡◌, ℕ, ◌≤◌, ◌^◌, List, [], ◌∷◌, length, Result, Ok, Err, sym, ap, subst, ◌∙◌}
use Rattle.std.specs.Prelude.{All, IfOk}
use Rattle.std.specs.List.{AllByRecursion}
use Rattle.std.proofs.lemmas.List.Elements.{All-map, All-from_recursion}
use Rattle.pol_changecodec.specs.Change.{changes}
use Rattle.pol_commands.specs.declared.command.Action.{Action}
use Rattle.pol_commands.specs.declared.command.Command.{Command}
use Rattle.pol_content.specs.declared.change.Change.{Change}
use Rattle.pol_declaration.specs.declared.declaration.Declaration.{Declaration}
use Rattle.pol_forms.specs.Form.{IsFormOf}
use Rattle.pol_journal.specs.Format.{area_of}
use Rattle.pol_meta.specs.Valid.{IsValid}
use Rattle.pol_setup.specs.Setup.{actions, by_setup, commands, lines}
use Rattle.pol_setup.specs.declared.commands.Setup.{Setup}
use Rattle.pol_state.specs.Changes.{changes_between}
use Rattle.pol_state.specs.Rows.{Rows, empty_state, fresh_state}
use Rattle.pol_state.specs.Sound.{IsSound}
use Rattle.pol_table_rows.specs.declared.row.TableRow.{TableRow}
use Rattle.pol_tables.proofs.ListLemmas.{each-all}
use Rattle.pol_view_rows.specs.declared.row.ViewRow.{ViewRow}
use Rattle.pol_views.specs.Valid.{IsValidView}
use Rattle.pol_init.specs.FirstRecord.{HasValid, IsFormWhereValid, body_of, whole_changes}
use Rattle.pol_init.specs.Output.{output_text}
use Rattle.pol_init.specs.Prepared.{IsMadeOf, IsReady, state_declared}
use Rattle.pol_init.specs.SetUp.{AllPass, state_set_up}
use Rattle.pol_init.specs.declared.prepared.NotPrepared.{NotPrepared}
use Rattle.pol_init.specs.declared.prepared.Prepared.{Prepared}
use Rattle.pol_init.proofs.BareLemmas.{IsBare, live-bare, set-up-bare}

-- each command has the one moment
pub at-moment : (d : Declaration) (moment : ℕ) (words : List ℕ) → moment ≤ 2 ^ 62 → All (λ command. command.moment ≤ 2 ^ 62) (commands d moment words)
at-moment d moment words bound =
    let P : Command → Type 0 = λ command. command.moment ≤ 2 ^ 62 in
    let Q : Action → Type 0 = λ action. moment ≤ 2 ^ 62 in
    All-map P (by_setup moment) (actions d words) (All-from_recursion Q (actions d words) (each-all Q (actions d words) (λ action. bound)))

whole-bare : (s : Rows) → IsBare s → whole_changes s ≡ changes_between empty_state s
unfolding whole_changes
whole-bare s bare = ap (changes_between empty_state) (live-bare s bare)

valid-bare : (s : Rows) → IsBare s → HasValid s
valid-bare s bare = record {
  tables = subst (AllByRecursion (λ (row : TableRow). IsValid row.metadata)) (sym bare.tables) tt;
  views = subst (AllByRecursion (λ (row : ViewRow). IsValidView row.metadata)) (sym bare.views) tt;
}

module _ (d : Declaration) (moment : ℕ) (words secret : List ℕ) (setup : Setup) (secret_is : secret ≡ d.root_secret) (commands_are : setup.commands ≡ commands d moment words) where
  -- what was made of its commands
  ready-of : (made : Prepared) → setup.lines ≡ lines d words → IsMadeOf secret setup made → IsReady d moment words made
  ready-of made lines_are is =
      let s : Rows = state_declared d moment words in
      let same : state_set_up secret setup.commands ≡ s = λ i. state_set_up (secret_is i) (commands_are i) in
      let bare = set-up-bare d moment words in
      let form : IsFormOf changes (whole_changes s) (body_of s) = subst IsFormWhereValid same is.form (valid-bare s bare) in
      let passed : AllPass (fresh_state d.root_secret) setup.commands = subst (λ secret. AllPass (fresh_state secret) setup.commands) secret_is is.passed in
      record {
        passed = subst (AllPass (fresh_state d.root_secret)) commands_are passed;
        sound = subst IsSound same is.sound;
        body = body_of s;
        form = subst (λ (list : List Change). IsFormOf changes list (body_of s)) (whole-bare s bare) form;
        first = is.first ∙ ap (λ (s : Rows). area_of (body_of s ∷ [])) same;
        output = is.output ∙ (λ i. output_text (lines_are i) (length (commands_are i)));
      }

  pub all-ready : (result : Result Prepared NotPrepared) → setup.lines ≡ lines d words → IfOk result (IsMadeOf secret setup) → IfOk result (IsReady d moment words)
  all-ready (Ok made) lines_are is = ready-of made lines_are is
  all-ready (Err why) lines_are is = tt
