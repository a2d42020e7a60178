use Rattle.std.proofs.Common.{◌≡◌, Some, [], ◌∷◌, ◌+◌, ap, sym, subst, ◌∙◌, true≢false}
use Rattle.std.proofs.lemmas.Result.{IfOk-weaker}
use Rattle.pol_content.specs.Content.{namespace_id}
use Rattle.pol_content.specs.Rows.{namespace_rows_exact}
use Rattle.pol_content.specs.contracts.rows.NamespaceRow.{the_row}
use Rattle.pol_content.specs.declared.change.Change.TheVariants.{Time}
use Rattle.pol_content.specs.declared.rows.NamespaceRow.{NamespaceRow}
use Rattle.pol_tables.specs.Table.{row_of}
use Rattle.pol_tables.proofs.SameLemmas.{same-differ}
use Rattle.pol_rules.specs.Rules.{time_of}
use Rattle.pol_content_actions.proofs.ChangesLemmas.{changes-altered, changes-unaltered}
use Rattle.pol_content_actions.proofs.RowsLemmas.{namespace_rows_same}
use Rattle.pol_content_actions.proofs.namespaces.altered_changes.Goals as goal

pub returns-then-eq : goal.returns-then-eq
returns-then-eq c =
    let s = c.args.asked.now.state.now.rows in
    let command = c.args.asked.now.command.now in
    let is : c.args.altered ≡ c.args.row.now = namespace_rows_exact c.args.altered c.args.row.now (sym c.eq.ensures ∙ c.if-eq.true) in
    let there : row_of namespace_id c.args.altered.id s.content.namespaces ≡ Some c.args.altered = subst (λ (row : NamespaceRow). row_of namespace_id row.id s.content.namespaces ≡ Some row) (sym is) c.requires.there in
    c.no_changes.ensures ∙ sym (changes-unaltered s c.requires.sound (time_of s command) (s.charged + command.charge) c.args.altered there)

pub returns : goal.returns
returns c =
    let s = c.args.asked.now.state.now.rows in
    let command = c.args.asked.now.command.now in
    let there : row_of namespace_id c.args.altered.id s.content.namespaces ≡ Some c.args.row.now = ap (λ id. row_of namespace_id id s.content.namespaces) c.requires.id ∙ c.requires.there in
    let other = same-differ the_row.coded c.args.altered c.args.row.now (λ is. true≢false (sym (namespace_rows_same c.args.altered c.args.row.now is) ∙ sym c.eq.ensures ∙ c.if-eq.false)) in
    IfOk-weaker c.one_change.result _ _ (λ changes is. is
    ∙ ap (λ put. Time (time_of s command) ∷ put ∷ []) c.in_ok-put.ensures
    ∙ sym (changes-altered s c.requires.sound (time_of s command) (s.charged + command.charge) c.args.altered c.args.row.now there other)) c.one_change.ensures
