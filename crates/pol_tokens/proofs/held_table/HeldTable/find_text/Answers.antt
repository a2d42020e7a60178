use Rattle.std.proofs.Common.{◌≡◌, true, sym, ap, ◌∙◌}
use Rattle.std.specs.Option.{option_copied}
use Rattle.std.specs.Str.{bytes_eq}
use Rattle.std.proofs.lemmas.Bool.{lt-ltb, le-ltb}
use Rattle.pol_tokens.specs.HeldTable.{spells}
use Rattle.pol_tokens.proofs.HeldLemmas.{find-sought, none-sought, is_sought, passed, taken, other_text, expired}
use Rattle.pol_tokens.proofs.held_table.HeldTable.find_text.Goals as goal
use Rattle.pol_tokens.proofs.held_table.HeldTable.find_text.Goals.{else-eq-via-then-eq+else-now-expiry, else-eq-via-else-eq}

pub returns-in_err-serial_in : goal.returns-in_err-serial_in
returns-in_err-serial_in g c =
    rw (← c.self.view_is)
    (ap option_copied c.from_residual.ensures
    ∙ none-sought g.R.Keyed.key g.R.Held.word_a g.R.Held.word_b g.R.Held.expiry c.args.text.now c.args.now c.self.inside.table.rows c.in_err-serial_in.ensures c.self.invariant.0.words)

pub returns-in_err-row : goal.returns-in_err-row
returns-in_err-row g c =
    rw (← c.self.view_is)
    (ap option_copied c.from_residual-in_err-row.ensures
    ∙ ap (passed (is_sought g.R.Keyed.key g.R.Held.word_a g.R.Held.word_b g.R.Held.expiry c.args.text.now c.args.now)) c.in_err-row.ensures
    ∙ find-sought g.R.Keyed.key g.R.Held.word_a g.R.Held.word_b g.R.Held.expiry c.args.text.now c.args.now c.in_ok-serial_in.field-0 c.self.inside.table.rows c.in_ok-serial_in.ensures c.self.invariant.0)

pub returns-then-now-expiry : goal.returns-then-now-expiry
returns-then-now-expiry g c =
    let text = c.args.text.now in
    let row = c.in_ok-row.row.now in
    let same : spells g.R.Keyed.key g.R.Held.word_a g.R.Held.word_b text row ≡ true =
    sym (c.eq.ensures ∙ ap (bytes_eq text) (c.as_slice.ensures ∙ c.text-written.ensures)) ∙ c.if-eq.true in
    let lives = lt-ltb c.args.now (g.R.Held.expiry row) (rw (← c.expiry.ensures) c.if-now-expiry.true) in
    rw (← c.self.view_is)
    (taken g.R.Keyed.key g.R.Held.word_a g.R.Held.word_b g.R.Held.expiry text c.args.now row same lives
    ∙ ap (passed (is_sought g.R.Keyed.key g.R.Held.word_a g.R.Held.word_b g.R.Held.expiry text c.args.now)) c.in_ok-row.ensures
    ∙ find-sought g.R.Keyed.key g.R.Held.word_a g.R.Held.word_b g.R.Held.expiry text c.args.now c.in_ok-serial_in.field-0 c.self.inside.table.rows c.in_ok-serial_in.ensures c.self.invariant.0)

pub returns : goal.returns
returns g c =
    let text = c.args.text.now in
    let row = c.in_ok-row.row.now in
    let same : c.eq.result ≡ spells g.R.Keyed.key g.R.Held.word_a g.R.Held.word_b text row =
    c.eq.ensures ∙ ap (bytes_eq text) (c.as_slice.ensures ∙ c.text-written.ensures) in
    rw (← c.self.view_is)
    (elim c.else-eq.branch [
      | else-eq-via-then-eq+else-now-expiry w ↦ expired g.R.Keyed.key g.R.Held.word_a g.R.Held.word_b g.R.Held.expiry text c.args.now row (sym same ∙ w.if-eq.true) (le-ltb c.args.now (g.R.Held.expiry row) (rw (← w.expiry.ensures) w.if-now-expiry.false))
      | else-eq-via-else-eq w ↦ other_text g.R.Keyed.key g.R.Held.word_a g.R.Held.word_b g.R.Held.expiry text c.args.now row (sym same ∙ w.if-eq.false)
    ]
    ∙ ap (passed (is_sought g.R.Keyed.key g.R.Held.word_a g.R.Held.word_b g.R.Held.expiry text c.args.now)) c.in_ok-row.ensures
    ∙ find-sought g.R.Keyed.key g.R.Held.word_a g.R.Held.word_b g.R.Held.expiry text c.args.now c.in_ok-serial_in.field-0 c.self.inside.table.rows c.in_ok-serial_in.ensures c.self.invariant.0)
