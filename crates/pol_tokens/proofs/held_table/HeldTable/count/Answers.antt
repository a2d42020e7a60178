use Rattle.std.proofs.Common.{◌≡◌, [], ◌+◌, ◌-◌, cond, sym, ap, subst, ◌∙◌, arith}
use Rattle.pol_tokens.specs.Chains.{link_of, links_from}
use Rattle.pol_tokens.specs.HeldTable.{is_live_at}
use Rattle.pol_tokens.proofs.WalkLemmas.{Steps, Walks, walk-end, walk-step}
use Rattle.pol_tokens.proofs.held_table.HeldTable.count.Given as given
use Rattle.pol_tokens.proofs.held_table.HeldTable.count.Goals as goal
use Rattle.pol_tokens.proofs.held_table.HeldTable.count.Goals.{then-is_live, else-is_live}

-- the step that the loop makes
step : (g : given.Over) (c : goal.After-before-place g) → Steps g.R.Held.holder c.args.principal g.R.Held.expiry c.args.now c.self.inside.table.rows c.rows.place c.rows.held (c.rows.place - 1)
step g c =
    walk-step g.R.Held.holder c.args.principal g.R.Held.expiry c.args.now c.self.inside.table.rows c.rows.place c.rows.held (c.rows.place - 1) c.rows.invariant (omega (arith, c.rows-test.true))

link : (g : given.Over) (c : goal.After-before-place g) → c.before-place.result ≡ link_of (c.rows.place - 1) (links_from g.R.Held.holder [] c.self.inside.table.rows)
link g c = c.before-place.ensures ∙ ap (link_of (c.rows.place - 1)) c.self.invariant.1.links

pub rows-smaller : goal.rows-smaller
rows-smaller g c = omega (arith, link g c, (step g c).falls)

pub rows-preserved : goal.rows-preserved
rows-preserved g c =
    let live : c.is_live.result ≡ is_live_at g.R.Held.expiry (c.rows.place - 1) c.args.now c.self.inside.table.rows =
    c.is_live.ensures in
    let counted : c.rows.held + (step g c).live ≡ c.if-is_live.held = elim c.if-is_live.branch [
      | then-is_live w ↦ (let one = (step g c).is_live ∙ ap (λ b. cond b 1 0) (sym live ∙ w.if-is_live.true) in omega (arith, one, w.held-is))
      | else-is_live w ↦ (let none = (step g c).is_live ∙ ap (λ b. cond b 1 0) (sym live ∙ w.if-is_live.false) in omega (arith, none, w.held-is))
    ] in
    rw (link g c, ← counted) (step g c).walks

pub returns : goal.returns
returns g c =
    let ended : c.rows.place ≡ 0 = omega (arith, c.rows-test.false) in
    rw (← c.self.view_is)
    (walk-end g.R.Held.holder c.args.principal g.R.Held.expiry c.args.now c.self.inside.table.rows c.rows.held (subst (λ place. Walks g.R.Held.holder c.args.principal g.R.Held.expiry c.args.now c.self.inside.table.rows place c.rows.held) ended c.rows.invariant))
