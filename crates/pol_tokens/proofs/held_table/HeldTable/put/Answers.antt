use Rattle.std.proofs.Common.{◌≡◌, ◌<◌, ◌^◌, [], ◌∷◌, ◌++◌, false, sym, ap, subst, ◌∙◌, arith, true≢false}
use Rattle.pol_tables.specs.Table.{knows}
use Rattle.pol_tables.proofs.TableLemmas.{rows_with-new}
use Rattle.pol_tokens.specs.Chains.{AreChained, AreLinked}
use Rattle.pol_tokens.specs.HeldTable.{AreKept}
use Rattle.pol_tokens.proofs.ChainLemmas.{AreChained-push}
use Rattle.pol_tokens.proofs.HeldLemmas.{AreKept-push, known-is, once-known, once-new}
use Rattle.pol_tokens.proofs.held_table.HeldTable.put.Given as given
use Rattle.pol_tokens.proofs.held_table.HeldTable.put.Goals as goal

pub returns-then-is_some-clause-rows : goal.returns-then-is_some-clause-rows
returns-then-is_some-clause-rows g c =
    let known = known-is g.R.Keyed.key c.args.row c.key.result c.self.inside.table.rows c.find.result c.key.ensures c.find.ensures ∙ sym c.is_some.ensures ∙ c.if-is_some.true in
    rw (← c.self.view_is) (sym (once-known g.R.Keyed.key c.args.row c.self.inside.table.rows known))

pub link-requires : goal.link-requires
link-requires g c =
    let new = known-is g.R.Keyed.key c.args.row c.key.result c.self.inside.table.rows c.find.result c.key.ensures c.find.ensures ∙ sym c.is_some.ensures ∙ c.if-is_some.false in
    let room = c.requires (rw (← c.self.view_is) new) in
    omega (arith, room, ap (λ t. t.room) c.self.view_is)

-- the serial is new, and the row goes last
new : (g : given.Over) (c : goal.After-put g) → knows g.R.Keyed.key (g.R.Keyed.key c.args.row) c.self.inside.table.rows ≡ false
new g c =
    known-is g.R.Keyed.key c.args.row c.key.result c.self.inside.table.rows c.find.result c.key.ensures c.find.ensures ∙ sym c.is_some.ensures ∙ c.if-is_some.false

pushed : (g : given.Over) (c : goal.After-put g) → c.put.new.self.rows ≡ c.self.inside.table.rows ++ c.args.row ∷ []
pushed g c = c.put.ensures.rows ∙ rows_with-new g.R.Keyed.key c.args.row c.self.inside.table.rows (new g c)

pub invariant_of-self : goal.invariant_of-self
invariant_of-self g c =
    let fits = subst (λ serial. serial < 2 ^ 64) c.key.ensures c.key.type_inv in
    let linked = subst (λ holder. AreLinked holder c.self.inside.chains c.link.new.self) c.holder.ensures c.link.ensures.linked in (
      subst (AreKept g.R.Keyed.key) (sym (pushed g c)) (AreKept-push g.R.Keyed.key c.args.row c.self.inside.table.rows fits (new g c) c.self.invariant.0),
      subst (AreChained g.R.Held.holder c.link.new.self) (sym (pushed g c)) (AreChained-push g.R.Held.holder c.self.inside.chains c.link.new.self c.self.inside.table.rows c.args.row c.self.invariant.1 linked),
    )

pub returns-clause-rows : goal.returns-clause-rows
returns-clause-rows g c =
    rw (← c.self.view_is) (pushed g c ∙ sym (once-new g.R.Keyed.key c.args.row c.self.inside.table.rows (new g c)))

pub returns-clause-known : goal.returns-clause-known
returns-clause-known g c there = absurd (true≢false (sym there ∙ rw (← c.self.view_is) (new g c)))
