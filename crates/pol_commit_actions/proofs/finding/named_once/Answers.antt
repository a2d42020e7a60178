use Rattle.std.proofs.Common.{◌≡◌, ◌∙◌, ◌++◌, ◌≤◌, ◌∷◌, [], length, Bool, true, false, not, cond, nat_eq, Some, ap, arith, refl, subst, sym, true≢false}
use Rattle.std.specs.Cmp.{nat_eq_equiv}
use Rattle.std.specs.List.{IsDistinct, list_any, position_or_len}
use Rattle.std.proofs.lemmas.Map.Keys.{IsDistinct-push}
use Rattle.pol_commands.specs.declared.reply.Refusal.TheVariants.{TableTwice}
use Rattle.pol_commit_actions.proofs.LoopLemmas.{ids-all, ids-more, ids_before, twice-named, twice-new, twice-over}
use Rattle.pol_commit_actions.proofs.finding.named_once.Goals as goal

denied : (b : Bool) → not b ≡ false → b ≡ true
denied true is = refl
denied false is = absurd (true≢false is)

granted : (b : Bool) → not b ≡ true → b ≡ false
granted false is = refl
granted true is = absurd (true≢false (sym is))

pub returns-then-not-is_new : goal.returns-then-not-is_new
returns-then-not-is_new c =
    let target = c.index-targets-second.result in
    let id = target.row.now.id in
    let before = ids_before c.args.targets.now c.loop-second.second in
    let has = ap (list_any (nat_eq id)) (sym c.loop-second.invariant.held) ∙ denied _ (sym c.in_ok-first.ensures.added ∙ c.if-not-is_new.true) in
    let first = ap (position_or_len (nat_eq id)) (sym c.loop-second.invariant.held) ∙ sym c.in_ok-first.ensures.index in
    sym c.loop-second.invariant.left
    ∙ twice-named c.args.targets.now c.loop-second.second target c.loop-second-test.true c.index-targets-second.is has
    ∙ ap (λ place. Some (TableTwice place c.loop-second.second)) first

pub loop-second-preserved : goal.loop-second-preserved
loop-second-preserved c =
    let targets = c.args.targets.now in
    let target = c.index-targets-second.result in
    let id = target.row.now.id in
    let before = ids_before targets c.loop-second.second in
    let new = granted _ (sym c.in_ok-first.ensures.added ∙ c.if-not-is_new.false) in
    let has = ap (list_any (nat_eq id)) (sym c.loop-second.invariant.held) ∙ new in
    let more = ids-more targets c.loop-second.second target c.loop-second-test.true c.index-targets-second.is in
    record {
      held = c.in_ok-first.ensures.keys
          ∙ ap (λ b. cond b c.loop-second.ids.keys (c.loop-second.ids.keys ++ id ∷ [])) new
          ∙ ap (λ keys. keys ++ id ∷ []) c.loop-second.invariant.held
          ∙ sym more;
      differ = subst (IsDistinct nat_eq) (sym more) (IsDistinct-push nat_eq_equiv before id c.loop-second.invariant.differ has);
      left = twice-new targets c.loop-second.second target c.loop-second-test.true c.index-targets-second.is has
          ∙ c.loop-second.invariant.left;
    }

pub returns : goal.returns
returns c =
    let past : length c.args.targets.now ≤ c.loop-second.second = omega (arith, c.loop-second-test.false) in (
      sym c.loop-second.invariant.left ∙ twice-over c.args.targets.now c.loop-second.second past,
      subst (IsDistinct nat_eq) (ids-all c.args.targets.now c.loop-second.second past) c.loop-second.invariant.differ,
    )
