use Rattle.std.proofs.Common.{◌≡◌, ◌+◌, ◌<◌, ◌∙◌, ◌++◌, ◌∷◌, [], None, ap, arith, get_or, length, refl, rules, subst, sym}
use Rattle.std.proofs.lemmas.Iterator.Adapters.{YieldsList-from_vec}
use Rattle.std.proofs.lemmas.Iterator.Consumers.{YieldsList-end, YieldsList-turn}
use Rattle.std.proofs.lemmas.List.{length-map, length_push, map-append}
use Rattle.pol_rules.specs.Rules.{time_of}
use Rattle.pol_rules.proofs.JudgedLemmas.{judged-stopped}
use Rattle.pol_commit_actions.specs.Outcome.{all_committed, committed}
use Rattle.pol_commit_actions.specs.Rules.{bad_location_from}
use Rattle.pol_commit_actions.specs.Seen.{commit_to, committed_table, committed_tables, commits_to}
use Rattle.pol_commit_actions.specs.declared.target.Committed.{Committed}
use Rattle.pol_commit_actions.proofs.BoundLemmas.{moves-within, target-own, version-bound}
use Rattle.pol_commit_actions.proofs.MadeLemmas.{bad-at, good-more, made-more, made_at, none-made, placing, whole-made}
use Rattle.pol_commit_actions.proofs.OutcomeLemmas.{made-length, outcome-made}
use Rattle.pol_commit_actions.proofs.ReplacedLemmas.{replaced}
use Rattle.pol_commit_actions.proofs.locations.all_committed.Goals as goal

pub loop-meta-init : goal.loop-meta-init
loop-meta-init c = record {
  seen = ap committed_tables c.in_ok-made.ensures.items ∙ sym (none-made c.args.targets.now c.args.metas.items).0;
  good = (none-made c.args.targets.now c.args.metas.items).1;
  count = ap length c.in_ok-made.ensures.items;
}

pub bounds-targets-table : goal.bounds-targets-table
bounds-targets-table c =
    let time = time_of c.args.asked.now.state.now.rows c.args.asked.now.command.now in
    let targets = c.args.targets.now in
    let metas = c.args.metas.items in
    let paired = made-length time 0 (commits_to targets) metas (outcome-made time (commits_to targets) metas c.requires.made).1 ∙ length-map targets commit_to in
    let turn = YieldsList-turn (YieldsList-from_vec {s = c.into_iter-meta-iterator.result} metas (search rules) (search rules)) c.loop-meta.yielded c.loop-meta.meta-iterator c.loop-meta.yielded_by c.next.result c.next.new.self c.in-Some.meta c.in-Some.is c.next.ensures.steps in
    let inside = turn.0 in
    let count = c.loop-meta.invariant.count in
    omega (arith, paired, inside, count, c.len-table.ensures)

pub committed-requires-clause-version : goal.committed-requires-clause-version
committed-requires-clause-version c =
    let s = c.args.asked.now.state.now.rows in
    let time = time_of s c.args.asked.now.command.now in
    let targets = c.args.targets.now in
    let metas = c.args.metas.items in
    let paired = made-length time 0 (commits_to targets) metas (outcome-made time (commits_to targets) metas c.requires.made).1 ∙ length-map targets commit_to in
    let turn = YieldsList-turn (YieldsList-from_vec {s = c.into_iter-meta-iterator.result} metas (search rules) (search rules)) c.loop-meta.yielded c.loop-meta.meta-iterator c.loop-meta.yielded_by c.next.result c.next.new.self c.in-Some.meta c.in-Some.is c.next.ensures.steps in
    let within = turn.0 in
    let count = c.loop-meta.invariant.count in
    let inside : c.len-table.result < length targets = omega (arith, paired, within, count, c.len-table.ensures) in
    version-bound s c.requires.sound c.index-targets-table.result.row.now (target-own s c.args.targets.now c.len-table.result c.index-targets-table.result c.requires.there inside c.index-targets-table.is)

pub committed-requires-clause-moves : goal.committed-requires-clause-moves
committed-requires-clause-moves c =
    let s = c.args.asked.now.state.now.rows in
    let time = time_of s c.args.asked.now.command.now in
    let targets = c.args.targets.now in
    let metas = c.args.metas.items in
    let paired = made-length time 0 (commits_to targets) metas (outcome-made time (commits_to targets) metas c.requires.made).1 ∙ length-map targets commit_to in
    let turn = YieldsList-turn (YieldsList-from_vec {s = c.into_iter-meta-iterator.result} metas (search rules) (search rules)) c.loop-meta.yielded c.loop-meta.meta-iterator c.loop-meta.yielded_by c.next.result c.next.new.self c.in-Some.meta c.in-Some.is c.next.ensures.steps in
    let within = turn.0 in
    let count = c.loop-meta.invariant.count in
    let inside : c.len-table.result < length targets = omega (arith, paired, within, count, c.len-table.ensures) in
    moves-within s c.requires.sound c.index-targets-table.result.row.now (target-own s c.args.targets.now c.len-table.result c.index-targets-table.result c.requires.there inside c.index-targets-table.is)

pub returns-in_err-committed : goal.returns-in_err-committed
returns-in_err-committed c =
    let targets = c.args.targets.now in
    let metas = c.args.metas.items in
    let target = c.index-targets-table.result in
    let meta = c.in-Some.meta in
    let table = c.len-table.result in
    let counted = c.loop-meta.invariant.count in
    let same : c.len-table.result ≡ length c.loop-meta.yielded = omega (arith, c.len-table.ensures, counted) in
    let time = time_of c.args.asked.now.state.now.rows c.args.asked.now.command.now in
    let paired = sym (made-length time 0 (commits_to targets) metas (outcome-made time (commits_to targets) metas c.requires.made).1 ∙ length-map targets commit_to) in
    let turn = YieldsList-turn (YieldsList-from_vec {s = c.into_iter-meta-iterator.result} metas (search rules) (search rules)) c.loop-meta.yielded c.loop-meta.meta-iterator c.loop-meta.yielded_by c.next.result c.next.new.self meta c.in-Some.is c.next.ensures.steps in
    let inside : table < length metas = subst (λ i. i < length metas) (sym same) turn.0 in
    let at : meta ≡ get_or metas table meta = subst (λ i. meta ≡ get_or metas i meta) (sym same) turn.1 in
    let good = subst (λ i. bad_location_from 0 (made_at targets metas i) ≡ None) (sym same) c.loop-meta.invariant.good in
    judged-stopped {T = Committed} (placing table (commit_to target) meta) (bad_location_from 0 (all_committed (commits_to targets) metas)) (λ made. committed_table made ≡ committed (commit_to target) meta) _ c.in_err-committed.field-0.0 c.from_residual-in_err-committed.result c.from_residual-in_err-committed.ensures.1
    (λ why fails. bad-at targets metas paired table target meta inside c.index-targets-table.is at good why fails) c.in_err-committed.ensures

pub loop-meta-preserved : goal.loop-meta-preserved
loop-meta-preserved c =
    let targets = c.args.targets.now in
    let metas = c.args.metas.items in
    let target = c.index-targets-table.result in
    let meta = c.in-Some.meta in
    let table = c.len-table.result in
    let counted = c.loop-meta.invariant.count in
    let same : c.len-table.result ≡ length c.loop-meta.yielded = omega (arith, c.len-table.ensures, counted) in
    let time = time_of c.args.asked.now.state.now.rows c.args.asked.now.command.now in
    let paired = sym (made-length time 0 (commits_to targets) metas (outcome-made time (commits_to targets) metas c.requires.made).1 ∙ length-map targets commit_to) in
    let turn = YieldsList-turn (YieldsList-from_vec {s = c.into_iter-meta-iterator.result} metas (search rules) (search rules)) c.loop-meta.yielded c.loop-meta.meta-iterator c.loop-meta.yielded_by c.next.result c.next.new.self meta c.in-Some.is c.next.ensures.steps in
    let inside : table < length metas = subst (λ i. i < length metas) (sym same) turn.0 in
    let at : meta ≡ get_or metas table meta = subst (λ i. meta ≡ get_or metas i meta) (sym same) turn.1 in
    let good = subst (λ i. bad_location_from 0 (made_at targets metas i) ≡ None) (sym same) c.loop-meta.invariant.good in
    let more = ap (λ n. n + 1) same ∙ sym (length_push c.loop-meta.yielded meta) in
    record {
      seen = ap committed_tables c.in_ok-push.ensures.items
          ∙ map-append committed_table c.loop-meta.made.items _
          ∙ (λ i. (c.loop-meta.invariant.seen ∙ ap (made_at targets metas) (sym same)) i ++ c.in_ok-committed.ensures.1 i ∷ [])
          ∙ sym (made-more targets metas paired table target meta inside c.index-targets-table.is at)
          ∙ ap (made_at targets metas) more;
      good = subst (λ i. bad_location_from 0 (made_at targets metas i) ≡ None) more (good-more targets metas paired table target meta inside c.index-targets-table.is at good c.in_ok-committed.ensures.0);
      count = ap length c.in_ok-push.ensures.items ∙ length_push c.loop-meta.made.items _ ∙ ap (λ n. n + 1) c.loop-meta.invariant.count ∙ sym (length_push c.loop-meta.yielded meta);
    }

pub returns : goal.returns
returns c =
    let s = c.args.asked.now.state.now.rows in
    let time = time_of s c.args.asked.now.command.now in
    let targets = c.args.targets.now in
    let metas = c.args.metas.items in
    let paired = made-length time 0 (commits_to targets) metas (outcome-made time (commits_to targets) metas c.requires.made).1 ∙ length-map targets commit_to in
    let end = YieldsList-end (YieldsList-from_vec {s = c.into_iter-meta-iterator.result} metas (search rules) (search rules)) c.loop-meta.yielded c.loop-meta.meta-iterator c.loop-meta.yielded_by c.next.result c.next.new.self c.in-None.is c.next.ensures.steps in
    let whole = whole-made targets metas (sym paired) (length c.loop-meta.yielded) (let all = end.1 in omega (arith, all)) in (
      ap (bad_location_from 0) (sym whole) ∙ c.loop-meta.invariant.good,
      (c.loop-meta.invariant.seen ∙ whole, replaced s time (commits_to targets) metas (all_committed (commits_to targets) metas) c.requires.there c.requires.once c.requires.made refl),
    )
