use Rattle.std.proofs.Common.{◌≡◌, arith, subst, sym, ◌∙◌}
use Rattle.pol_rules.specs.Rules.{time_of}
use Rattle.pol_state.specs.Sound.{IsSound}
use Rattle.pol_machine.proofs.DecisionLemmas.{next-sound}
use Rattle.pol_kept.proofs.EntryLemmas.{changes-enter}
use Rattle.pol_kept.proofs.stages.enter.Goals as goal

pub apply-requires-clause-sound : goal.apply-requires-clause-sound
apply-requires-clause-sound c =
    let s = c.args.state.now.rows in
    let command = c.args.entry.command in
    let time_is : c.max-time.result ≡ time_of s command = omega arith in
    subst IsSound (sym (changes-enter s command c.args.changes.items c.max-time.result c.requires.sound c.requires.open c.requires.changes time_is)) (next-sound s command c.requires.sound c.requires.moment)

pub returns-clause-rows : goal.returns-clause-rows
returns-clause-rows c =
    let s = c.args.state.now.rows in
    let command = c.args.entry.command in
    let time_is : c.max-time.result ≡ time_of s command = omega arith in
    c.apply.ensures.rows ∙ changes-enter s command c.args.changes.items c.max-time.result c.requires.sound c.requires.open c.requires.changes time_is
