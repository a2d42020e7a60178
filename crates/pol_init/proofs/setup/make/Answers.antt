use Rattle.std.proofs.Common.{◌≡◌, arith, subst, sym, ◌∙◌}
use Rattle.pol_rules.specs.Rules.{time_of}
use Rattle.pol_state.specs.Sound.{IsSound}
use Rattle.pol_machine.proofs.DecisionLemmas.{next-sound}
use Rattle.pol_init.proofs.MakeLemmas.{changes-made}
use Rattle.pol_init.proofs.setup.make.Goals as goal

pub apply-requires-clause-sound : goal.apply-requires-clause-sound
apply-requires-clause-sound c =
    let s = c.args.state.now.rows in
    let command = c.args.command.now in
    let time : c.max-time.result ≡ time_of s command = omega arith in
    subst IsSound (sym (changes-made s c.reserve.new.self.rows command c.args.changes.items c.max-time.result c.requires.sound c.requires.passed c.reserve.ensures.rows c.requires.changes time)) (next-sound s command c.requires.sound c.requires.moment)

pub returns-clause-rows : goal.returns-clause-rows
returns-clause-rows c =
    let s = c.args.state.now.rows in
    let command = c.args.command.now in
    let time : c.max-time.result ≡ time_of s command = omega arith in
    c.apply.ensures.rows ∙ changes-made s c.reserve.new.self.rows command c.args.changes.items c.max-time.result c.requires.sound c.requires.passed c.reserve.ensures.rows c.requires.changes time
