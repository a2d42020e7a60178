use Rattle.std.proofs.Common.{◌≡◌, ◌≤◌, ◌^◌, List, rules, subst, sym}
use Rattle.std.specs.Prelude.{All}
use Rattle.pol_commands.specs.declared.command.Command.{Command}
use Rattle.pol_init.proofs.PreparedLemmas.{all-ready, at-moment}
use Rattle.pol_init.proofs.prepared.made_ready.Goals as goal

pub made_of-made-requires : goal.made_of-made-requires
made_of-made-requires c =
    subst (λ (list : List Command). All (λ command. command.moment ≤ 2 ^ 62) list) (sym c.in-Ok-set_up.ensures.commands) (at-moment c.args.declaration c.args.moment c.args.words.now c.requires.moment)

pub returns-clause-ready : goal.returns-clause-ready
returns-clause-ready c =
    let secret : c.as_str.result.now ≡ c.args.declaration.root_secret = search rules in
    all-ready c.args.declaration c.args.moment c.args.words.now c.as_str.result.now c.in-Ok-set_up.setup secret c.in-Ok-set_up.ensures.commands c.made_of-made.result c.in-Ok-set_up.ensures.lines c.made_of-made.ensures.made
