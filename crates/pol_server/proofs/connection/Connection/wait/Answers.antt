use Rattle.std.proofs.Common.{refl}
use Rattle.pol_server.specs.Serving.{standing}
use Rattle.pol_server.specs.declared.served.Ending.TheVariants.{ReadFault, Spent}
use Rattle.pol_server.proofs.MovesLemmas.{finishes-at_end, finishes-quiet, moves-wanting, reads-on}
use Rattle.pol_server.proofs.connection.Connection.wait.Goals as goal

pub returns-in_default-clause-moves : goal.returns-in_default-clause-moves
returns-in_default-clause-moves g c = λ seen.
    reads-on (g.L.Linked.ends c.args.link.now) (g.L.Linked.ends c.read.new.link) _ c.read.new.self seen c.read.ensures

pub returns-in-AtEnd-clause-moves : goal.returns-in-AtEnd-clause-moves
returns-in-AtEnd-clause-moves g c = λ seen.
    finishes-at_end (standing (g.L.Linked.ends c.args.link.now) seen c.args.self.now) c.args.at_end c.requires.at_end c.requires.unfinished

pub returns-in-Failed-clause-moves : goal.returns-in-Failed-clause-moves
returns-in-Failed-clause-moves g c = λ seen.
    finishes-quiet (standing (g.L.Linked.ends c.args.link.now) seen c.args.self.now) ReadFault (tt, c.requires.unfinished) (λ is. cc)

pub returns-in-Spent-clause-moves : goal.returns-in-Spent-clause-moves
returns-in-Spent-clause-moves g c = λ seen.
    finishes-quiet (standing (g.L.Linked.ends c.args.link.now) seen c.args.self.now) Spent (tt, c.requires.unfinished) (λ is. cc)

pub returns-in-NoMemory-clause-moves : goal.returns-in-NoMemory-clause-moves
returns-in-NoMemory-clause-moves g c = λ seen.
    moves-wanting (standing (g.L.Linked.ends c.args.link.now) seen c.args.self.now) (standing (g.L.Linked.ends c.say.new.link) seen c.args.self.now) c.say.result c.say.ensures (record { seen = refl; places = refl; buffer = refl; budget = refl }) c.requires.unfinished.told
