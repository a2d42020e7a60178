use Rattle.std.proofs.Common.{refl, drop}
use Rattle.pol_server.specs.Stores.{seen_of}
use Rattle.pol_server.specs.Serving.{Standing, standing}
use Rattle.pol_server.proofs.MovesLemmas.{moves-wanting, told-before}
use Rattle.pol_server.proofs.connection.Connection.answer_told.Goals as goal

pub returns-in_default-clause-moves : goal.returns-in_default-clause-moves
returns-in_default-clause-moves g c =
    let ends = g.L.Linked.ends in
    let at = c.requires.parts.1 in
    let after : Standing = record {
      ends = ends c.say.new.link;
      seen = seen_of c.args.stores.now;
      places = c.reserve.new.self.items;
      buffer = c.args.self.now.buffer.items;
      budget = c.args.self.now.budget;
      told = c.args.self.now.told;
    } in
    moves-wanting (standing (ends c.args.link.now) (seen_of c.args.stores.now) c.args.self.now) after c.say.result c.say.ensures
    (record { seen = refl; places = c.reserve.ensures.items; buffer = refl; budget = refl })
    (told-before c.args.self.now.buffer.items c.requires.parts.0 (drop c.args.body.end c.args.self.now.buffer.items) c.args.self.now.told at.reads c.requires.parts.2)
