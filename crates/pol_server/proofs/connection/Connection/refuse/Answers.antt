use Rattle.std.proofs.Common.{◌≡◌, ◌++◌, false, inl, inr, refl, ap, ◌∙◌}
use Rattle.pol_server.specs.Link.{IsRefusedRest}
use Rattle.pol_server.specs.Serving.{standing, told_text}
use Rattle.pol_server.specs.declared.served.Ending.TheVariants.{Closed}
use Rattle.pol_server.proofs.MovesLemmas.{moves-saying, moves-wanting, refused-silent, silent-untold}
use Rattle.pol_server.proofs.connection.Connection.refuse.Goals as goal

pub returns-in-Ok-clause-moves : goal.returns-in-Ok-clause-moves
returns-in-Ok-clause-moves g c = λ seen.
    let silent = refused-silent c.args.self.now.buffer.items c.args.why c.requires.refused in
    let untold : c.args.self.now.told ≡ false = silent-untold c.args.self.now.told c.args.self.now.buffer.items c.requires.told silent in
    let refused : IsRefusedRest c.args.self.now.buffer.items (told_text c.args.self.now.told ++ c.as_slice.result.now) = record {
      why = c.args.why;
      refused = c.requires.refused;
      text_is = ap (λ told. told_text told ++ c.as_slice.result.now) untold ∙ c.as_slice.ensures.value ∙ c.in-Ok.ensures;
    } in
    moves-saying (standing (g.L.Linked.ends c.args.link.now) seen c.args.self.now) (standing (g.L.Linked.ends c.say.new.link) seen c.args.self.now) c.as_slice.result.now Closed c.say.result c.say.ensures
    (record { seen = refl; places = refl; buffer = refl; budget = refl }) (λ is. cc) (inr (tt, refused)) (inr (tt, inr (inl refused)))

pub returns-in-Err-clause-moves : goal.returns-in-Err-clause-moves
returns-in-Err-clause-moves g c = λ seen.
    let silent = refused-silent c.args.self.now.buffer.items c.args.why c.requires.refused in
    let untold : c.args.self.now.told ≡ false = silent-untold c.args.self.now.told c.args.self.now.buffer.items c.requires.told silent in
    moves-wanting (standing (g.L.Linked.ends c.args.link.now) seen c.args.self.now) (standing (g.L.Linked.ends c.say-in-Err.new.link) seen c.args.self.now) c.say-in-Err.result c.say-in-Err.ensures
    (record { seen = refl; places = refl; buffer = refl; budget = refl }) (inr (silent, ap told_text untold))
