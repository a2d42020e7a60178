use Rattle.pol_init.specs.Prepared.{Inputs, inputs_of}
use Rattle.pol_init.proofs.ReadLemmas.{all-prepared, none-prepared}
use Rattle.pol_init.proofs.prepared.prepare.Goals as goal

pub returns-clause-prepared : goal.returns-clause-prepared
returns-clause-prepared g c =
    let before : Inputs = inputs_of g.S.Source.left g.S.Source.faults g.C.Clock.moments g.W.Draw.words g.W.Draw.faults c.args.source.now c.args.clock.now c.args.draw.now in
    let after : Inputs = inputs_of g.S.Source.left g.S.Source.faults g.C.Clock.moments g.W.Draw.words g.W.Draw.faults c.read_declared.new.source c.now-moment.new.self c.made_drawn.new.draw in
    all-prepared before after c.in_ok-declaration.declaration c.now-moment.result c.in_ok-declaration.ensures.declares c.now-moment.ensures.moment c.made_drawn.result c.made_drawn.ensures.made

pub returns-clause-refused : goal.returns-clause-refused
returns-clause-refused g c =
    let before : Inputs = inputs_of g.S.Source.left g.S.Source.faults g.C.Clock.moments g.W.Draw.words g.W.Draw.faults c.args.source.now c.args.clock.now c.args.draw.now in
    let after : Inputs = inputs_of g.S.Source.left g.S.Source.faults g.C.Clock.moments g.W.Draw.words g.W.Draw.faults c.read_declared.new.source c.now-moment.new.self c.made_drawn.new.draw in
    none-prepared before after c.in_ok-declaration.declaration c.now-moment.result c.in_ok-declaration.ensures.declares c.now-moment.ensures.moment c.made_drawn.result c.made_drawn.ensures.refused
