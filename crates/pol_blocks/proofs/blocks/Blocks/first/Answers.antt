use Rattle.std.proofs.Common.{subst}
use Rattle.std.specs.Prelude.{All}
use Rattle.pol_blocks.specs.Blocks.{IsBlock}
use Rattle.pol_blocks.proofs.Points.{first-place}
use Rattle.pol_blocks.proofs.blocks.Blocks.first.Goals as goal

pub returns-clause-place : goal.returns-clause-place
returns-clause-place g c = first-place c.args.self.now (subst (λ blocks. All IsBlock blocks) c.self.view_is c.self.invariant)
