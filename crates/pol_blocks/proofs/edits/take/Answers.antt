use Rattle.std.proofs.Common.{◌≡◌, ◌<◌, arith, length}
use Rattle.std.proofs.lemmas.Grind.{common_steps}
use Rattle.pol_blocks.proofs.Replaced.{take-from, take-last, taken}
use Rattle.pol_blocks.proofs.edits.take.Goals as goal

pub returns-then-is_empty-clause-without : goal.returns-then-is_empty-clause-without
returns-then-is_empty-clause-without g c =
    let none : length c.remove-item.new.self.items ≡ 0 = grind (arith, common_steps) in
    take-last c.args.parts.now.items c.args.place.block c.index_mut-block.result.now c.remove-item.new.self c.requires.block c.index_mut-block.ensures.value c.remove.new.self.items c.args.place.offset c.remove-item.ensures.items none c.remove.ensures.items

pub returns-else-is_empty-clause-taken : goal.returns-else-is_empty-clause-taken
returns-else-is_empty-clause-taken g c =
    taken c.args.parts.now.items c.args.place.block c.index_mut-block.result.now c.remove-item.new.self c.requires.block c.index_mut-block.ensures.value c.args.place.offset c.remove-item.result c.requires.inside c.remove-item.ensures.value

pub returns-else-is_empty-clause-without : goal.returns-else-is_empty-clause-without
returns-else-is_empty-clause-without g c =
    let some : 0 < length c.remove-item.new.self.items = grind (arith, common_steps) in
    take-from c.args.parts.now.items c.args.place.block c.index_mut-block.result.now c.remove-item.new.self c.requires.block c.index_mut-block.ensures.value c.args.place.offset c.requires.inside c.requires.few c.remove-item.ensures.items some
