use Rattle.std.proofs.Common.{subst, ◌∙◌, ap}
use Rattle.std.specs.Prelude.{OnOk, insert}
use Rattle.pol_blocks.specs.Blocks.{IsReplaced, block_at, contents}
use Rattle.pol_blocks.proofs.Flats.{blocks-if, blocks-replaced, inserted-at, inserted-if}
use Rattle.pol_blocks.proofs.blocks.Blocks.insert.Goals as goal

pub invariant_of-self : goal.invariant_of-self
invariant_of-self g c =
    let old = contents c.self.inside.parts.items in
    let spot = c.spot-spot.result in
    blocks-if old (contents c.put_in.new.parts.items) spot.block (insert (block_at old spot.block) spot.offset c.args.item) c.put_in.result c.put_in.ensures.put c.put_in.ensures.error c.self.invariant

pub returns-then-has_room-clause-inserted : goal.returns-then-has_room-clause-inserted
returns-then-has_room-clause-inserted g c =
    let new = contents c.put_in.new.parts.items in
    let spot = c.spot-spot.result in
    inserted-if c.args.self.now new c.args.place spot c.args.item c.put_in.result c.spot-spot.ensures
    (subst (λ old. OnOk c.put_in.result (IsReplaced old new spot.block (insert (block_at old spot.block) spot.offset c.args.item))) c.self.view_is c.put_in.ensures.put)

pub invariant_of-self-2 : goal.invariant_of-self-2
invariant_of-self-2 g c =
    let old = contents c.self.inside.parts.items in
    let new = contents c.put_and_split.new.parts.items in
    let spot = c.spot-spot.result in
    let replaced = subst (λ parts. IsReplaced (contents parts) new spot.block (insert (block_at (contents parts) spot.block) spot.offset c.args.item)) c.in-Ok.ensures.kept c.put_and_split.ensures in
    blocks-replaced old new spot.block (insert (block_at old spot.block) spot.offset c.args.item) replaced c.self.invariant

pub returns-clause-inserted : goal.returns-clause-inserted
returns-clause-inserted g c =
    let new = contents c.put_and_split.new.parts.items in
    let spot = c.spot-spot.result in
    let same = ap contents c.in-Ok.ensures.kept ∙ c.self.view_is in
    inserted-at c.args.self.now new c.args.place spot c.args.item c.spot-spot.ensures
    (subst (λ old. IsReplaced old new spot.block (insert (block_at old spot.block) spot.offset c.args.item)) same c.put_and_split.ensures)
