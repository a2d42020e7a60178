use Rattle.std.proofs.Common.{arith}
use Rattle.pol_blocks.proofs.Points.{item-parted, slice-parted, split-end, split-in, split-place}
use Rattle.pol_blocks.proofs.blocks.Blocks.place_of.Goals as goal

pub block_of-block-requires : goal.block_of-block-requires
block_of-block-requires g c =
    slice-parted (g.F.Front.passes c.args.front.now) c.self.inside.parts.items c.as_slice.result.now c.args.self.now c.self.view_is c.self.invariant c.requires c.as_slice.ensures.value

pub returns-then-block-len-clause-split : goal.returns-then-block-len-clause-split
returns-then-block-len-clause-split g c =
    split-end (g.F.Front.passes c.args.front.now) c.self.inside.parts.items c.as_slice.result.now c.args.self.now c.self.view_is c.self.invariant c.requires c.as_slice.ensures.value
    c.block_of-block.result c.block_of-block.ensures.bound c.block_of-block.ensures.split (omega (arith, c.self.inside.parts.ok.0))

pub offset_in-offset-requires : goal.offset_in-offset-requires
offset_in-offset-requires g c =
    item-parted (g.F.Front.passes c.args.front.now) c.self.inside.parts.items c.as_slice.result.now c.args.self.now c.self.view_is c.self.invariant c.requires c.as_slice.ensures.value
    c.block_of-block.result c.block_of-block.ensures.bound c.block_of-block.ensures.split (omega (arith, c.self.inside.parts.ok.0, c.as_slice.ensures.len, c.block_of-block.ensures.bound))
    c.index.result.now c.index.ensures c.as_slice-2.result.now c.as_slice-2.ensures.value

pub returns-clause-place : goal.returns-clause-place
returns-clause-place g c =
    split-place (g.F.Front.passes c.args.front.now) c.self.inside.parts.items c.as_slice.result.now c.args.self.now c.self.view_is c.self.invariant c.requires c.as_slice.ensures.value
    c.block_of-block.result c.block_of-block.ensures.bound c.block_of-block.ensures.split (omega (arith, c.self.inside.parts.ok.0, c.as_slice.ensures.len, c.block_of-block.ensures.bound))
    c.index.result.now c.index.ensures c.as_slice-2.result.now c.as_slice-2.ensures.value c.offset_in-offset.result c.offset_in-offset.ensures.bound c.offset_in-offset.ensures.split

pub returns-clause-split : goal.returns-clause-split
returns-clause-split g c =
    split-in (g.F.Front.passes c.args.front.now) c.self.inside.parts.items c.as_slice.result.now c.args.self.now c.self.view_is c.self.invariant c.requires c.as_slice.ensures.value
    c.block_of-block.result c.block_of-block.ensures.bound c.block_of-block.ensures.split (omega (arith, c.self.inside.parts.ok.0, c.as_slice.ensures.len, c.block_of-block.ensures.bound))
    c.index.result.now c.index.ensures c.as_slice-2.result.now c.as_slice-2.ensures.value c.offset_in-offset.result c.offset_in-offset.ensures.bound c.offset_in-offset.ensures.split
