use Rattle.std.proofs.Common.{◌≡◌, ◌∙◌, ◌<◌, arith, length}
use Rattle.pol_blocks.proofs.Replaced.{replaced-none, replaced-split}
use Rattle.pol_blocks.proofs.edits.put_and_split.Goals as goal

pub returns-then-spot-len : goal.returns-then-spot-len
returns-then-spot-len g c =
    let parts = c.args.parts.now.items in
    let last : c.args.spot.block ≡ length parts = c.if-spot-len.true ∙ c.len.ensures ∙ c.args.parts.now.ok.0 in
    replaced-none parts c.put-then-spot-len.new.block.items c.args.spot.block c.args.spot.offset c.args.item c.args.more.items c.put.new.block last (c.requires.first last) c.requires.empty c.put.ensures.items c.put-then-spot-len.ensures.items

pub returns : goal.returns
returns g c =
    let parts = c.args.parts.now.items in
    let inside : c.args.spot.block < length parts = omega (arith, c.args.parts.now.ok.0) in
    replaced-split parts c.put-2.new.block.items c.args.spot.block c.args.spot.offset c.index_mut.result.now c.split-behind.new.block c.split-behind.result c.args.item inside c.index_mut.ensures.value c.split-behind.ensures.front c.split-behind.ensures.behind c.split-behind.ensures.items c.put-2.ensures.items
