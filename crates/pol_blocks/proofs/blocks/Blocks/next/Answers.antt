use Rattle.std.proofs.Common.{◌≡◌, ◌∙◌, ◌<◌, ◌+◌, ap, arith, length, refl, subst}
use Rattle.std.specs.Prelude.{All, Vec}
use Rattle.std.proofs.lemmas.List.{length-map}
use Rattle.pol_blocks.specs.Blocks.{IsBlock, block_at}
use Rattle.pol_blocks.proofs.Flats.{contents-at}
use Rattle.pol_blocks.proofs.Points.{next-block, next-item, next-number}
use Rattle.pol_blocks.proofs.blocks.Blocks.next.Goals as goal

pub overflow_add-offset : goal.overflow_add-offset
overflow_add-offset g c =
    let items = c.self.inside.parts.items in
    let place = c.args.place in
    let inside : place.block < length items = omega (arith, length-map items (λ (some : Vec _ _). some.items), ap length c.self.view_is, c.requires.item) in
    let read : c.index.result.now.items ≡ block_at c.args.self.now place.block =
    contents-at items place.block c.index.result.now inside c.index.ensures ∙ ap (λ some. block_at some place.block) c.self.view_is in
    let many : c.len-length.result ≡ length (block_at c.args.self.now place.block) = c.len-length.ensures ∙ c.index.result.now.ok.0 ∙ ap length read in
    omega (arith, many, c.requires.place.inside c.requires.item, c.len-length.type_inv)

pub returns-then-offset-length-clause-place : goal.returns-then-offset-length-clause-place
returns-then-offset-length-clause-place g c =
    let items = c.self.inside.parts.items in
    let place = c.args.place in
    let inside : place.block < length items = omega (arith, length-map items (λ (some : Vec _ _). some.items), ap length c.self.view_is, c.requires.item) in
    let read : c.index.result.now.items ≡ block_at c.args.self.now place.block =
    contents-at items place.block c.index.result.now inside c.index.ensures ∙ ap (λ some. block_at some place.block) c.self.view_is in
    let many : c.len-length.result ≡ length (block_at c.args.self.now place.block) = c.len-length.ensures ∙ c.index.result.now.ok.0 ∙ ap length read in
    next-item c.args.self.now place c.requires.place c.requires.item (place.offset + 1) refl (omega (arith, many))

pub returns-clause-place : goal.returns-clause-place
returns-clause-place g c =
    next-block c.args.self.now c.args.place c.requires.place c.requires.item (c.args.place.block + 1) refl (subst (λ blocks. All IsBlock blocks) c.self.view_is c.self.invariant)

pub returns-clause-number : goal.returns-clause-number
returns-clause-number g c =
    let items = c.self.inside.parts.items in
    let place = c.args.place in
    let inside : place.block < length items = omega (arith, length-map items (λ (some : Vec _ _). some.items), ap length c.self.view_is, c.requires.item) in
    let read : c.index.result.now.items ≡ block_at c.args.self.now place.block =
    contents-at items place.block c.index.result.now inside c.index.ensures ∙ ap (λ some. block_at some place.block) c.self.view_is in
    let many : c.len-length.result ≡ length (block_at c.args.self.now place.block) = c.len-length.ensures ∙ c.index.result.now.ok.0 ∙ ap length read in
    next-number c.args.self.now place c.requires.place c.requires.item (place.block + 1) refl (omega (arith, many))
