use Rattle.std.proofs.Common.{◌≡◌, ◌∙◌, ◌<◌, ap, arith, length, set, subst, sym}
use Rattle.std.specs.Prelude.{All, Vec, slice_get}
use Rattle.std.proofs.lemmas.List.{length-map}
use Rattle.pol_blocks.specs.Blocks.{IsBlock, block_at, contents}
use Rattle.pol_blocks.proofs.Exchanged.{blocks-exchanged, flat-exchanged, number-exchanged, place-exchanged}
use Rattle.pol_blocks.proofs.Flats.{get-at}
use Rattle.pol_blocks.proofs.Points.{item-place}
use Rattle.pol_blocks.proofs.blocks.Blocks.replace.Goals as goal

pub exchange-requires : goal.exchange-requires
exchange-requires g c =
    let items = c.self.inside.parts.items in
    let list = c.args.self.now in
    let place = c.args.place in
    let block = item-place list place c.requires.place c.requires.inside in
    record {
      block = omega (arith, block, length-map items (λ (some : Vec _ _). some.items), ap length c.self.view_is);
      inside = subst (λ some. place.offset < length (block_at some place.block)) (sym c.self.view_is) (c.requires.place.inside block);
    }

pub invariant_of-self : goal.invariant_of-self
invariant_of-self g c =
    let old = contents c.self.inside.parts.items in
    let list = c.args.self.now in
    let place = c.args.place in
    let block = item-place list place c.requires.place c.requires.inside in
    let inside : place.block < length old = subst (λ some. place.block < length some) (sym c.self.view_is) block in
    let within : place.offset < length (block_at old place.block) = subst (λ some. place.offset < length (block_at some place.block)) (sym c.self.view_is) (c.requires.place.inside block) in
    blocks-exchanged old (contents c.exchange.new.parts.items) place c.args.item inside within c.exchange.ensures.put c.self.invariant

pub returns-clause-taken : goal.returns-clause-taken
returns-clause-taken g c =
    let list = c.args.self.now in
    let place = c.args.place in
    let block = item-place list place c.requires.place c.requires.inside in
    c.exchange.ensures.taken ∙ ap (λ some. slice_get (block_at some place.block) place.offset) c.self.view_is
    ∙ sym (get-at list place.block place.offset (c.requires.place.inside block))

pub returns-clause-put : goal.returns-clause-put
returns-clause-put g c =
    let list = c.args.self.now in
    let place = c.args.place in
    let block = item-place list place c.requires.place c.requires.inside in
    let new = contents c.exchange.new.parts.items in
    let is : new ≡ set list place.block (set (block_at list place.block) place.offset c.args.item) =
    c.exchange.ensures.put ∙ ap (λ some. set some place.block (set (block_at some place.block) place.offset c.args.item)) c.self.view_is in
    let all : All IsBlock list = subst (All IsBlock) c.self.view_is c.self.invariant in
    flat-exchanged list new place c.args.item block (c.requires.place.inside block) is all

pub returns-clause-place : goal.returns-clause-place
returns-clause-place g c =
    let list = c.args.self.now in
    let place = c.args.place in
    let block = item-place list place c.requires.place c.requires.inside in
    let new = contents c.exchange.new.parts.items in
    let is : new ≡ set list place.block (set (block_at list place.block) place.offset c.args.item) =
    c.exchange.ensures.put ∙ ap (λ some. set some place.block (set (block_at some place.block) place.offset c.args.item)) c.self.view_is in
    let all : All IsBlock list = subst (All IsBlock) c.self.view_is c.self.invariant in
    place-exchanged list new place c.args.item block (c.requires.place.inside block) is all

pub returns-clause-number : goal.returns-clause-number
returns-clause-number g c =
    let list = c.args.self.now in
    let place = c.args.place in
    let block = item-place list place c.requires.place c.requires.inside in
    let new = contents c.exchange.new.parts.items in
    let is : new ≡ set list place.block (set (block_at list place.block) place.offset c.args.item) =
    c.exchange.ensures.put ∙ ap (λ some. set some place.block (set (block_at some place.block) place.offset c.args.item)) c.self.view_is in
    let all : All IsBlock list = subst (All IsBlock) c.self.view_is c.self.invariant in
    number-exchanged list new place c.args.item block (c.requires.place.inside block) is all
