use Rattle.std.proofs.Common.{◌∙◌, ◌<◌, ap, arith, length, subst, sym}
use Rattle.std.specs.Prelude.{Vec, remove, slice_get}
use Rattle.std.proofs.lemmas.List.{length-map}
use Rattle.pol_blocks.specs.Blocks.{IsReplaced, block_at, contents}
use Rattle.pol_blocks.proofs.Flats.{flat-remove, get-at}
use Rattle.pol_blocks.proofs.blocks.Blocks.remove.Goals as goal

pub returns-clause-taken : goal.returns-clause-taken
returns-clause-taken g c =
    let list = c.args.self.now in
    let place = c.args.place in
    let items = c.self.inside.parts.items in
    let inside : place.block < length list = omega (arith, c.self.inside.parts.ok.0, length-map items (λ (some : Vec _ _). some.items), ap length c.self.view_is, c.requires.within) in
    c.take.ensures.taken ∙ ap (λ some. slice_get (block_at some place.block) place.offset) c.self.view_is ∙ sym (get-at list place.block place.offset (c.requires.inside inside))

pub returns-clause-without : goal.returns-clause-without
returns-clause-without g c =
    let list = c.args.self.now in
    let place = c.args.place in
    let items = c.self.inside.parts.items in
    let new = contents c.take.new.parts.items in
    let inside : place.block < length list = omega (arith, c.self.inside.parts.ok.0, length-map items (λ (some : Vec _ _). some.items), ap length c.self.view_is, c.requires.within) in
    flat-remove list new place.block place.offset (c.requires.inside inside)
    (subst (λ old. IsReplaced old new place.block (remove (block_at old place.block) place.offset)) c.self.view_is c.take.ensures.without)
