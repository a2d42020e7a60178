use Rattle.std.proofs.Common.{get_or, nat_eq, sym, ◌∙◌, refl}
use Rattle.std.proofs.lemmas.List.{get_or_default}
use Rattle.indexmap.specs.IndexSet.{contains}
use Rattle.pol_meta.proofs.CreationLemmas.{once_more, told_more, twice_found, was_new, was_there}
use Rattle.pol_drafts.proofs.partition_fields.is_id_twice.Goals as goal

pub returns-then-not-branch : goal.returns-then-not-branch
returns-then-not-branch c =
    let ids = c.args.ids.now in
    let place = c.loop-id.id-index in
    let id = get_or ids place 0 in
    let there = sym (c.loop-id.invariant.0 id) ∙ was_there _ _ c.in_ok-insert.ensures.added c.if-not-branch.true in
    sym (twice_found nat_eq ids place id c.loop-id-test.true (get_or_default ids place 0 id c.loop-id-test.true) there)

pub loop-id-preserved : goal.loop-id-preserved
loop-id-preserved c =
    let ids = c.args.ids.now in
    let place = c.loop-id.id-index in
    let id = get_or ids place 0 in
    let is = get_or_default ids place 0 id c.loop-id-test.true in
    let new = sym (c.loop-id.invariant.0 id) ∙ was_new _ _ c.in_ok-insert.ensures.added c.if-not-branch.false in (
      λ other. told_more (λ one. nat_eq one other) ids place id (nat_eq id other) (contains nat_eq c.loop-id.seen other)
          (contains nat_eq c.insert.new.self other) c.loop-id-test.true is refl (c.loop-id.invariant.0 other)
          (c.in_ok-insert.ensures.updates.0 other),
      once_more nat_eq ids place id c.loop-id-test.true is c.loop-id.invariant.1 new,
    )
