use Rattle.std.proofs.Common.{◌≡◌, true, false, take, sym, ap, subst, ◌∙◌}
use Rattle.std.specs.List.{list_any}
use Rattle.std.specs.Str.{bytes_eq}
use Rattle.indexmap.specs.IndexSet.{contains}
use Rattle.pol_meta.specs.Creation.{is_same_name}
use Rattle.pol_meta.specs.declared.partition.UnboundField.{UnboundField}
use Rattle.pol_meta.proofs.CreationLemmas.{once_more, told_more, twice_found, was_new, was_there}
use Rattle.pol_drafts.proofs.partition_fields.is_name_twice.Goals as goal

pub returns-then-not-branch : goal.returns-then-not-branch
returns-then-not-branch c =
    let fields = c.args.fields.now in
    let place = c.loop-field.field-index in
    let there = sym (c.loop-field.invariant.0 c.in_ok-clone.field-0)
    ∙ was_there _ _ c.in_ok-insert.ensures.added c.if-not-branch.true in
    sym (twice_found is_same_name fields place c.field-item.result c.loop-field-test.true c.field-item.is
    (subst (λ name. list_any (λ (other : UnboundField). bytes_eq other.name name) (take place fields) ≡ true)
    c.in_ok-clone.ensures.cases there))

pub loop-field-preserved : goal.loop-field-preserved
loop-field-preserved c =
    let fields = c.args.fields.now in
    let place = c.loop-field.field-index in
    let new = sym (c.loop-field.invariant.0 c.in_ok-clone.field-0)
    ∙ was_new _ _ c.in_ok-insert.ensures.added c.if-not-branch.false in (
      λ name. told_more (λ (other : UnboundField). bytes_eq other.name name) fields place c.field-item.result
          (bytes_eq c.in_ok-clone.field-0 name) (contains bytes_eq c.loop-field.names name)
          (contains bytes_eq c.insert.new.self name) c.loop-field-test.true c.field-item.is
          (ap (λ text. bytes_eq text name) (sym c.in_ok-clone.ensures.cases)) (c.loop-field.invariant.0 name)
          (c.in_ok-insert.ensures.updates.0 name),
      once_more is_same_name fields place c.field-item.result c.loop-field-test.true c.field-item.is
          c.loop-field.invariant.1
          (subst (λ name. list_any (λ (other : UnboundField). bytes_eq other.name name) (take place fields) ≡ false)
          c.in_ok-clone.ensures.cases new),
    )
