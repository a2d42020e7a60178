use Rattle.std.proofs.Common.{◌≡◌, ℕ, Bool, true, false, nat_eq, Option, Some, take, sym, ap, subst, ◌∙◌}
use Rattle.std.specs.List.{list_any}
use Rattle.indexmap.specs.IndexSet.{contains}
use Rattle.pol_meta.specs.Creation.{is_same_given, is_same_id}
use Rattle.pol_meta.specs.declared.partition.UnboundField.{UnboundField}
use Rattle.pol_meta.proofs.CreationLemmas.{none_given, once_more, told_more, twice_found, was_new, was_there}
use Rattle.pol_meta.proofs.create.is_id_twice.Goals as goal
use Rattle.pol_meta.proofs.create.is_id_twice.Goals.{in-Some+in_ok-insert+else-not-branch, in_default}

pub returns-then-not-branch : goal.returns-then-not-branch
returns-then-not-branch c =
    let fields = c.args.fields.now in
    let place = c.loop-field.field-index in
    let there = sym (c.loop-field.invariant.0 c.in-Some.id)
    ∙ was_there _ _ c.in_ok-insert.ensures.added c.if-not-branch.true in
    sym (twice_found is_same_given fields place c.field-item.result c.loop-field-test.true c.field-item.is
    (subst (λ given. list_any (λ (other : UnboundField). is_same_id other.field_id given) (take place fields) ≡ true)
    (sym c.in-Some.is) there))

pub loop-field-preserved : goal.loop-field-preserved
loop-field-preserved c =
    let fields = c.args.fields.now in
    let place = c.loop-field.field-index in
    let field = c.field-item.result in
    let more = λ (id : ℕ) (same : Bool). told_more (λ (other : UnboundField). is_same_id other.field_id (Some id)) fields
    place field same (contains nat_eq c.loop-field.ids id) (contains nat_eq c.match-field.ids id) c.loop-field-test.true
    c.field-item.is in
    let once = λ (given : Option ℕ) (is : field.field_id ≡ given)
    (new : list_any (λ (other : UnboundField). is_same_id other.field_id given) (take place fields) ≡ false).
    once_more is_same_given fields place field c.loop-field-test.true c.field-item.is c.loop-field.invariant.1
    (subst (λ one. list_any (λ (other : UnboundField). is_same_id other.field_id one) (take place fields) ≡ false)
    (sym is) new) in
    elim c.match-field.branch [
      | in-Some+in_ok-insert+else-not-branch w ↦ (
        λ id. more id (nat_eq w.in-Some.id id) (ap (λ given. is_same_id given (Some id)) w.in-Some.is)
            (c.loop-field.invariant.0 id)
            (ap (λ ids. contains nat_eq ids id) w.ids-is ∙ w.in_ok-insert.ensures.updates.0 id),
        once (Some w.in-Some.id) w.in-Some.is
            (sym (c.loop-field.invariant.0 w.in-Some.id)
            ∙ was_new _ _ w.in_ok-insert.ensures.added w.if-not-branch.false),
      )
      | in_default w ↦ (
        λ id. more id false (ap (λ given. is_same_id given (Some id)) w.in_default.is) (c.loop-field.invariant.0 id)
            (ap (λ ids. contains nat_eq ids id) w.ids-is),
        once _ w.in_default.is (none_given (take place fields)),
      )
    ]
