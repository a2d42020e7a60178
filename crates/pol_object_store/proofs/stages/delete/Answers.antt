use Rattle.std.proofs.Common.{◌≡◌, Option, Some, None, true, false, is_some, List, [], ◌∷◌, ap, refl, sym, ◌∙◌}
use Rattle.pol_codec.specs.declared.objects.ObjectChange.{ObjectChange}
use Rattle.pol_codec.specs.declared.objects.ObjectChange.TheVariants as change
use Rattle.pol_objects.specs.Objects.{Object, object_at}
use Rattle.pol_objects.specs.declared.object_state.ObjectState.{ObjectState}
use Rattle.pol_objects.proofs.Machines.{all_kept}
use Rattle.pol_object_store.specs.ObjectRecords.{change_of_delete}
use Rattle.pol_object_store.proofs.stages.delete.Goals as goal

none_there : (found : Option Object) → is_some found ≡ false → found ≡ None
none_there None none = refl
none_there (Some object) none = cc

made_there : (found : Option Object) (made : ObjectChange) → is_some found ≡ true → change_of_delete found made ≡ made ∷ []
made_there None made some = cc
made_there (Some object) made some = refl

pub returns-then-not-branch-clause-next : goal.returns-then-not-branch-clause-next
returns-then-not-branch-clause-next g c =
    let state = c.args.state.now in
    let none = none_there (object_at state.objects c.args.path.now) (sym c.in_ok-contains.ensures ∙ c.if-not-branch.true) in
    let put_back : List Object → ObjectState = λ objects. record { objects = objects; counted = state.counted } in
    ap put_back (sym (all_kept c.args.path.now state.objects none))

pub returns-clause-recorded : goal.returns-clause-recorded
returns-clause-recorded g c =
    let there = sym c.in_ok-contains.ensures ∙ c.if-not-branch.false in
    rw (made_there (object_at c.args.state.now.objects c.args.path.now) (change.Delete c.args.path.now) there, c.in_ok-body.ensures.1, ← c.as_slice.ensures.value)
    c.in_ok-write.ensures.recorded
