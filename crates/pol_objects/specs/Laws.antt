-- Laws of the object machine.
use Rattle.std.specs.Prelude.{◌≡◌, ◌+◌, ◌≤◌, ℕ, Bool, true, false, List, [], ◌∷◌, All, Option, None, Some, length}
use Rattle.std.specs.Ordering.{is_eq}
use Rattle.pol_locations.specs.Location.{IsLocation, location_text}
use Rattle.pol_objects.specs.Machine.{object_next, put_refusal, state_after}
use Rattle.pol_objects.specs.Objects.{Object, byte_order, object_at, with_object, without_object}
use Rattle.pol_objects.specs.declared.action.ObjectAction.{ObjectAction}
use Rattle.pol_objects.specs.declared.action.ObjectAction.TheVariants as action
use Rattle.pol_objects.specs.declared.object_state.ObjectState.{ObjectState}
use Rattle.pol_objects.specs.declared.rule.ObjectRule.{ObjectRule}

-- two locations whose texts compare as equal are one
abbrev pub TextsTell : Type 0
TextsTell = (path other : List (List ℕ)) → IsLocation path → IsLocation other →
    is_eq (byte_order (location_text path) (location_text other)) ≡ true → path ≡ other

-- whether the action deletes what is at this path
abbrev pub deletes : List (List ℕ) → ObjectAction → Bool
deletes path (action.Get other) = false
deletes path (action.Head other) = false
deletes path (action.Put other bytes) = false
deletes path (action.Delete other) = is_eq (byte_order (location_text other) (location_text path))
deletes path (action.List other) = false

-- an object that is put is there, whatever was there before
abbrev pub PutIsThere : Type 0
PutIsThere = (state : ObjectState) (path : List (List ℕ)) (bytes : List ℕ) → put_refusal state path bytes ≡ None →
    object_at (object_next state (action.Put path bytes)).objects path ≡ Some (record { path = path; bytes = bytes })

-- objects are written once: what is at a path stays there with its bytes until it is deleted
abbrev pub WrittenOnce : Type 0
WrittenOnce = (state : ObjectState) (path : List (List ℕ)) (object : Object) (actions : List ObjectAction) →
    object_at state.objects path ≡ Some object → All (λ act. deletes path act ≡ false) actions →
    object_at (state_after state actions).objects path ≡ Some object

-- how many bytes an action counts: those of a put that no rule refuses
abbrev pub counted_unless : Option ObjectRule → List ℕ → ℕ
counted_unless None bytes = length bytes
counted_unless (Some rule) bytes = 0

abbrev pub counted_by : ObjectState → ObjectAction → ℕ
counted_by state (action.Get path) = 0
counted_by state (action.Head path) = 0
counted_by state (action.Put path bytes) = counted_unless (put_refusal state path bytes) bytes
counted_by state (action.Delete path) = 0
counted_by state (action.List path) = 0

-- how many bytes are put in a history
abbrev pub put_in : ObjectState → List ObjectAction → ℕ
put_in state [] = 0
put_in state (act ∷ actions) = counted_by state act + put_in (object_next state act) actions

-- what is counted after a history is what was counted before and all that was put since: it never falls
abbrev pub PutsAreCounted : Type 0
PutsAreCounted = (state : ObjectState) (actions : List ObjectAction) →
    (state_after state actions).counted ≡ state.counted + put_in state actions

-- and it stays within its bound
abbrev pub CountIsBounded : Type 0
CountIsBounded = (state : ObjectState) (actions : List ObjectAction) → state.counted ≤ 268435456 →
    (state_after state actions).counted ≤ 268435456

-- an object that was added and is taken away again leaves the objects as they were
abbrev pub TakenBack : Type 0
TakenBack = (objects : List Object) (object : Object) → object_at objects object.path ≡ None →
    without_object object.path (with_object object objects) ≡ objects
