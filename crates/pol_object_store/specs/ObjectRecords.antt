-- What is recorded of a history of actions on objects.
use Rattle.std.specs.Prelude.{ℕ, ◌+◌, ◌-◌, List, [], ◌∷◌, ◌++◌, length, map, Option, Some, None, ⊤}
use Rattle.std.specs.List.{AllByRecursion, sum_by}
use Rattle.pol_codec.specs.Objects.{object_change}
use Rattle.pol_codec.specs.declared.objects.ObjectChange.{ObjectChange}
use Rattle.pol_codec.specs.declared.objects.ObjectChange.TheVariants as change
use Rattle.pol_objects.specs.Machine.{put_refusal}
use Rattle.pol_objects.specs.Objects.{Object, object_at}
use Rattle.pol_objects.specs.declared.action.ObjectAction.{ObjectAction}
use Rattle.pol_objects.specs.declared.action.ObjectAction.TheVariants as action
use Rattle.pol_objects.specs.declared.object_state.ObjectState.{ObjectState}
use Rattle.pol_objects.specs.declared.rule.ObjectRule.{ObjectRule}
use Rattle.pol_object_store.specs.ObjectHistory.{ObjectLog, object_state_after, object_state_at}
use Rattle.pol_object_store.specs.declared.entry.ObjectEntry.{ObjectEntry}

-- the change of a put, by the rule that refuses it
abbrev pub change_of_put : Option ObjectRule → ObjectChange → List ObjectChange
change_of_put None made = made ∷ []
change_of_put (Some rule) made = []

-- the change of a delete, by what is there
abbrev pub change_of_delete : Option Object → ObjectChange → List ObjectChange
change_of_delete None made = []
change_of_delete (Some object) made = made ∷ []

-- the changes that an action makes: one where it is a put or a delete that the machine accepts, and else none
abbrev pub object_changes : ObjectState → ObjectAction → List ObjectChange
object_changes state (action.Get path) = []
object_changes state (action.Head path) = []
object_changes state (action.Put path bytes) = change_of_put (put_refusal state path bytes) (change.Put path bytes)
object_changes state (action.Delete path) = change_of_delete (object_at state.objects path) (change.Delete path)
object_changes state (action.List path) = []

-- the bodies of the records of changes, which are their forms
abbrev pub object_bodies : List ObjectChange → List (List ℕ)
object_bodies changes = map object_change.write changes

-- the bodies of the records of a history, from a state on
unfoldable pub object_records : ObjectState → List ObjectEntry → List (List ℕ)
object_records state [] = []
object_records state (entry ∷ entries) =
    object_bodies (object_changes state entry.action) ++ object_records (object_state_after state entry) entries

-- changes have forms: what is written of each is read back
abbrev pub AreForms : List ObjectChange → Type 0
AreForms changes = AllByRecursion object_change.holds changes

-- and so has each change that a history makes
unfoldable pub AreFormed : ObjectState → List ObjectEntry → Type 0
AreFormed state [] = ⊤
AreFormed state (entry ∷ entries) = AreForms (object_changes state entry.action) × AreFormed (object_state_after state entry) entries

-- how many bytes the records of these bodies take
abbrev pub object_size_of : List (List ℕ) → ℕ
object_size_of bodies = sum_by (λ body. 9 + length body) bodies

-- where the journal ended at the opening
abbrev pub object_opened : {D : Type 0} → ObjectLog D → ℕ
object_opened log = (log.journal.gate + 1) - object_size_of (object_records log.base log.history)

-- where a journal that ended at this place at the opening ends after a history
abbrev pub object_end_after : ℕ → ObjectState → List ObjectEntry → ℕ
object_end_after opened base history = opened + object_size_of (object_records base history)

-- and where it would end with the change of one action more
abbrev pub object_end_with : ℕ → ObjectState → List ObjectEntry → ObjectAction → ℕ
object_end_with opened base history action =
    object_end_after opened base history + object_size_of (object_bodies (object_changes (object_state_at base history) action))
