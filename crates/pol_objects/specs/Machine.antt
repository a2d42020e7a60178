-- The object machine: what each action is answered, what it leaves, and what a history of actions leaves.
use Rattle.std.specs.Prelude.{ℕ, ◌+◌, List, length, Option, Some, None, is_some, if◌then◌else◌}
use Rattle.std.specs.List.{fold}
use Rattle.pol_objects.specs.Objects.{Object, object_at, paths_under, with_object, without_object}
use Rattle.pol_objects.specs.Rules.{size_refusal}
use Rattle.pol_objects.specs.declared.action.ObjectAction.{ObjectAction}
use Rattle.pol_objects.specs.declared.action.ObjectAction.TheVariants as action
use Rattle.pol_objects.specs.declared.object_state.ObjectState.{ObjectState}
use Rattle.pol_objects.specs.declared.reply.ObjectReply.{ObjectReply}
use Rattle.pol_objects.specs.declared.reply.ObjectReply.TheVariants as reply
use Rattle.pol_objects.specs.declared.rule.ObjectRule.{ObjectRule}
use Rattle.pol_objects.specs.declared.rule.ObjectRule.TheVariants.{NoObject, ObjectThere}

-- the first rule that refuses a put: an object of this path is there, or one for the size
unfoldable pub put_refusal : ObjectState → List (List ℕ) → List ℕ → Option ObjectRule
put_refusal state path bytes =
    if is_some (object_at state.objects path) then Some ObjectThere else size_refusal state.counted (length bytes)

-- the reply of what needs an object: that there is none, or what is said of it
abbrev pub of_object : Option Object → (Object → ObjectReply) → ObjectReply
of_object None said = reply.Refused NoObject
of_object (Some object) said = said object

-- the reply of a put, by the rule that refuses it
abbrev pub of_put : Option ObjectRule → ObjectReply
of_put None = reply.Stored
of_put (Some rule) = reply.Refused rule

-- the state with one object more, whose bytes are counted
abbrev pub stored : ObjectState → List (List ℕ) → List ℕ → ObjectState
stored state path bytes = record {
  objects = with_object (record { path = path; bytes = bytes }) state.objects;
  counted = state.counted + length bytes;
}

-- the state after a put, by the rule that refuses it
abbrev pub after_put : Option ObjectRule → ObjectState → List (List ℕ) → List ℕ → ObjectState
after_put None state path bytes = stored state path bytes
after_put (Some rule) state path bytes = state

-- the reply of the machine
abbrev pub object_reply : ObjectState → ObjectAction → ObjectReply
object_reply state (action.Get path) = of_object (object_at state.objects path) (λ object. reply.Bytes object.bytes)
object_reply state (action.Head path) = of_object (object_at state.objects path) (λ object. reply.Length (length object.bytes))
object_reply state (action.Put path bytes) = of_put (put_refusal state path bytes)
object_reply state (action.Delete path) = of_object (object_at state.objects path) (λ _. reply.Deleted)
object_reply state (action.List path) = reply.Paths (paths_under state.objects path)

-- the next state: a put that is accepted adds its object and counts its bytes, and a delete takes its object away.
-- What is counted never falls
abbrev pub object_next : ObjectState → ObjectAction → ObjectState
object_next state (action.Get path) = state
object_next state (action.Head path) = state
object_next state (action.Put path bytes) = after_put (put_refusal state path bytes) state path bytes
object_next state (action.Delete path) = record { objects = without_object path state.objects; counted = state.counted }
object_next state (action.List path) = state

-- the state once actions are done in order
abbrev pub state_after : ObjectState → List ObjectAction → ObjectState
state_after state actions = fold object_next state actions
