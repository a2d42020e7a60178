-- What a message does with objects.
use Rattle.std.specs.Prelude.{ℕ, Bool, true, false, List}
use Rattle.pol_objects.specs.declared.action.ObjectAction.{ObjectAction}
use Rattle.pol_objects.specs.declared.action.ObjectAction.TheVariants as action
use Rattle.pol_objects.specs.declared.reply.ObjectReply.{ObjectReply}
use Rattle.pol_objects.specs.declared.reply.ObjectReply.TheVariants.{Bytes, Length, Stored, Deleted, Paths, Refused}
use Rattle.pol_routes.specs.declared.verb.Verb.{Verb}
use Rattle.pol_routes.specs.declared.verb.Verb.TheVariants as verb

-- the action of a verb on a path, by a message with this body
abbrev pub action_by : Verb → List (List ℕ) → List ℕ → ObjectAction
action_by verb.Get path body = action.Get path
action_by verb.Head path body = action.Head path
action_by verb.Put path body = action.Put path body
action_by verb.Delete path body = action.Delete path
action_by verb.List path body = action.List path

-- the reply tells that the objects have changed
abbrev pub tells_change : ObjectReply → Bool
tells_change (Bytes bytes) = false
tells_change (Length length) = false
tells_change Stored = true
tells_change Deleted = true
tells_change (Paths paths) = false
tells_change (Refused rule) = false
