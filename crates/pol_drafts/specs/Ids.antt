-- The ids of schemas, partition specs, sort orders and partition fields: which one an update names, and which one a new
-- member gets.
use Rattle.std.specs.Prelude.{◌+◌, ◌==◌, ℕ, Bool, nat_lt, List, Option, None, Some, Result, Ok, Err, if◌then◌else◌}
use Rattle.std.specs.List.{list_any}
use Rattle.std.specs.Option.{ok_or}
use Rattle.pol_meta.specs.Creation.{highest}
use Rattle.pol_meta.specs.declared.why.Why.{Why}
use Rattle.pol_meta.specs.declared.why.Why.TheVariants.{IdsUsedUp, NoneAdded, NoSuchId}
use Rattle.pol_drafts.specs.declared.member.MemberId.{MemberId}
use Rattle.pol_drafts.specs.declared.member.MemberId.TheVariants.{LastAdded, Id}

-- whether an id is among these
abbrev pub has_id : ℕ → List ℕ → Bool
has_id id ids = list_any (λ other. other == id) ids

-- the id of the member that an update names: that of the last added, or one that a member has
unfoldable pub chosen : MemberId → Option ℕ → List ℕ → Result ℕ Why
chosen LastAdded last ids = ok_or last NoneAdded
chosen (Id id) last ids = if has_id id ids then Ok id else Err NoSuchId

-- the last added, where it isn't among the ids of those that are removed
abbrev pub still_last : List ℕ → Option ℕ → Option ℕ
still_last gone None = None
still_last gone (Some id) = if has_id id gone then None else Some id

-- whether an id is above the highest that a schema, spec, order or partition field may have
abbrev pub is_above : ℕ → Bool
is_above id = nat_lt 2147483647 id

-- an id that is given out, where it may be one
unfoldable pub given : ℕ → Result ℕ Why
given id = if is_above id then Err IdsUsedUp else Ok id

-- the id of a member that is new: the one after all that are there
abbrev pub next_id : List ℕ → ℕ
next_id ids = highest 0 ids + 1
