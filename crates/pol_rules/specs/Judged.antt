-- What the functions that judge a command by its rules answer.
use Rattle.std.specs.Prelude.{◌≡◌, true, is_some, List, [], ◌∷◌, Option, Some, None, Result, Ok, Err}
use Rattle.std.specs.Bool.{⊤}
use Rattle.pol_content.specs.declared.change.Change.{Change}
use Rattle.pol_state.specs.Changes.{changes_between}
use Rattle.pol_rules.specs.Acting.{stamped, Acting}
use Rattle.pol_state.specs.Rows.{Rows}
use Rattle.pol_state.specs.Bounds.{first_refusal, EachPasses}
use Rattle.pol_commands.specs.declared.command.Command.{Command}
use Rattle.pol_commands.specs.declared.reply.Refusal.{Refusal}
use Rattle.pol_rules.specs.declared.rules.Asked.{Asked}
use Rattle.pol_rules.specs.declared.rules.Undone.{Undone}
use Rattle.pol_rules.specs.declared.rules.Undone.TheVariants.{Refused, OutOfMemory}
use Rattle.pol_rules.specs.declared.rules.Acted.{Acted}

-- where a rule that takes no memory passes, what it found is so; where it fails, its refusal is answered
abbrev pub Sees : {T : Type 0} → Option Refusal → (T → Type 0) → Result T Refusal → Type 0
Sees rule P (Ok found) = (rule ≡ None) × P found
Sees rule P (Err why) = rule ≡ Some why

-- where a rule passes, what it found is so; where it fails, its refusal is answered, or memory is wanting
abbrev pub Judges : {T : Type 0} → Option Refusal → (T → Type 0) → Result T Undone → Type 0
Judges rule P (Ok found) = (rule ≡ None) × P found
Judges rule P (Err (Refused why)) = rule ≡ Some why
Judges rule P (Err OutOfMemory) = ⊤

-- and so it is of a rule that takes memory for its refusal alone: where memory is wanting, the rule fails
abbrev pub Tells : {T : Type 0} → Option Refusal → (T → Type 0) → Result T Undone → Type 0
Tells rule P (Ok found) = (rule ≡ None) × P found
Tells rule P (Err (Refused why)) = rule ≡ Some why
Tells rule P (Err OutOfMemory) = is_some rule ≡ true

-- the first of the rules passes
abbrev pub FirstPasses : List (Option Refusal) → Type 0
FirstPasses [] = ⊤
FirstPasses (rule ∷ rules) = rule ≡ None

-- where each of the rules that an action begins with passes, what they found is so; where one fails, its refusal is the
-- first whatever rules follow; memory may be wanting only past the first rule, which takes none
abbrev pub Enters : {T : Type 0} → (List (Option Refusal) → List (Option Refusal)) → (T → Type 0) → Result T Undone → Type 0
Enters before P (Ok found) = EachPasses (before []) × P found
Enters before P (Err (Refused why)) = (rules : List (Option Refusal)) → first_refusal (before rules) ≡ Some why
Enters before P (Err OutOfMemory) = FirstPasses (before [])

-- where each rule passes, the action answers and changes as it says; else the first that fails is answered; memory may
-- be wanting only past the first rule, which takes none
abbrev pub Does : Rows → Command → Acting → Result Acted Undone → Type 0
Does s command action (Ok acted) = (first_refusal action.rules ≡ None) × (Some acted.answer ≡ action.answer) × (acted.changes ≡ changes_between s (stamped s command action.after))
Does s command action (Err (Refused why)) = first_refusal action.rules ≡ Some why
Does s command action (Err OutOfMemory) = FirstPasses action.rules

-- and so it is in the state in which the command is asked
abbrev pub Acts : Asked → (Rows → Command → Acting) → Result Acted Undone → Type 0
Acts asked action result =
    Does asked.state.now.rows asked.command.now (action asked.state.now.rows asked.command.now) result

-- the changes from the rows of the state to those after an action, at the command's time and with its charge
abbrev pub changes_to : Asked → (Rows → Rows) → List Change
changes_to asked after =
    changes_between asked.state.now.rows (stamped asked.state.now.rows asked.command.now (after asked.state.now.rows))
