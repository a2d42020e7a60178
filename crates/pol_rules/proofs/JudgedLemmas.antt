-- What a judging function answers where another stops it.
use Rattle.std.proofs.Common.{◌≡◌, List, [], Option, Some, Result, Ok, Err, ap, sym, subst, ◌∙◌}
use Rattle.std.specs.Result.{IsErrAnd}
use Rattle.pol_commands.specs.declared.reply.Refusal.{Refusal}
use Rattle.pol_commands.specs.declared.command.Command.{Command}
use Rattle.pol_state.specs.Bounds.{first_refusal}
use Rattle.pol_state.specs.Rows.{Rows}
use Rattle.pol_rules.specs.Acting.{Acting}
use Rattle.pol_rules.specs.Judged.{Does, Enters, FirstPasses, Judges, Sees}
use Rattle.pol_rules.specs.declared.rules.Acted.{Acted}
use Rattle.pol_rules.specs.declared.rules.Undone.{Undone}
use Rattle.pol_rules.specs.declared.rules.Undone.TheVariants as undone

stopped-so : {T U : Type 0} (rule first : Option Refusal) (P : T → Type 0) (Q : U → Type 0) (why : Undone) → ((refusal : Refusal) → rule ≡ Some refusal → first ≡ Some refusal) → Judges rule P (Err why) → Judges first Q (Err why)
stopped-so rule first P Q (undone.Refused refusal) tells judged = tells refusal judged
stopped-so rule first P Q undone.OutOfMemory tells judged = tt

-- where the refusal of a rule is the first that is told, so is want of memory
pub judged-stopped : {T U : Type 0} (rule first : Option Refusal) (P : T → Type 0) (Q : U → Type 0) (why : Undone) (result : Result U Undone) → IsErrAnd result (λ told. told ≡ why) → ((refusal : Refusal) → rule ≡ Some refusal → first ≡ Some refusal) → Judges rule P (Err why) → Judges first Q result
judged-stopped rule first P Q why (Ok found) told tells judged = absurd told
judged-stopped rule first P Q why (Err one) told tells judged =
    subst (λ stopped. Judges first Q (Err stopped)) (sym told) (stopped-so rule first P Q why tells judged)

-- the refusal of a rule that takes no memory is told as it is
pub seen-stopped : {T : Type 0} (P : T → Type 0) (rule : Option Refusal) (why : Refusal) (result : Result T Refusal) → IsErrAnd result (λ told. told ≡ why) → rule ≡ Some why → Sees rule P result
seen-stopped P rule why (Ok found) told fails = absurd told
seen-stopped P rule why (Err one) told fails = fails ∙ ap Some (sym told)

-- what stops the rules that an action begins with stops the action
pub entered-stopped : {T : Type 0} (P : T → Type 0) (before : List (Option Refusal) → List (Option Refusal)) (s : Rows) (command : Command) (action : Acting) (rules : List (Option Refusal)) (why : Undone) (result : Result Acted Undone) → action.rules ≡ before rules → (FirstPasses (before []) → FirstPasses (before rules)) → IsErrAnd result (λ told. told ≡ why) → Enters before P (Err why) → Does s command action result
entered-stopped P before s command action rules why (Ok acted) are passes told entered = absurd told
entered-stopped P before s command action rules why (Err one) are passes told entered =
    subst (λ stopped. Does s command action (Err stopped)) (sym told) (by why entered)
  where
    by : (why : Undone) → Enters before P (Err why) → Does s command action (Err why)
    by (undone.Refused refusal) entered = ap first_refusal are ∙ entered rules
    by undone.OutOfMemory entered = subst FirstPasses (sym are) (passes entered)
