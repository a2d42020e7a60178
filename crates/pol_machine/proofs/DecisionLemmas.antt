-- The first of the rules that fails.
use Rattle.std.proofs.Common.{◌≡◌, ℕ, [], ◌∷◌, Option, None, Some, Result, refl, ◌∙◌, ◌≤◌, ◌+◌, ◌^◌, List, sym, ap, subst, true, false, is_some, true≢false}
use Rattle.std.specs.Bool.{⊤}
use Rattle.std.specs.Option.{option_or}
use Rattle.pol_commands.specs.Reply.{is_run_full}
use Rattle.pol_content.specs.declared.change.Change.{Change}
use Rattle.pol_commands.specs.declared.command.Command.{Command}
use Rattle.pol_commands.specs.declared.reply.Answer.{Answer}
use Rattle.pol_commands.specs.declared.reply.Answer.TheVariants.{NamespaceThere}
use Rattle.pol_commands.specs.declared.reply.Refusal.{Refusal}
use Rattle.pol_commands.specs.declared.reply.Reply.TheVariants.{Answered, Refused}
use Rattle.pol_state.specs.Applied.{applied}
use Rattle.pol_state.specs.Changes.{changes_between}
use Rattle.pol_state.specs.Rows.{Rows}
use Rattle.pol_state.specs.Sound.{IsOrderly, IsSound}
use Rattle.pol_state.proofs.BoundsLemmas.{refusal-past, EachPasses-none}
use Rattle.pol_state.proofs.ChangesLemmas.{changes-timed}
use Rattle.pol_rules.specs.Acting.{rows_by, stamped}
use Rattle.pol_state.specs.Bounds.{first_refusal, over_limit}
use Rattle.pol_rules.specs.Rules.{run_full, time_of}
use Rattle.pol_rules.proofs.LeadsLemmas.{leads-first}
use Rattle.pol_rules.specs.Judged.{Sees}
use Rattle.pol_rules.proofs.FairLemmas.{limit-other}
use Rattle.pol_rules.proofs.RulesLemmas.{either-other, first-other, first-then, none-either, run_full-tells, tells_full}
use Rattle.pol_rules.proofs.SoundLemmas.{stamped-orderly, within-bounds, IsWithin}
use Rattle.pol_machine.specs.Machine.{reply_by, rules_within, acting, next_by, next_state, reply_of, rules_of, reply_with}
use Rattle.pol_machine.proofs.OwesLemmas.{owes}

-- a reply is the answer exactly where no rule fails
pub answered-none : (first : Option Refusal) (answer : Option Answer) → reply_by first answer ≡ reply_with answer → first ≡ None
answered-none None answer is = refl
answered-none (Some why) (Some answer) is = let contrary : Refused why ≡ Answered answer = is in cc
answered-none (Some why) None is = let contrary : Refused why ≡ Answered NamespaceThere = is in cc

-- an answer is no refusal of a full run
not-full : (answer : Option Answer) → is_run_full (reply_with answer) ≡ false
not-full None = refl
not-full (Some answer) = refl

-- the answer of a reply
pub answer-is : (left right : Answer) → Answered left ≡ Answered right → left ≡ right
answer-is left right is = cc

module _ (s : Rows) (command : Command) where
  abbrev action : Rows
  action = (acting s command command.action).after

  abbrev answer : Option Answer
  answer = (acting s command command.action).answer

  abbrev own : List (Option Refusal)
  own = (acting s command command.action).rules

  abbrev rules : List (Option Refusal)
  rules = rules_within (acting s command command.action)

  -- the bounds are judged last
  pub first-of : (first : Option Refusal) → run_full s command.charge ≡ None → first_refusal own ≡ first → first_refusal (rules_of s command) ≡ option_or first (over_limit action)
  first-of first open_ is =
      refusal-past (run_full s command.charge) rules (option_or first (over_limit action)) open_ (first-then own (over_limit action) ∙ ap (λ one. option_or one (over_limit action)) is)

  limits-stamped : (after : Rows) → over_limit (stamped s command after) ≡ over_limit after
  unfolding over_limit
  limits-stamped after = refl

  -- the code judges them on the changes of the action
  pub bounds-judged : (changes : List Change) (result : Result (Unit {0}) Refusal) → IsSound s → command.moment ≤ 2 ^ 62 → run_full s command.charge ≡ None → first_refusal own ≡ None → changes ≡ changes_between s (stamped s command action)
      → ((after : Rows) (charge : ℕ) → IsOrderly after → changes ≡ changes_between s after → applied changes after.time charge s ≡ after → Sees (over_limit after) (λ _. ⊤) result) → Sees (over_limit action) (λ _. ⊤) result
  bounds-judged changes result sound moment open_ none are judged =
      let owed = owes s command command.action in
      let orderly = owed.orderly sound (within-bounds s command sound moment open_) (EachPasses-none own none) in
      let leads = ap (λ made. applied made (time_of s command) command.charge s) are ∙ owed.rows.leads sound in
      subst (λ rule. Sees rule (λ _. ⊤) result) (limits-stamped action) (judged (stamped s command action) command.charge orderly are leads)

  -- where no rule fails
  pub reply-answered : first_refusal (rules_of s command) ≡ None → reply_of s command ≡ reply_with answer
  unfolding reply_of
  reply-answered none = ap (λ first. reply_by first answer) none

  next_given : (full : Option Refusal) → first_refusal (full ∷ rules) ≡ None → next_by full s (stamped s command (rows_by (first_refusal rules) s action)) ≡ stamped s command action
  next_given None none = ap (λ first. stamped s command (rows_by first s action)) none
  next_given (Some why) none = let contrary : Some why ≡ None = none in cc

  pub next-answered : first_refusal (rules_of s command) ≡ None → next_state s command ≡ stamped s command action
  unfolding next_state
  next-answered none = next_given (run_full s command.charge) none

  -- where a rule fails
  pub reply-refused : (why : Refusal) → first_refusal (rules_of s command) ≡ Some why → reply_of s command ≡ Refused why
  unfolding reply_of
  reply-refused why fails = ap (λ first. reply_by first answer) fails

  unchanged : (why : Refusal) (full : Option Refusal) → first_refusal (full ∷ rules) ≡ Some why → changes_between s (next_by full s (stamped s command (rows_by (first_refusal rules) s action))) ≡ []
  unchanged why (Some first) fails = changes-timed s s.time s.charged
  unchanged why None fails =
      ap (λ first. changes_between s (stamped s command (rows_by first s action))) fails ∙ changes-timed s (time_of s command) (s.charged + command.charge)

  pub changes-refused : (why : Refusal) → first_refusal (rules_of s command) ≡ Some why → changes_between s (next_state s command) ≡ []
  unfolding next_state
  changes-refused why fails = unchanged why (run_full s command.charge) fails

  -- where the run isn't full
  pub next-open : run_full s command.charge ≡ None → next_state s command ≡ stamped s command (rows_by (first_refusal rules) s action)
  unfolding next_state
  next-open open_ = ap (λ full. next_by full s (stamped s command (rows_by (first_refusal rules) s action))) open_

  -- the changes lead to the next state
  pub changes-lead : IsSound s → run_full s command.charge ≡ None → applied (changes_between s (next_state s command)) (time_of s command) command.charge s ≡ next_state s command
  changes-lead sound open_ =
      ap (λ next. applied (changes_between s next) (time_of s command) command.charge s) (next-open open_) ∙ leads-first s command (first_refusal rules) action ((owes s command command.action).rows.leads sound) ∙ sym (next-open open_)

  sound-after : (first : Option Refusal) → first_refusal rules ≡ first → IsSound s → IsWithin s command → IsSound (stamped s command (rows_by first s action))
  sound-after (Some why) fails sound within = record {
    orderly = stamped-orderly s command sound.orderly within;
    within = limits-stamped s ∙ sound.within;
  }
  sound-after None none sound within =
      let last = none-either (first_refusal own) (over_limit action) (sym (first-then own (over_limit action)) ∙ none) in
      record {
        orderly = (owes s command command.action).orderly sound within (EachPasses-none own last.0);
        within = limits-stamped action ∙ last.1;
      }

  -- the next state is sound
  pub next-sound : IsSound s → command.moment ≤ 2 ^ 62 → IsSound (next_state s command)
  unfolding next_state
  next-sound sound moment = by (run_full s command.charge) refl
    where
      by : (full : Option Refusal) → run_full s command.charge ≡ full → IsSound (next_by full s (stamped s command (rows_by (first_refusal rules) s action)))
      by (Some why) full = sound
      by None open_ =
          let within = within-bounds s command sound moment open_ in
          sound-after (first_refusal rules) refl sound within

  told_by : (first : Option Refusal) → is_run_full (reply_by first answer) ≡ tells_full first
  told_by None = not-full answer
  told_by (Some why) = refl

  -- a run that is full is told, and by its own rule alone
  pub full-told : is_run_full (reply_of s command) ≡ is_some (run_full s command.charge)
  unfolding reply_of
  full-told = told_by (first_refusal (rules_of s command)) ∙ by (run_full s command.charge) (run_full-tells s command.charge)
    where
      by : (full : Option Refusal) → tells_full full ≡ is_some full → tells_full (first_refusal (full ∷ rules)) ≡ is_some full
      by None tells =
          ap tells_full (first-then own (over_limit action)) ∙ either-other _ _ (first-other own (owes s command command.action).fair.others) (limit-other action)
      by (Some why) tells = tells

  -- a command that is told so leaves the state as it is
  pub full-unchanged : is_run_full (reply_of s command) ≡ true → next_state s command ≡ s
  unfolding next_state
  full-unchanged told = by (run_full s command.charge) (sym full-told ∙ told)
    where
      by : (full : Option Refusal) → is_some full ≡ true → next_by full s (stamped s command (rows_by (first_refusal rules) s action)) ≡ s
      by (Some why) some = refl
      by None some = absurd (true≢false (sym some))
