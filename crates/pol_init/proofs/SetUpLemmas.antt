-- Commands that are done one after the other.
use Rattle.std.proofs.Common.{◌≡◌, ℕ, ◌+◌, ◌<◌, ◌≤◌, List, [], ◌∷◌, ◌++◌, length, get_or, take, drop, refl, sym, ap, subst, ◌∙◌, arith}
use Rattle.std.proofs.lemmas.List.{drop_more, length-take-le, take-append-drop, take_all, take_more}
use Rattle.std.proofs.lemmas.List.Sums.{fold_push}
use Rattle.pol_commands.specs.declared.command.Command.{Command}
use Rattle.pol_commands.specs.declared.reply.Refusal.{Refusal}
use Rattle.pol_commands.specs.declared.reply.Reply.TheVariants.{Refused}
use Rattle.pol_machine.specs.Machine.{next_state, reply_of}
use Rattle.pol_rules.specs.declared.rules.Undone.{Undone}
use Rattle.pol_rules.specs.declared.rules.Undone.TheVariants as undone
use Rattle.pol_state.specs.Rows.{Rows}
use Rattle.pol_state.specs.Sound.{IsSound}
use Rattle.pol_init.specs.SetUp.{AllPass, IsPassed, IsRefusedAt, IsSetupRefused, IsUndone, refused_at, state_after}
use Rattle.pol_init.specs.declared.setup.SetupRefused.{SetupRefused}

after-push : (s : Rows) (commands : List Command) (command : Command) → state_after s (commands ++ command ∷ []) ≡ next_state (state_after s commands) command
unfolding state_after
after-push s commands command = fold_push next_state s commands command

pass-push : (s : Rows) (commands : List Command) (command : Command) → AllPass s commands → IsPassed (state_after s commands) command → AllPass s (commands ++ command ∷ [])
unfolding AllPass state_after
pass-push s [] command all here = (here, tt)
pass-push s (first ∷ commands) command all here =
    (all.0, pass-push (next_state s first) commands command all.1 here)

-- the first so many of the commands were done, and passed
pub record IsSetUpTo (start now : Rows) (commands : List Command) (index : ℕ) : Type 0 where
  pub rows : now ≡ state_after start (take index commands)
  pub sound : IsSound now
  pub passed : AllPass start (take index commands)

-- none was done
pub none-yet : (start : Rows) (commands : List Command) → IsSound start → IsSetUpTo start start commands 0
unfolding AllPass state_after
none-yet start commands sound = record { rows = refl; sound = sound; passed = tt }

module _ (start now : Rows) (commands : List Command) (index : ℕ) (to : IsSetUpTo start now commands index) where
  module _ (command d : Command) (inside : index < length commands) (is : command ≡ get_or commands index d) where
    grown : take (index + 1) commands ≡ take index commands ++ command ∷ []
    grown = take_more commands index d inside ∙ ap (λ one. take index commands ++ one ∷ []) (sym is)

    -- the next one was done too
    pub one-more : (next : Rows) → next ≡ next_state now command → IsSound next → IsPassed now command → IsSetUpTo start next commands (index + 1)
    one-more next next_is sound passed = record {
      rows = next_is ∙ ap (λ s. next_state s command) to.rows ∙ sym (after-push start (take index commands) command) ∙ ap (state_after start) (sym grown);
      sound = sound;
      passed = subst (AllPass start) (sym grown) (pass-push start (take index commands) command to.passed (subst (λ s. IsPassed s command) to.rows passed));
    }

    -- or not
    refused-here : (why : Refusal) → reply_of now command ≡ Refused why → IsRefusedAt start commands index why
    refused-here why told = record {
      before = take index commands;
      command = command;
      later = drop (index + 1) commands;
      all = sym (take-append-drop index commands) ∙ ap (λ rest. take index commands ++ rest) (drop_more commands index d inside ∙ ap (λ one. one ∷ drop (index + 1) commands) (sym is));
      place = sym (length-take-le index commands (omega arith));
      passed = to.passed;
      refused = subst (λ s. reply_of s command ≡ Refused why) to.rows told;
    }

    pub refused-by : (undone : Undone) (refused : SetupRefused) → IsUndone now command undone → refused ≡ refused_at index undone → IsSetupRefused start commands refused
    refused-by (undone.Refused why) refused told is =
        subst (IsSetupRefused start commands) (sym is) (refused-here why told)
    refused-by undone.OutOfMemory refused told is = subst (IsSetupRefused start commands) (sym is) tt

  -- all were done
  module _ (whole : length commands ≤ index) where
    pub all-rows : now ≡ state_after start commands
    all-rows = to.rows ∙ ap (state_after start) (take_all index commands whole)

    pub all-pass : AllPass start commands
    all-pass = subst (AllPass start) (take_all index commands whole) to.passed
