-- What a caller may do, as the search tells it, and the first need that is not met.
use Rattle.std.proofs.Common.{◌≡◌, ◌↔◌, ℕ, zero, suc, ◌+◌, ◌<◌, ◌≤◌, Bool, true, false, not, cond, List, [], ◌∷◌, drop, get_or, length, None, Some, IsTrue, refl, sym, ap, ◌∙◌, arith, true≢false}
use Rattle.std.specs.List.{find}
use Rattle.std.proofs.lemmas.List.{at_drop_more}
use Rattle.pol_access.specs.Access.{AccessRows}
use Rattle.pol_access.specs.May.{May}
use Rattle.pol_access.specs.Search.{may}
use Rattle.pol_access.specs.declared.privilege.Privilege.{Privilege}
use Rattle.pol_access.specs.declared.securable.Securable.{Securable}
use Rattle.pol_access.proofs.MayLemmas.{may-tells, may-told}
use Rattle.pol_names.specs.declared.scope.Scope.{Scope}
use Rattle.pol_commands.specs.declared.command.Caller.{Caller}
use Rattle.pol_commands.specs.declared.command.Command.{Command}
use Rattle.pol_state.specs.Rows.{Rows}
use Rattle.pol_rules.specs.Needs.{caller_may, first_unmet}
use Rattle.pol_rules.specs.Rules.{time_of}
use Rattle.pol_rules.specs.declared.needs.Need.{Need}

pub may_is : (access : AccessRows) (principal : ℕ) (session : Scope) (wanted : Privilege) (chain : List Securable) (told : Bool) → (IsTrue told ↔ May access principal session wanted chain) → told ≡ may access principal session wanted chain
may_is access principal session wanted chain told tells = by told (may access principal session wanted chain) refl tells
  where
    by : (b m : Bool) → may access principal session wanted chain ≡ m → (IsTrue b ↔ May access principal session wanted chain) → b ≡ m
    by true true is tells = refl
    by false false is tells = refl
    by true false is tells = absurd (true≢false (sym (may-told access principal session wanted chain (tells.0 refl)) ∙ is))
    by false true is tells = absurd (true≢false (sym (tells.1 (may-tells access principal session wanted chain is))))

drop_end : {X : Type 0} (xs : List X) (i : ℕ) → length xs ≤ i → drop i xs ≡ []
drop_end [] zero few = refl
drop_end [] (suc i) few = refl
drop_end (x ∷ xs) zero few = absurd (omega (arith, few))
drop_end (x ∷ xs) (suc i) few = drop_end xs i (omega (arith, few))

-- needs that are judged one after the other
module _ (s : Rows) (time : ℕ) (caller : Caller) where
  abbrev pub is_unmet : Need → Bool
  is_unmet need = not (caller_may s time caller need)

  pub past_met : (needs : List Need) (i : ℕ) (d : Need) → i < length needs → caller_may s time caller (get_or needs i d) ≡ true → find is_unmet (drop (i + 1) needs) ≡ find is_unmet (drop i needs)
  past_met needs i d inside met =
      sym (at_drop_more (find is_unmet) needs i d inside ∙ ap (λ b. cond (not b) (Some (get_or needs i d)) (find is_unmet (drop (i + 1) needs))) met)

  pub at_unmet : (needs : List Need) (i : ℕ) (d : Need) → i < length needs → caller_may s time caller (get_or needs i d) ≡ false → Some (get_or needs i d) ≡ find is_unmet (drop i needs)
  at_unmet needs i d inside unmet =
      sym (at_drop_more (find is_unmet) needs i d inside ∙ ap (λ b. cond (not b) (Some (get_or needs i d)) (find is_unmet (drop (i + 1) needs))) unmet)

  pub past_all : (needs : List Need) (i : ℕ) → length needs ≤ i → None ≡ find is_unmet (drop i needs)
  past_all needs i few = sym (ap (find is_unmet) (drop_end needs i few))

pub first_is : (s : Rows) (command : Command) (needs : List Need) → find (is_unmet s (time_of s command) command.caller) needs ≡ first_unmet s command needs
unfolding first_unmet
first_is s command needs = refl
