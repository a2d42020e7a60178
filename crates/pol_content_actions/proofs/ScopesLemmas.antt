-- Roles by the scopes that name them.
use Rattle.std.proofs.Common.{◌≡◌, ◌≢◌, ℕ, true, false, not, cond, List, [], ◌∷◌, None, Some, refl, ap, inl, inr}
use Rattle.std.specs.List.{find, list_all}
use Rattle.std.specs.Str.{bytes_eq}
use Rattle.pol_types.specs.Exact.{bytes_tell}
use Rattle.pol_commands.specs.declared.reply.Refusal.TheVariants.{InvalidScope}
use Rattle.pol_state.specs.Rows.{Rows}
use Rattle.pol_rules.specs.Rules.{invalid_scope, is_scope, role_scope}

module _ {R : Type 0} (name : R → List ℕ) where
  -- a text that is no role's scope names no role
  pub find-no_scope : (scope : List ℕ) (rows : List R) → ((rest : List ℕ) → scope ≢ role_scope rest) → find (λ row. bytes_eq scope (role_scope (name row))) rows ≡ None
  find-no_scope scope [] apart = refl
  find-no_scope scope (row ∷ rows) apart = elim (bytes_tell scope (role_scope (name row))) [
    | inl other ↦ rw other (find-no_scope scope rows apart)
    | inr is ↦ absurd (apart (name row) is)
  ]

  -- the scope of a name names the role of the name
  pub find-scope : (scope sought : List ℕ) (rows : List R) → scope ≡ role_scope sought → find (λ row. bytes_eq scope (role_scope (name row))) rows ≡ find (λ row. bytes_eq sought (name row)) rows
  find-scope scope sought rows is = ap (λ text. find (λ row. bytes_eq text (role_scope (name row))) rows) is

module _ (s : Rows) (principal : ℕ) (scopes : List (List ℕ)) where
  -- scopes are refused where one of them is no scope of the principal, and nowhere else
  pub scopes-refused : list_all (is_scope s.access principal) scopes ≡ false → invalid_scope s principal scopes ≡ Some InvalidScope
  unfolding invalid_scope
  scopes-refused refused = ap (λ all. cond (not all) (Some InvalidScope) None) refused

  pub scopes-passed : list_all (is_scope s.access principal) scopes ≡ true → invalid_scope s principal scopes ≡ None
  unfolding invalid_scope
  scopes-passed passed = ap (λ all. cond (not all) (Some InvalidScope) None) passed
