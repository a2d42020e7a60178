-- What is left out by the rules on what is kept.
use Rattle.std.proofs.Common.{◌≡◌, ℕ, false, List, Bool, true, ◌&&◌, None, sym, ◌∙◌, true≢false}
use Rattle.std.specs.Str.{bytes_eq}
use Rattle.pol_rules.specs.AccessRules.{reserved}
use Rattle.pol_rules.proofs.RulesLemmas.{refused-not}
use Rattle.pol_rules.proofs.FoundLemmas.{text-same}

pub both-not : (a b : Bool) → (a && b) ≡ false → a ≡ true → b ≡ true → ⊥
both-not true true is one two = true≢false is
both-not true false is one two = true≢false (sym two)
both-not false b is one two = true≢false (sym one)

-- what the rules on what is kept leave out
pub not-kept : (kept name other : List ℕ) → reserved kept name ≡ None → name ≡ other → other ≡ kept → ⊥
unfolding reserved
not-kept kept name other passes is kept_is =
    true≢false (sym (text-same name kept (is ∙ kept_is)) ∙ refused-not (bytes_eq name kept) _ passes)
