-- What a permit gives leave for.
use Rattle.std.specs.Prelude.{ℕ, List}
use Rattle.pol_tokens.specs.declared.token.Act.{Act}

-- the place of the access that was allowed, and the path and the act that it asked for
pub record Permitted : Type 0 where
  pub place : ℕ
  pub path : List (List ℕ)
  pub act : Act
