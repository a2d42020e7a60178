-- Results that may be refused.
use Rattle.std.specs.Prelude.{◌≡◌, Result, Ok, Err, ⊤}
use Rattle.pol_requests.specs.declared.refused.RouteRefused.{RouteRefused}
use Rattle.pol_requests.specs.declared.refused.Unplanned.{Unplanned}
use Rattle.pol_requests.specs.declared.refused.Unplanned.TheVariants.{Refused, OutOfMemory}

-- what the code answers for an expected result: just that, or that memory was wanting
abbrev pub Meets : {A : Type 0} → Result A RouteRefused → Result A Unplanned → Type 0
Meets expected (Ok found) = expected ≡ Ok found
Meets expected (Err (Refused why)) = expected ≡ Err why
Meets expected (Err OutOfMemory) = ⊤

-- the refusal is the expected one, or memory was wanting for it
abbrev pub IsRefused : RouteRefused → Unplanned → Type 0
IsRefused expected (Refused why) = why ≡ expected
IsRefused expected OutOfMemory = ⊤

-- what is made of a result, unless it is refused
infixl 10 ◌>>=◌
abbrev pub ◌>>=◌ : {A B : Type 0} → Result A RouteRefused → (A → Result B RouteRefused) → Result B RouteRefused
Ok found >>= next = next found
Err why >>= next = Err why
