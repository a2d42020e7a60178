-- Readings that go on behind one another.
use Rattle.std.proofs.Common.{◌≡◌, Result, Ok, Err, sym, subst, ap}
use Rattle.pol_requests.specs.declared.refused.RouteRefused.{RouteRefused}
use Rattle.pol_requests.specs.declared.refused.Unplanned.{Unplanned}
use Rattle.pol_requests.specs.declared.refused.Unplanned.TheVariants.{Refused, OutOfMemory}
use Rattle.pol_requests.specs.Refused.{Meets, IsRefused, ◌>>=◌}

-- what is to be refused is
pub refused : (A : Type 0) (expected : RouteRefused) (why : Unplanned) → IsRefused expected why → Meets {A = A} (Err expected) (Err why)
refused A expected (Refused why) is = ap Err (sym is)
refused A expected OutOfMemory is = tt

-- a reading that was refused goes on to nothing
pub stopped : {A B : Type 0} (expected : Result A RouteRefused) (next : A → Result B RouteRefused) (why : Unplanned)
    → Meets expected (Err why) → Meets (expected >>= next) (Err why)
stopped expected next (Refused why) is = ap (λ e. e >>= next) is
stopped expected next OutOfMemory is = tt

-- one that was not goes on to what is made of it
pub followed : {A B : Type 0} (expected : Result A RouteRefused) (next : A → Result B RouteRefused) (found : A) (result : Result B Unplanned)
    → expected ≡ Ok found → Meets (next found) result → Meets (expected >>= next) result
followed expected next found result is gives = subst (λ e. Meets (e >>= next) result) (sym is) gives

pub ruleset chained = (stopped, followed)
