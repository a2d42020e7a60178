-- Ids that must be known, each at its place.
use Rattle.std.specs.Prelude.{◌≡◌, ℕ, suc, Bool, true, false, ◌&&◌, List, [], ◌∷◌, Ok, ⊤, refl}
use Rattle.std.specs.List.{list_all}
use Rattle.serde_json.specs.Data.{Data}
use Rattle.pol_readers.specs.Exactness.{under_ok}
use Rattle.pol_readers.specs.Forms.{holds}
use Rattle.pol_readers.specs.Grammar.{Exact}
use Rattle.pol_readers.specs.Reading.{Reading, ◌>>=◌, under}
use Rattle.pol_readers.specs.Shape.{Shape}
use Rattle.pol_readers.specs.declared.path.Step.{Step}
use Rattle.pol_readers.specs.declared.path.Step.TheVariants.{Key, Place}

-- the first id, from a place on, that isn't known is bad
abbrev pub known_from : (ℕ → Bool) → ℕ → List ℕ → Reading ⊤
known_from test place [] = Ok tt
known_from test place (id ∷ ids) = do
  _ ← under (Place place) (holds (test id))
  known_from test (suc place) ids

abbrev pub all_known : List ℕ → (ℕ → Bool) → List ℕ → Reading ⊤
all_known key test ids = under (Key key) (known_from test 0 ids)

step_sound : (step : Step) (known rest : Bool) (next : Reading ⊤) (nothing : ⊤) → (next ≡ Ok nothing → rest ≡ true)
    → (under step (holds known) >>= (λ _. next)) ≡ Ok nothing → (known && rest) ≡ true
unfolding holds
step_sound step true rest next nothing onward is = onward is
step_sound step false rest next nothing onward is = absurd (cc)

step_complete : (step : Step) (known rest : Bool) (next : Reading ⊤) (nothing : ⊤) → (rest ≡ true → next ≡ Ok nothing)
    → (known && rest) ≡ true → (under step (holds known) >>= (λ _. next)) ≡ Ok nothing
unfolding holds
step_complete step true rest next nothing onward so = onward so
step_complete step false rest next nothing onward so = absurd (cc)

from_sound : (test : ℕ → Bool) (place : ℕ) (ids : List ℕ) (nothing : ⊤) → known_from test place ids ≡ Ok nothing → list_all test ids ≡ true
from_sound test place [] nothing is = refl
from_sound test place (id ∷ ids) nothing is =
    step_sound (Place place) (test id) (list_all test ids) (known_from test (suc place) ids) nothing
    (from_sound test (suc place) ids nothing) is

from_complete : (test : ℕ → Bool) (place : ℕ) (ids : List ℕ) (nothing : ⊤) → list_all test ids ≡ true → known_from test place ids ≡ Ok nothing
from_complete test place [] nothing so = refl
from_complete test place (id ∷ ids) nothing so =
    step_complete (Place place) (test id) (list_all test ids) (known_from test (suc place) ids) nothing
    (from_complete test (suc place) ids nothing) so

-- all ids are known exactly where each passes the test
pub all_known_exact : (key : List ℕ) (test : ℕ → Bool) (ids : List ℕ) → Exact {S = Data} (λ d. all_known key test ids) (λ d nothing. list_all test ids ≡ true)
all_known_exact key test ids = record {
  sound = λ d nothing is. from_sound test 0 ids nothing (under_ok (Key key) (known_from test 0 ids) nothing is);
  complete = λ d nothing so. rw (from_complete test 0 ids nothing so) refl;
}

-- ids of the member of a key that must all pass a test
abbrev pub known_at : List ℕ → (ℕ → Bool) → List ℕ → Shape ⊤
known_at key test ids = record {
  read = λ d. all_known key test ids;
  stands = λ d nothing. list_all test ids ≡ true;
  exact = all_known_exact key test ids;
}
