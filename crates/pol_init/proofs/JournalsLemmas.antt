-- What follows the header of a journal.
use Rattle.std.proofs.Common.{◌≡◌, ℕ, List, [], ◌∷◌, ◌++◌, refl, sym, ap, append-nil}
use Rattle.pol_journal.specs.Format.{area_of, framed, record_of, records_of}

-- without records
pub area_none : 0 ∷ [] ≡ area_of []
unfolding records_of
area_none = refl

-- and with one
pub area-one : (body : List ℕ) → (1 ∷ []) ++ framed body ++ 0 ∷ [] ≡ area_of (body ∷ [])
unfolding records_of
area-one body = ap (λ (l : List ℕ). l ++ 0 ∷ []) (sym (append-nil (record_of body)))
