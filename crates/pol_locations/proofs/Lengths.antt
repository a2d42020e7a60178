-- The lengths of the texts of locations.
use Rattle.std.proofs.Common.{◌≡◌, ◌≤◌, ◌<◌, ℕ, ◌+◌, ◌-◌, List, [], ◌∷◌, length, drop, get_or, Bor, subst, arith, length-append}
use Rattle.std.specs.Prelude.{codes}
use Rattle.std.specs.List.{join_with_byte}
use Rattle.pol_locations.specs.Location.{location_text, texts}
use Rattle.pol_locations.proofs.Segments.{next_at}

-- the bytes of the segments and of one `/` for each
abbrev pub weight : List (List ℕ) → ℕ
weight [] = 0
weight (segment ∷ segments) = length segment + 1 + weight segments

-- so many bytes were measured of the segments before those that are left, with 6 bytes of the scheme
pub record HaveMeasured (segments rest : List (List ℕ)) (measured : ℕ) : Type 0 where
  pub left : measured + weight rest ≡ 6 + weight segments
  pub within : measured ≤ 1024

joined : (segment : List ℕ) (segments : List (List ℕ)) → length (join_with_byte 0x2F (segment ∷ segments)) + 1 ≡ weight (segment ∷ segments)
joined segment [] = omega arith
joined segment (next ∷ segments) =
    omega (arith, joined next segments, length-append segment (0x2F ∷ join_with_byte 0x2F (next ∷ segments)))

-- the length of the text of some segments
pub length-location_text : (segment : List ℕ) (segments : List (List ℕ)) → length (location_text (segment ∷ segments)) ≡ 6 + weight (segment ∷ segments)
length-location_text segment segments =
    omega (arith, joined segment segments, length-append (codes "lake://") (join_with_byte 0x2F (segment ∷ segments)))

-- one more segment passes the bound
pub too_long : (segments rest : List (List ℕ)) (segment : List ℕ) (measured : ℕ) → HaveMeasured segments (segment ∷ rest) measured → 1024 - measured ≤ length segment → 1024 < length (location_text segments)
too_long [] rest segment measured before long = let left = before.left in let within = before.within in absurd (omega arith)
too_long (first ∷ segments) rest segment measured before long =
    let left = before.left in let within = before.within in omega (arith, length-location_text first segments)

-- all segments stay within it
pub not_too_long : (segments : List (List ℕ)) (measured : ℕ) → HaveMeasured segments [] measured → length (location_text segments) ≤ 1024
not_too_long [] measured all = omega arith
not_too_long (first ∷ segments) measured all =
    let left = all.left in let within = all.within in omega (arith, length-location_text first segments)

pub too_long_at : (segments : List (Bor (List ℕ))) (place : ℕ) (other : Bor (List ℕ)) (measured : ℕ) → HaveMeasured (texts segments) (texts (drop place segments)) measured →
    place < length segments → 1024 - measured ≤ length (get_or segments place other).now → 1024 < length (location_text (texts segments))
too_long_at segments place other measured before inside long =
    too_long (texts segments) (texts (drop (place + 1) segments)) (get_or segments place other).now measured
    (subst (λ rest. HaveMeasured (texts segments) rest measured) (next_at segments place other inside) before) long
