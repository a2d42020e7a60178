-- What an item in place of another leaves of a list of blocks.
use Rattle.std.proofs.Common.{◌≡◌, ℕ, zero, suc, ◌+◌, ◌<◌, List, [], ◌∷◌, ◌++◌, length, take, drop, set, refl, ap, sym, ◌∙◌, arith, add-one}
use Rattle.std.specs.Prelude.{All}
use Rattle.std.proofs.lemmas.List.{append-nil, get_or-set_same, length-set, set_split, take-set}
use Rattle.std.proofs.lemmas.List.Elements.{All-cons, All-get_or, All-nil}
use Rattle.pol_blocks.specs.Blocks.{IsBlock, IsPlace, IsReplaced, block_at, flat, number_of}
use Rattle.pol_blocks.specs.declared.place.Place.{Place}
use Rattle.pol_blocks.proofs.Flats.{blocks-replaced, flat-at, flat-replaced}

set-right : {T : Type 0} (front rest : List T) (n : ℕ) (item : T) → set (front ++ rest) (length front + n) item ≡ front ++ set rest n item
set-right [] rest n item = ap (λ k. set rest k item) (omega arith)
set-right (x ∷ front) rest n item = ap (λ k. set (x ∷ (front ++ rest)) k item) (let e : suc (length front) + n ≡ suc (length front + n) = omega arith in e) ∙ ap (λ some. x ∷ some) (set-right front rest n item)

set-left : {T : Type 0} (block rest : List T) (n : ℕ) (item : T) → n < length block → set (block ++ rest) n item ≡ set block n item ++ rest
set-left [] rest n item inside = absurd (omega arith)
set-left (x ∷ block) rest zero item inside = refl
set-left (x ∷ block) rest (suc n) item inside = ap (λ some. x ∷ some) (set-left block rest n item (omega arith))

module _ {T : Type 0} (old new : List (List T)) (place : Place) (item : T) (inside : place.block < length old) (within : place.offset < length (block_at old place.block)) (is : new ≡ set old place.block (set (block_at old place.block) place.offset item)) (all : All IsBlock old) where
  abbrev one : List T
  one = set (block_at old place.block) place.offset item

  many : length one ≡ length (block_at old place.block)
  many = length-set (block_at old place.block) place.offset item

  own : IsBlock (block_at old place.block)
  own = All-get_or IsBlock old place.block [] inside all

  replaced : IsReplaced old new place.block one
  replaced =
      record {
        parts = one ∷ [];
        is = is ∙ set_split old place.block one inside ∙ ap (λ n. take place.block old ++ one ∷ drop n old) (sym (add-one place.block));
        have = append-nil one;
        blocks = All-cons IsBlock one [] (record { some = omega (arith, many, own.some); few = omega (arith, many, own.few) }) (All-nil IsBlock);
      }

  pub blocks-exchanged : All IsBlock new
  blocks-exchanged = blocks-replaced old new place.block one replaced all

  pub flat-exchanged : flat new ≡ set (flat old) (number_of old place) item
  flat-exchanged =
      flat-replaced old new place.block one replaced
      ∙ sym (ap (λ all. set all (number_of old place) item) (flat-at old place.block)
      ∙ set-right (flat (take place.block old)) (block_at old place.block ++ flat (drop (suc place.block) old)) place.offset item
      ∙ ap (λ some. flat (take place.block old) ++ some) (set-left (block_at old place.block) (flat (drop (suc place.block) old)) place.offset item within))

  pub number-exchanged : number_of new place ≡ number_of old place
  number-exchanged = ap (λ some. length (flat some) + place.offset) (ap (take place.block) is ∙ take-set old place.block one)

  pub place-exchanged : IsPlace new place
  place-exchanged =
      let same : length new ≡ length old = ap length is ∙ length-set old place.block one in
      let here : block_at new place.block ≡ one = ap (λ blocks. block_at blocks place.block) is ∙ get_or-set_same old place.block one [] inside in
      record {
        within = omega (arith, same, inside);
        inside = λ there. omega (arith, many, within, ap length here);
        end = λ past. absurd (omega (arith, past, same, inside));
      }
