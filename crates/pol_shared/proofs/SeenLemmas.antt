-- Where the entries of a number stand in a history that goes on.
use Rattle.std.proofs.Common.{◌≡◌, ◌==◌, ◌<◌, ◌+◌, ℕ, Bool, true, false, List, [], ◌∷◌, ◌++◌, length, if◌then◌else◌, refl, sym, ap, subst, ◌∙◌, arith, append-nil, append_assoc, length-append}
use Rattle.std.specs.List.{AllByRecursion}
use Rattle.std.proofs.lemmas.Bool.{eq-eqb}
use Rattle.pol_shared.specs.Passes.{AreMade, GoesOnBy, HasSeenOf, IsFrontOf, SeenOf, places_from}

chosen : (test : Bool) (place : ℕ) (places more : List ℕ) → (if test then place ∷ places else places) ++ more ≡ (if test then place ∷ (places ++ more) else places ++ more)
chosen true place places more = refl
chosen false place places more = refl

module _ {Entry : Type 0} (number_of : Entry → ℕ) where
  -- the places in two histories, one behind the other
  places_from-append : (number place : ℕ) (entries more : List Entry) → places_from number_of number place (entries ++ more) ≡ places_from number_of number place entries ++ places_from number_of number (place + length entries) more
  places_from-append number place [] more = ap (λ place. places_from number_of number place more) (omega arith)
  places_from-append number place (entry ∷ entries) more =
      let later : (place + 1) + length entries ≡ place + length (entry ∷ entries) = omega arith in
      let tail : places_from number_of number (place + 1) (entries ++ more) ≡ places_from number_of number (place + 1) entries ++ places_from number_of number (place + length (entry ∷ entries)) more =
      places_from-append number (place + 1) entries more ∙ ap (λ later. places_from number_of number (place + 1) entries ++ places_from number_of number later more) later in
      ap (λ places. if number_of entry == number then place ∷ places else places) tail
      ∙ sym (chosen (number_of entry == number) place (places_from number_of number (place + 1) entries) (places_from number_of number (place + length (entry ∷ entries)) more))

  -- one entry of the number
  place-own : (number place : ℕ) (entry : Entry) → number_of entry ≡ number → places_from number_of number place (entry ∷ []) ≡ place ∷ []
  place-own number place entry own = ap (λ test. if test then place ∷ [] else []) (eq-eqb (number_of entry) number own)

  -- a history with one more entry of the number
  places-push : (number : ℕ) (history : List Entry) (entry : Entry) → number_of entry ≡ number → places_from number_of number 0 (history ++ entry ∷ []) ≡ places_from number_of number 0 history ++ length history ∷ []
  places-push number history entry own =
      places_from-append number 0 history (entry ∷ [])
      ∙ ap (λ places. places_from number_of number 0 history ++ places) (place-own number (0 + length history) entry own ∙ ap (λ place. place ∷ []) (omega arith))

  all-own : (number place : ℕ) (entries : List Entry) → AllByRecursion (λ entry. number_of entry ≡ number) entries → length (places_from number_of number place entries) ≡ length entries
  all-own number place [] own = refl
  all-own number place (entry ∷ entries) own =
      let more : length (place ∷ places_from number_of number (place + 1) entries) ≡ length (entry ∷ entries) = omega (arith, all-own number (place + 1) entries own.1) in
      ap (λ test. length (if test then place ∷ places_from number_of number (place + 1) entries else places_from number_of number (place + 1) entries)) (eq-eqb (number_of entry) number own.0) ∙ more

  -- where nobody else enters anything, each entry behind the front has a place of the pass
  pub alone-counted : (number : ℕ) (front history : List Entry) (places : List ℕ) → GoesOnBy number_of number front history → places_from number_of number 0 history ≡ places_from number_of number 0 front ++ places → length history ≡ length front + length places
  alone-counted number front history places alone own =
      let both : places_from number_of number 0 history ≡ places_from number_of number 0 front ++ places_from number_of number (0 + length front) alone.0 =
      ap (places_from number_of number 0) alone.1 ∙ places_from-append number 0 front alone.0 in
      omega (
        arith,
        ap length own,
        ap length both,
        length-append (places_from number_of number 0 front) places,
        length-append (places_from number_of number 0 front) (places_from number_of number (0 + length front) alone.0),
        all-own number (0 + length front) alone.0 alone.2,
        ap length alone.1,
        length-append front alone.0,
      )

  -- where one pass alone was made, each entry is its own
  each-first : (entries : List Entry) → AreMade number_of 1 entries → AllByRecursion (λ entry. number_of entry ≡ 0) entries
  each-first [] made = tt
  each-first (entry ∷ entries) made = (omega (arith, made.0), each-first entries made.1)

  each-later : (P : Entry → Type 0) (front more : List Entry) → AllByRecursion P (front ++ more) → AllByRecursion P more
  each-later P [] more each = each
  each-later P (entry ∷ front) more each = each-later P front more each.1

  pub alone-founding : (front history : List Entry) → IsFrontOf front history → AreMade number_of 1 history → GoesOnBy number_of 0 front history
  alone-founding front history longer made =
      (longer.0, longer.1, each-later (λ entry. number_of entry ≡ 0) front longer.0 (each-first (front ++ longer.0) (subst (AreMade number_of 1) longer.1 made)))

  -- one entry more, of a pass that was made
  pub made-push : (made : ℕ) (history : List Entry) (entry : Entry) → AreMade number_of made history → number_of entry < made → AreMade number_of made (history ++ entry ∷ [])
  made-push made [] entry each one = (one, tt)
  made-push made (first ∷ history) entry each one = (each.0, made-push made history entry each.1 one)

  module _ {Base : Type 0} where
    -- nothing more was seen
    pub seen-same : (seen : SeenOf Base Entry) → HasSeenOf number_of seen seen []
    seen-same seen = record {
      same = refl;
      front = ([], sym (append-nil seen.front));
      own = sym (append-nil (places_from number_of seen.number 0 seen.front));
      kept = omega arith;
    }

    -- one entry of its own more was seen
    pub seen-push : (seen : SeenOf Base Entry) (entry : Entry) → number_of entry ≡ seen.number → HasSeenOf number_of seen (record seen { front = seen.front ++ entry ∷ [] }) (length seen.front ∷ [])
    seen-push seen entry own = record {
      same = refl;
      front = (entry ∷ [], refl);
      own = places-push seen.number seen.front entry own;
      kept = omega arith;
    }

    -- more was seen, and then more again
    pub seen-trans : (a b c : SeenOf Base Entry) (places more : List ℕ) → HasSeenOf number_of a b places → HasSeenOf number_of b c more → HasSeenOf number_of a c (places ++ more)
    seen-trans a b c places more first second = record {
      same = second.same ∙ ap (λ (seen : SeenOf Base Entry). record seen { front = c.front; failed = c.failed }) first.same;
      front = (first.front.0 ++ second.front.0, second.front.1 ∙ ap (λ front. front ++ second.front.0) first.front.1 ∙ append_assoc a.front first.front.0 second.front.0);
      own =
          let number : b.number ≡ a.number = ap (λ (seen : SeenOf Base Entry). seen.number) first.same in
          ap (λ number. places_from number_of number 0 c.front) (sym number) ∙ second.own ∙ ap (λ number. places_from number_of number 0 b.front ++ more) number
          ∙ ap (λ own. own ++ more) first.own ∙ append_assoc (places_from number_of a.number 0 a.front) places more;
      kept = omega (arith, first.kept, second.kept);
    }
