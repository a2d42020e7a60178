-- Turns at their spots in the history of one store, and what they entered there.
use Rattle.std.proofs.Common.{◌≡◌, ◌<◌, ◌≤◌, ◌+◌, ℕ, List, [], ◌∷◌, ◌++◌, map, length, get_or, take, Some, refl, sym, ap, subst, ◌∙◌, arith, append-nil, append_assoc, length-append}
use Rattle.std.specs.Prelude.{⊤, slice_get}
use Rattle.std.specs.List.{flat_map, AllByRecursion}
use Rattle.std.proofs.lemmas.List.{take_all, take_at, take_more}
use Rattle.std.proofs.lemmas.Option.{slice_get_within, slice_get-get_or}
use Rattle.pol_server.specs.Passes.{GoesOnBy, HasSeenOf, SeenOf}
use Rattle.pol_server.proofs.SeenLemmas.{alone-counted}
use Rattle.pol_server.specs.Turn.{Case, IsFrom, IsOrdered, Spot, Turn, behind, entry_at, low_after, nowhere, place_by, place_of}
use Rattle.pol_server.specs.declared.served.Place.{Place}

-- what was entered at a spot of a history
abbrev pub EntersAt : {X : Type 0} → List X → Spot → List X → Type 0
EntersAt history nowhere entries = entries ≡ []
EntersAt history (entry_at place) entries = (entry : _) × (entries ≡ entry ∷ []) × (slice_get history place ≡ Some entry)
EntersAt history (behind count) entries = entries ≡ []

-- the spot is at the end of the history before it
abbrev pub IsAt : ℕ → Spot → Type 0
IsAt low nowhere = ⊤
IsAt low (entry_at place) = place ≡ low
IsAt low (behind count) = count ≡ low

-- the place of an entry
abbrev pub spot_places : Spot → List ℕ
spot_places nowhere = []
spot_places (entry_at place) = place ∷ []
spot_places (behind count) = []

module _ {X : Type 0} (history : List X) where
  -- a list up to a place and the item there
  take-one : (place : ℕ) (entry : X) → slice_get history place ≡ Some entry → take (place + 1) history ≡ take place history ++ entry ∷ []
  take-one place entry there =
      let within : place < length history = slice_get_within history place entry there in
      let found : Some (get_or history place entry) ≡ Some entry = sym (slice_get-get_or history place entry within) ∙ there in
      let is : get_or history place entry ≡ entry = cc found in
      take_more history place entry within ∙ ap (λ last. take place history ++ last ∷ []) is

  -- as many entries as places
  as-many : (spot : Spot) (entries : List X) → EntersAt history spot entries → length entries ≡ length (spot_places spot)
  as-many nowhere entries enters = ap length enters
  as-many (entry_at place) entries enters = ap length enters.1
  as-many (behind count) entries enters = ap length enters

  -- what was entered stands below the later numbers
  entered-below : (low : ℕ) (spot : Spot) (entries : List X) → EntersAt history spot entries → IsFrom low spot → low + length entries ≤ low_after low spot
  entered-below low nowhere entries enters from = omega (arith, ap length enters)
  entered-below low (entry_at place) entries enters from = omega (arith, ap length enters.1, from)
  entered-below low (behind count) entries enters from = omega (arith, ap length enters, from)

  at-end : (low : ℕ) (spot : Spot) (entries : List X) → EntersAt history spot entries → IsFrom low spot → low_after low spot ≤ low + length entries → IsAt low spot
  at-end low nowhere entries enters from within = tt
  at-end low (entry_at place) entries enters from within = omega (arith, ap length enters.1, from, within)
  at-end low (behind count) entries enters from within = omega (arith, ap length enters, from, within)

  -- the history up to a spot, and then what was entered there
  taken-none : (low : ℕ) (entries : List X) → entries ≡ [] → take low history ++ entries ≡ take (low + length entries) history
  taken-none low entries none =
      ap (λ entries. take low history ++ entries) none ∙ append-nil (take low history) ∙ ap (λ count. take count history) (omega (arith, ap length none))

  taken-more : (low : ℕ) (spot : Spot) (entries : List X) → EntersAt history spot entries → IsAt low spot → take low history ++ entries ≡ take (low + length entries) history
  taken-more low nowhere entries enters at = taken-none low entries enters
  taken-more low (entry_at place) entries enters at =
      ap (λ entries. take low history ++ entries) enters.1
      ∙ sym (take-one low enters.0 (ap (slice_get history) (sym at) ∙ enters.2))
      ∙ ap (λ count. take count history) (omega (arith, ap length enters.1))
  taken-more low (behind count) entries enters at = taken-none low entries enters

module _ {X : Type 0} (spot : Case → Spot) (entries-of : Turn → List X) (history : List X) where
  -- the turn's entries stand at its spot
  abbrev pub Enters : Turn → Type 0
  Enters turn = EntersAt history (spot turn.case) (entries-of turn)

  all-as-many : (turns : List Turn) → AllByRecursion Enters turns → length (flat_map entries-of turns) ≡ length (flat_map (λ turn. spot_places (spot turn.case)) turns)
  all-as-many [] enters = refl
  all-as-many (turn ∷ turns) enters =
      omega (
        arith,
        as-many history (spot turn.case) (entries-of turn) enters.0,
        all-as-many turns enters.1,
        length-append (entries-of turn) (flat_map entries-of turns),
        length-append (spot_places (spot turn.case)) (flat_map (λ turn. spot_places (spot turn.case)) turns),
      )

  ordered-room : (low : ℕ) (turns : List Turn) (high : ℕ) → AllByRecursion Enters turns → IsOrdered spot low turns high → low + length (flat_map entries-of turns) ≤ high
  ordered-room low [] high enters ordered = omega (arith, ordered)
  ordered-room low (turn ∷ turns) high enters ordered =
      omega (
        arith,
        entered-below history low (spot turn.case) (entries-of turn) enters.0 ordered.0,
        ordered-room (low_after low (spot turn.case)) turns high enters.1 ordered.1,
        length-append (entries-of turn) (flat_map entries-of turns),
      )

  -- where the history has no other entries, it is what stood before and what the turns entered
  history-of : (low : ℕ) (turns : List Turn) → AllByRecursion Enters turns → IsOrdered spot low turns (length history) → length history ≡ low + length (flat_map entries-of turns)
      → take low history ++ flat_map entries-of turns ≡ history
  history-of low [] enters ordered counted = append-nil (take low history) ∙ take_all low history (omega (arith, counted))
  history-of low (turn ∷ turns) enters ordered counted =
      let below = entered-below history low (spot turn.case) (entries-of turn) enters.0 ordered.0 in
      let room = ordered-room (low_after low (spot turn.case)) turns (length history) enters.1 ordered.1 in
      let both = length-append (entries-of turn) (flat_map entries-of turns) in
      let after : low_after low (spot turn.case) ≡ low + length (entries-of turn) = omega (arith, below, room, counted, both) in
      let within : low_after low (spot turn.case) ≤ low + length (entries-of turn) = omega (arith, after) in
      let at = at-end history low (spot turn.case) (entries-of turn) enters.0 ordered.0 within in
      let later = history-of (low + length (entries-of turn)) turns enters.1 (subst (λ low. IsOrdered spot low turns (length history)) after ordered.1) (omega (arith, counted, both)) in
      sym (append_assoc (take low history) (entries-of turn) (flat_map entries-of turns))
      ∙ ap (λ front. front ++ flat_map entries-of turns) (taken-more history low (spot turn.case) (entries-of turn) enters.0 at) ∙ later

  -- turns that follow this past, and that alone entered what stands behind it
  pub record Follows (past : List X) (turns : List Turn) : Type 0 where
    pub history_is : history ≡ past ++ flat_map entries-of turns
    pub enters : AllByRecursion Enters turns
    pub ordered : IsOrdered spot (length past) turns (length history)

  module _ (past : List X) (turn : Turn) (turns : List Turn) (follows : Follows past (turn ∷ turns)) where
    after-first : low_after (length past) (spot turn.case) ≡ length past + length (entries-of turn)
    after-first =
        let below = entered-below history (length past) (spot turn.case) (entries-of turn) follows.enters.0 follows.ordered.0 in
        let room = ordered-room (low_after (length past) (spot turn.case)) turns (length history) follows.enters.1 follows.ordered.1 in
        omega (arith, below, room, ap length follows.history_is, length-append past (entries-of turn ++ flat_map entries-of turns), length-append (entries-of turn) (flat_map entries-of turns))

    pub first-at : IsAt (length past) (spot turn.case)
    first-at =
        let after = after-first in
        let within : low_after (length past) (spot turn.case) ≤ length past + length (entries-of turn) = omega (arith, after) in
        at-end history (length past) (spot turn.case) (entries-of turn) follows.enters.0 follows.ordered.0 within

    pub before-first : take (length past) history ≡ past
    before-first = ap (take (length past)) follows.history_is ∙ take_at past (flat_map entries-of (turn ∷ turns)) (length past) refl

    pub follows-later : Follows (past ++ entries-of turn) turns
    follows-later =
        let after : low_after (length past) (spot turn.case) ≡ length (past ++ entries-of turn) = after-first ∙ sym (length-append past (entries-of turn)) in
        record {
          history_is = follows.history_is ∙ sym (append_assoc past (entries-of turn) (flat_map entries-of turns));
          enters = follows.enters.1;
          ordered = subst (λ low. IsOrdered spot low turns (length history)) after follows.ordered.1;
        }

-- the places of turns are those of their spots
module _ (spot : Case → Spot) (place_in : Place → List ℕ) (alike : (case : Case) → place_in (place_by case) ≡ spot_places (spot case)) where
  places-alike : (turns : List Turn) → flat_map place_in (map place_of turns) ≡ flat_map (λ turn. spot_places (spot turn.case)) turns
  places-alike [] = refl
  places-alike (turn ∷ turns) =
      let first = alike turn.case in
      let later = places-alike turns in
      λ i. first i ++ later i

  -- where nobody else entered anything, the history is what the pass had seen and what the turns entered
  pub follows-alone : {Base X : Type 0} (number_of : X → ℕ) (entries-of : Turn → List X) (old new : SeenOf Base X) (turns : List Turn) → HasSeenOf number_of old new (flat_map place_in (map place_of turns))
      → GoesOnBy number_of old.number old.front new.front → AllByRecursion (Enters spot entries-of new.front) turns → IsOrdered spot (length old.front) turns (length new.front) → Follows spot entries-of new.front old.front turns
  follows-alone number_of entries-of old new turns seen alone enters ordered =
      let places = flat_map place_in (map place_of turns) in
      let counted : length new.front ≡ length old.front + length places = alone-counted number_of old.number old.front new.front places alone seen.own in
      let many = all-as-many spot entries-of new.front turns enters in
      let front : take (length old.front) new.front ≡ old.front = ap (take (length old.front)) seen.front.1 ∙ take_at old.front seen.front.0 (length old.front) refl in
      record {
        history_is = sym (history-of spot entries-of new.front (length old.front) turns enters ordered (omega (arith, counted, many, ap length (places-alike turns)))) ∙ ap (λ past. past ++ flat_map entries-of turns) front;
        enters = enters;
        ordered = ordered;
      }
