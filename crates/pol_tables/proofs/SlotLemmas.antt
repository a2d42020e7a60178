-- The places of a table: which has the row of an id, and what rows there are once one is put, taken or swept out.
use Rattle.std.proofs.Common.{◌≡◌, ℕ, zero, suc, ◌+◌, ◌<◌, ◌≤◌, Bool, true, false, ◌||◌, List, [], ◌∷◌, ◌++◌, length, filter, Option, None, Some, HoldsAt, get_or, is_some, slice_get, slice_set, nat_eq, MatchOption, refl, sym, ap, subst, ◌∙◌, arith, true≢false}
use Rattle.std.specs.Bool.{then_some}
use Rattle.std.specs.List.{list_any, AllWithin, remove}
use Rattle.std.proofs.lemmas.List.{get_or_read, length-set, length_push}
use Rattle.pol_tables.specs.Rising.{KeysBelow, KeysRise}
use Rattle.pol_tables.specs.Slots.{AreSlots, has_row, kept, row_in, slot_key, IsSlot}
use Rattle.pol_tables.specs.Table.{has_id, knows, row_of, rows_with, rows_without, IdsDiffer, IsPlace}
use Rattle.pol_tables.specs.declared.slot.Slot.{Slot}
use Rattle.pol_tables.specs.declared.slot.Slot.TheVariants.{Kept, Gone}
use Rattle.pol_tables.proofs.PlaceLemmas.{known-at, missed-at, none-each, other_before, removed-at, set-at, IdsDiffer-rows_with, IdsDiffer-rows_without}
use Rattle.pol_tables.proofs.RisingLemmas.{IdsDiffer-rising, KeysRise-filter, KeysRise-push, KeysRise-rows_with}
use Rattle.pol_tables.proofs.TableLemmas.{differ_past, knows-lacks, lacks_past, rows_with-new, some_is}

-- where neither of two holds, and the second gives a third, neither of the first and the third does
neither : (first second third : Bool) → (second ≡ false → third ≡ false) → (first || second) ≡ false → (first || third) ≡ false
neither true second third gives none = none
neither false second third gives none = gives none

last_false : (first second : Bool) → (first || second) ≡ false → second ≡ false
last_false true second none = absurd (true≢false none)
last_false false second none = none

module _ {R : Type 0} where
  -- whether a place has a row
  abbrev pub is_kept : Slot R → Bool
  is_kept slot = is_some (row_in slot)

  -- a place with a row gives it, and one without gives none
  pub kept_row : (slot : Slot R) (slots : List (Slot R)) (row : R) → row_in slot ≡ Some row → kept (slot ∷ slots) ≡ row ∷ kept slots
  kept_row (Kept held) slots row is = ap (λ first. first ∷ kept slots) (some_is held row is)
  kept_row (Gone id) slots row is = cc

  pub kept_none : (slot : Slot R) (slots : List (Slot R)) → row_in slot ≡ None → kept (slot ∷ slots) ≡ kept slots
  kept_none (Kept held) slots is = cc
  kept_none (Gone id) slots is = refl

  -- one more place with a row has it last
  pub kept-push : (row : R) (slots : List (Slot R)) → kept (slots ++ Kept row ∷ []) ≡ kept slots ++ row ∷ []
  kept-push row [] = refl
  kept-push row (Kept held ∷ slots) = ap (λ rows. held ∷ rows) (kept-push row slots)
  kept-push row (Gone id ∷ slots) = kept-push row slots

  -- the rows once places without one are left out, and how many places there are then
  pub kept-swept : (slots : List (Slot R)) → kept (filter is_kept slots) ≡ kept slots
  kept-swept [] = refl
  kept-swept (Kept row ∷ slots) = ap (λ rows. row ∷ rows) (kept-swept slots)
  kept-swept (Gone id ∷ slots) = kept-swept slots

  length-swept : (slots : List (Slot R)) → length (filter is_kept slots) ≡ length (kept slots)
  length-swept [] = refl
  length-swept (Kept row ∷ slots) = ap (λ n. suc n) (length-swept slots)
  length-swept (Gone id ∷ slots) = length-swept slots

  -- there are no more rows than places, and where there are as many each place has its own
  length-kept : (slots : List (Slot R)) → length (kept slots) ≤ length slots
  length-kept [] = omega arith
  length-kept (Kept row ∷ slots) = omega (arith, length-kept slots)
  length-kept (Gone id ∷ slots) = omega (arith, length-kept slots)

  pub kept-full : (slots : List (Slot R)) (place : ℕ) (d : Slot R) → length (kept slots) ≡ length slots → place < length slots → row_in (get_or slots place d) ≡ slice_get (kept slots) place
  kept-full [] place d full within = absurd (omega (arith, within))
  kept-full (Kept row ∷ slots) zero d full within = refl
  kept-full (Kept row ∷ slots) (suc place) d full within = kept-full slots place d (omega (arith, full)) (omega (arith, within))
  kept-full (Gone id ∷ slots) place d full within = absurd (omega (arith, length-kept slots, full))

  pub kept-past : (slots : List (Slot R)) (place : ℕ) → length slots ≤ place → None ≡ slice_get (kept slots) place
  kept-past [] place past = refl
  kept-past (Kept row ∷ slots) zero past = absurd (omega (arith, past))
  kept-past (Kept row ∷ slots) (suc place) past = kept-past slots place (omega (arith, past))
  kept-past (Gone id ∷ slots) place past = kept-past slots place (omega (arith, past))

  -- how many rows stand in front of a place
  abbrev rank : List (Slot R) → ℕ → ℕ
  rank [] place = 0
  rank (slot ∷ slots) zero = 0
  rank (Kept row ∷ slots) (suc place) = suc (rank slots place)
  rank (Gone id ∷ slots) (suc place) = rank slots place

module _ {R : Type 0} (key : R → ℕ) where
  -- the place of an id's row is that of the id
  has-id : (id : ℕ) (slot : Slot R) → has_row key id slot ≡ true → has_id (slot_key key) id slot ≡ true
  has-id id (Kept row) has = has
  has-id id (Gone gone) has = absurd (true≢false (sym has))

  slot-place : (id : ℕ) (slots : List (Slot R)) (place : ℕ) → IsSlot key id slots (Some place) → IsPlace (slot_key key) id slots (Some place)
  slot-place id slots place is = (is.0, λ d. has-id id (get_or slots place d) (is.1 d))

  -- where no place has the id, none has its row
  has-other : (id : ℕ) (slot : Slot R) → has_id (slot_key key) id slot ≡ false → has_row key id slot ≡ false
  has-other id (Kept row) other = other
  has-other id (Gone gone) other = refl

  pub no_row : (id : ℕ) (slots : List (Slot R)) → knows (slot_key key) id slots ≡ false → list_any (has_row key id) slots ≡ false
  no_row id [] unknown = refl
  no_row id (Kept row ∷ slots) unknown =
      neither (nat_eq id (key row)) (knows (slot_key key) id slots) (list_any (has_row key id) slots) (no_row id slots) unknown
  no_row id (Gone gone ∷ slots) unknown =
      no_row id slots (last_false (nat_eq id gone) (knows (slot_key key) id slots) unknown)

  -- a search by halves finds the place of an id, and the row is there or nowhere
  pub no_row_past : (id : ℕ) (slots : List (Slot R)) (place : ℕ) (d : Slot R) → IdsDiffer (slot_key key) slots → IsPlace (slot_key key) id slots (Some place) → has_row key id (get_or slots place d) ≡ false → list_any (has_row key id) slots ≡ false
  no_row_past id [] place d differ is gone = refl
  no_row_past id (slot ∷ slots) zero d differ is gone =
      rw gone (no_row id slots (knows-lacks (slot_key key) id slots (lacks_past (slot_key key) id slot slots differ (is.1 d))))
  no_row_past id (slot ∷ slots) (suc place) d differ is gone =
      rw (has-other id slot (other_before (slot_key key) id slot slots place differ is))
      (no_row_past id slots place d (differ_past (slot_key key) slot slots differ) (omega (arith, is.0), is.1) gone)

  pub searched : (id : ℕ) (slots : List (Slot R)) (place : ℕ) (found : Slot R) → KeysRise (slot_key key) slots → IsPlace (slot_key key) id slots (Some place) → found ≡ get_or slots place found → IsSlot key id slots (then_some (has_row key id found) place)
  searched id slots place found rise is at = by (has_row key id found) refl
    where
      by : (b : Bool) → has_row key id found ≡ b → IsSlot key id slots (then_some b place)
      by true has = (is.0, λ d. subst (λ slot. has_row key id slot ≡ true) (get_or_read slots place found is.0 at d) has)
      by false gone = no_row_past id slots place found (IdsDiffer-rising (slot_key key) slots rise) is (subst (λ slot. has_row key id slot ≡ false) at gone)

  -- so does a scan
  pub scanned : (id : ℕ) (slots : List (Slot R)) (result : Option ℕ) → MatchOption result (AllWithin (λ slot. has_row key id slot ≡ false) slots 0 (length slots)) (λ place. (place < length slots) × HoldsAt (λ slot. has_row key id slot ≡ true) slots place × AllWithin (λ slot. has_row key id slot ≡ false) slots 0 place) → IsSlot key id slots result
  scanned id slots None missed = none-each (has_row key id) slots (λ k d within. missed k d (omega arith) within)
  scanned id slots (Some place) found = (found.0, found.1)

  -- the row of an id stands as far in the list of rows as rows stand in front of its place
  place-kept : (id : ℕ) (slots : List (Slot R)) (place : ℕ) → IsSlot key id slots (Some place) → IsPlace key id (kept slots) (Some (rank slots place))
  place-kept id [] place is = absurd (omega (arith, is.0))
  place-kept id (Kept row ∷ slots) zero is = (omega arith, λ d. is.1 (Kept row))
  place-kept id (Gone gone ∷ slots) zero is = absurd (true≢false (sym (is.1 (Gone gone))))
  place-kept id (Kept row ∷ slots) (suc place) is =
      let rest = place-kept id slots place (omega (arith, is.0), is.1) in
      (omega (arith, rest.0), rest.1)
  place-kept id (Gone gone ∷ slots) (suc place) is = place-kept id slots place (omega (arith, is.0), is.1)

  -- it is found there, or nowhere
  pub found-kept : (id : ℕ) (slots : List (Slot R)) (place : ℕ) (d : Slot R) → IdsDiffer key (kept slots) → IsSlot key id slots (Some place) → row_in (get_or slots place d) ≡ row_of key id (kept slots)
  found-kept id [] place d differ is = absurd (omega (arith, is.0))
  found-kept id (Kept row ∷ slots) zero d differ is = rw (is.1 (Kept row)) refl
  found-kept id (Gone gone ∷ slots) zero d differ is = absurd (true≢false (sym (is.1 (Gone gone))))
  found-kept id (Kept row ∷ slots) (suc place) d differ is =
      let later : IsSlot key id slots (Some place) = (omega (arith, is.0), is.1) in
      let past = place-kept id slots place later in
      rw (other_before key id row (kept slots) (rank slots place) differ (omega (arith, past.0), past.1)) (found-kept id slots place d (differ_past key row (kept slots) differ) later)
  found-kept id (Gone gone ∷ slots) (suc place) d differ is =
      found-kept id slots place d differ (omega (arith, is.0), is.1)

  pub unknown-kept : (id : ℕ) (slots : List (Slot R)) → IsSlot key id slots None → knows key id (kept slots) ≡ false
  unknown-kept id [] missed = refl
  unknown-kept id (Kept row ∷ slots) missed =
      neither (nat_eq id (key row)) (list_any (has_row key id) slots) (knows key id (kept slots)) (unknown-kept id slots) missed
  unknown-kept id (Gone gone ∷ slots) missed = unknown-kept id slots missed

  pub missed-kept : (id : ℕ) (slots : List (Slot R)) → IsSlot key id slots None → None ≡ row_of key id (kept slots)
  missed-kept id slots missed = missed-at key id (kept slots) (unknown-kept id slots missed)

  -- a row that is set at the place of its id's row replaces that
  set-kept : (id : ℕ) (new : R) (slots : List (Slot R)) (place : ℕ) → IsSlot key id slots (Some place) → kept (slice_set slots place (Kept new)) ≡ slice_set (kept slots) (rank slots place) new
  set-kept id new [] place is = absurd (omega (arith, is.0))
  set-kept id new (Kept row ∷ slots) zero is = refl
  set-kept id new (Gone gone ∷ slots) zero is = absurd (true≢false (sym (is.1 (Gone gone))))
  set-kept id new (Kept row ∷ slots) (suc place) is =
      ap (λ rows. row ∷ rows) (set-kept id new slots place (omega (arith, is.0), is.1))
  set-kept id new (Gone gone ∷ slots) (suc place) is = set-kept id new slots place (omega (arith, is.0), is.1)

  pub put-kept : (new : R) (slots : List (Slot R)) (place : ℕ) → IdsDiffer key (kept slots) → IsSlot key (key new) slots (Some place) → kept (slice_set slots place (Kept new)) ≡ rows_with key new (kept slots)
  put-kept new slots place differ is =
      set-kept (key new) new slots place is ∙ set-at key new (kept slots) (rank slots place) differ (place-kept (key new) slots place is)

  -- and the place of a taken row has none
  gone-kept : (id gone : ℕ) (slots : List (Slot R)) (place : ℕ) → IsSlot key id slots (Some place) → kept (slice_set slots place (Gone gone)) ≡ remove (kept slots) (rank slots place)
  gone-kept id gone [] place is = absurd (omega (arith, is.0))
  gone-kept id gone (Kept row ∷ slots) zero is = refl
  gone-kept id gone (Gone other ∷ slots) zero is = absurd (true≢false (sym (is.1 (Gone other))))
  gone-kept id gone (Kept row ∷ slots) (suc place) is =
      ap (λ rows. row ∷ rows) (gone-kept id gone slots place (omega (arith, is.0), is.1))
  gone-kept id gone (Gone other ∷ slots) (suc place) is =
      gone-kept id gone slots place (omega (arith, is.0), is.1)

  pub take-kept : (id gone : ℕ) (slots : List (Slot R)) (place : ℕ) → IdsDiffer key (kept slots) → IsSlot key id slots (Some place) → kept (slice_set slots place (Gone gone)) ≡ rows_without key id (kept slots)
  take-kept id gone slots place differ is =
      gone-kept id gone slots place is ∙ removed-at key id (kept slots) (rank slots place) differ (place-kept id slots place is)

  -- how many rows there are once one is set or taken
  count-set : (id : ℕ) (new : R) (slots : List (Slot R)) (place : ℕ) → IsSlot key id slots (Some place) → length (kept (slice_set slots place (Kept new))) ≡ length (kept slots)
  count-set id new [] place is = absurd (omega (arith, is.0))
  count-set id new (Kept row ∷ slots) zero is = refl
  count-set id new (Gone gone ∷ slots) zero is = absurd (true≢false (sym (is.1 (Gone gone))))
  count-set id new (Kept row ∷ slots) (suc place) is =
      ap (λ n. suc n) (count-set id new slots place (omega (arith, is.0), is.1))
  count-set id new (Gone gone ∷ slots) (suc place) is = count-set id new slots place (omega (arith, is.0), is.1)

  count-gone : (id gone : ℕ) (slots : List (Slot R)) (place : ℕ) → IsSlot key id slots (Some place) → length (kept (slice_set slots place (Gone gone))) + 1 ≡ length (kept slots)
  count-gone id gone [] place is = absurd (omega (arith, is.0))
  count-gone id gone (Kept row ∷ slots) zero is = omega arith
  count-gone id gone (Gone other ∷ slots) zero is = absurd (true≢false (sym (is.1 (Gone other))))
  count-gone id gone (Kept row ∷ slots) (suc place) is =
      omega (arith, count-gone id gone slots place (omega (arith, is.0), is.1))
  count-gone id gone (Gone other ∷ slots) (suc place) is =
      count-gone id gone slots place (omega (arith, is.0), is.1)

  -- ids rise as they did
  ordered-set : (slot : Slot R) (slots : List (Slot R)) (place : ℕ) → IsPlace (slot_key key) (slot_key key slot) slots (Some place) → KeysRise (slot_key key) slots → KeysRise (slot_key key) (slice_set slots place slot)
  ordered-set slot slots place is rise =
      let known = known-at (slot_key key) (slot_key key slot) slots place is in
      subst (KeysRise (slot_key key)) (sym (set-at (slot_key key) slot slots place (IdsDiffer-rising (slot_key key) slots rise) is))
      (KeysRise-rows_with (slot_key key) slot slots rise (λ new. absurd (true≢false (sym known ∙ new))))

  -- a row of a new id is pushed
  pub pushed-kept : (new : R) (slots : List (Slot R)) → IsSlot key (key new) slots None → kept (slots ++ Kept new ∷ []) ≡ rows_with key new (kept slots)
  pushed-kept new slots missed =
      kept-push new slots ∙ sym (rows_with-new key new (kept slots) (unknown-kept (key new) slots missed))

  -- the places of a table once a row is put in its place, put last, taken, and once places without one are swept out
  pub AreSlots-put : (new : R) (slots : List (Slot R)) (rise : Bool) (gone place : ℕ) → AreSlots key slots rise gone → IsSlot key (key new) slots (Some place) → AreSlots key (slice_set slots place (Kept new)) rise gone
  AreSlots-put new slots rise gone place are is = record {
    differ = subst (IdsDiffer key) (sym (put-kept new slots place are.differ is)) (IdsDiffer-rows_with key new (kept slots) are.differ);
    ordered = λ rises. ordered-set (Kept new) slots place (slot-place (key new) slots place is) (are.ordered rises);
    counted = omega (arith, are.counted, count-set (key new) new slots place is, length-set slots place (Kept new));
  }

  pub AreSlots-push : (new : R) (slots : List (Slot R)) (rise next : Bool) (gone : ℕ) → AreSlots key slots rise gone → IsSlot key (key new) slots None → (next ≡ true → KeysRise (slot_key key) slots × KeysBelow (slot_key key) (key new) slots) → AreSlots key (slots ++ Kept new ∷ []) next gone
  AreSlots-push new slots rise next gone are missed rises = record {
    differ = subst (IdsDiffer key) (sym (pushed-kept new slots missed)) (IdsDiffer-rows_with key new (kept slots) are.differ);
    ordered = λ is. KeysRise-push (slot_key key) (Kept new) slots (rises is).0 (rises is).1;
    counted = omega (arith, are.counted, ap length (kept-push new slots), length_push slots (Kept new), length_push (kept slots) new);
  }

  pub AreSlots-take : (id : ℕ) (slots : List (Slot R)) (rise : Bool) (gone place : ℕ) → AreSlots key slots rise gone → IsSlot key id slots (Some place) → AreSlots key (slice_set slots place (Gone id)) rise (gone + 1)
  AreSlots-take id slots rise gone place are is = record {
    differ = subst (IdsDiffer key) (sym (take-kept id id slots place are.differ is)) (IdsDiffer-rows_without key id (kept slots) are.differ);
    ordered = λ rises. ordered-set (Gone id) slots place (slot-place id slots place is) (are.ordered rises);
    counted = omega (arith, are.counted, count-gone id id slots place is, length-set slots place (Gone id));
  }

  pub AreSlots-sweep : (slots : List (Slot R)) (rise : Bool) (gone : ℕ) → AreSlots key slots rise gone → AreSlots key (filter is_kept slots) rise 0
  AreSlots-sweep slots rise gone are = record {
    differ = subst (IdsDiffer key) (sym (kept-swept slots)) are.differ;
    ordered = λ rises. KeysRise-filter (slot_key key) is_kept slots (are.ordered rises);
    counted = omega (arith, ap length (kept-swept slots), length-swept slots);
  }
