-- What a search for a text finds among entries whose texts rise.
use Rattle.std.proofs.Common.{◌≡◌, ℕ, zero, suc, ◌<◌, Bool, true, false, cond, List, [], ◌∷◌, length, get_or, set, None, Some, Option, refl, ap, sym, ◌∙◌, arith, true≢false}
use Rattle.std.specs.BTreeMap.{insert_entry}
use Rattle.std.specs.Cmp.Lexicographic.{nat_list_cmp_total}
use Rattle.std.specs.List.{insert, remove}
use Rattle.std.specs.List.Sorted.{IsPartitionedBy}
use Rattle.std.specs.Map.{lookup, remove_entry}
use Rattle.std.specs.Ordering.{is_eq, is_lt, ordering_reverse}
use Rattle.std.specs.Prelude.{MatchOption, is_some, option_map, slice_get, unwrap_or}
use Rattle.std.specs.declared.cmp.Ordering.{Ordering}
use Rattle.std.specs.declared.cmp.Ordering.TheVariants.{Less, Equal, Greater}
use Rattle.std.proofs.lemmas.Cmp.{tied_itself}
use Rattle.std.proofs.lemmas.Option.{get_or_from_slice_get, slice_get-get_or, slice_get_within}
use Rattle.pol_blocks.specs.Blocks.{flat, number_of}
use Rattle.pol_blocks.specs.declared.place.Place.{Place}
use Rattle.pol_blocks.proofs.Points.{place-within}
use Rattle.pol_objects.specs.Entries.{IsParting, IsRising, StandsAt, bytes_under, is_below}
use Rattle.pol_objects.specs.Objects.{byte_order}
use Rattle.pol_objects.proofs.Kept.{same_text}
use Rattle.pol_objects.proofs.Places.{before-parted, found-at, insert-at, missing-at, remove-at, rising-insert, rising-remove}

-- where texts rise, those below one stand in front
pub below-parted : (text : List ℕ) (entries : List (List ℕ × List ℕ)) → IsRising entries → IsPartitionedBy (is_below text) entries
below-parted text entries rising = before-parted byte_order nat_list_cmp_total text entries rising

-- a text that isn't below another one and isn't the same is above it
above : (text other : List ℕ) → is_lt (byte_order other text) ≡ false → (text ≡ other → ⊥) → byte_order text other ≡ Less
above text other not_below apart = by (byte_order text other) refl
  where
    by : (order : Ordering) → byte_order text other ≡ order → byte_order text other ≡ Less
    by Less is = is
    by Equal is = absurd (apart (same_text text other (ap is_eq is)))
    by Greater is =
        let less : byte_order other text ≡ Less = nat_list_cmp_total.antisymm other text ∙ ap ordering_reverse is in
        absurd (true≢false (sym (ap is_lt less) ∙ not_below))

-- where nothing is kept under a text, nothing is taken away
pub remove-none : (test : List ℕ → Bool) (entries : List (List ℕ × List ℕ)) → lookup test entries ≡ None → remove_entry test entries ≡ entries
remove-none test [] none = refl
remove-none test (e ∷ entries) none = by (test e.0) none (remove-none test entries)
  where
    by : (here : Bool) → cond here (Some e.1) (lookup test entries) ≡ None → (lookup test entries ≡ None → remove_entry test entries ≡ entries) →
        cond here entries (e ∷ remove_entry test entries) ≡ e ∷ entries
    by true none rest = cc
    by false none rest = ap (λ some. e ∷ some) (rest none)

module _ (text : List ℕ) (blocks : List (List (List ℕ × List ℕ))) (place : Place) (parting : IsParting text blocks place) where
  abbrev n : ℕ
  n = number_of blocks place

  same-there : (entry : List ℕ × List ℕ) → slice_get (flat blocks) n ≡ Some entry → text ≡ entry.0 → (d : List ℕ × List ℕ) → is_eq (byte_order text (get_or (flat blocks) n d).0) ≡ true
  same-there entry is own d =
      ap (λ (e : List ℕ × List ℕ). is_eq (byte_order text e.0)) (get_or_from_slice_get (flat blocks) n entry d is)
      ∙ ap (λ other. is_eq (byte_order text other)) (sym own)
      ∙ ap is_eq (tied_itself nat_list_cmp_total text)

  -- the entry at the place, where it has the text
  pub found-here : (entry : List ℕ × List ℕ) → slice_get (flat blocks) n ≡ Some entry → text ≡ entry.0 → bytes_under (flat blocks) text ≡ Some entry.1
  found-here entry is own =
      found-at byte_order nat_list_cmp_total text (flat blocks) n entry (slice_get_within (flat blocks) n entry is) parting.front (same-there entry is own entry)
      ∙ ap (λ (e : List ℕ × List ℕ). Some e.1) (get_or_from_slice_get (flat blocks) n entry entry is)

  behind-less : ((entry : List ℕ × List ℕ) → slice_get (flat blocks) n ≡ Some entry → text ≡ entry.0 → ⊥) → (d : List ℕ × List ℕ) → n < length (flat blocks) → byte_order text (get_or (flat blocks) n d).0 ≡ Less
  behind-less other d inside =
      above text (get_or (flat blocks) n d).0 (parting.behind n d (omega arith) inside)
      (other (get_or (flat blocks) n d) (slice_get-get_or (flat blocks) n d inside))

  -- nothing is kept under the text, where the entry at the place has another one
  pub missing-here : IsRising (flat blocks) → ((entry : List ℕ × List ℕ) → slice_get (flat blocks) n ≡ Some entry → text ≡ entry.0 → ⊥) → bytes_under (flat blocks) text ≡ None
  missing-here rising other = missing-at byte_order nat_list_cmp_total text (flat blocks) n rising parting.front (behind-less other)

  module _ (bytes : List ℕ) (rising : IsRising (flat blocks)) (new : bytes_under (flat blocks) text ≡ None) where
    other-here : (entry : List ℕ × List ℕ) → slice_get (flat blocks) n ≡ Some entry → text ≡ entry.0 → ⊥
    other-here entry is own = let found = found-here entry is own in cc

    pub inserted : insert (flat blocks) n (text, bytes) ≡ insert_entry byte_order (flat blocks) text bytes
    inserted = insert-at byte_order nat_list_cmp_total text (flat blocks) n bytes (place-within blocks place parting.within) parting.front (behind-less other-here)

    pub inserted-rising : IsRising (insert (flat blocks) n (text, bytes))
    inserted-rising = rising-insert byte_order nat_list_cmp_total text bytes (flat blocks) n rising parting.front (behind-less other-here) (place-within blocks place parting.within)

  -- the entry of the text is taken away
  pub removed-here : (entry : List ℕ × List ℕ) → slice_get (flat blocks) n ≡ Some entry → text ≡ entry.0 → remove (flat blocks) n ≡ remove_entry (λ key. is_eq (byte_order text key)) (flat blocks)
  removed-here entry is own =
      remove-at byte_order nat_list_cmp_total text (flat blocks) n (slice_get_within (flat blocks) n entry is) parting.front (same-there entry is own)

  pub removed-rising : IsRising (flat blocks) → IsRising (remove (flat blocks) n)
  removed-rising rising = rising-remove byte_order (flat blocks) n rising

-- an entry that stands at a place
module _ (text : List ℕ) (blocks : List (List (List ℕ × List ℕ))) (place : Place) (at : StandsAt text blocks place) where
  pub stands-found : bytes_under (flat blocks) text ≡ Some at.bytes
  stands-found = found-here text blocks place at.parting (text, at.bytes) at.here refl

  pub stands-length : (entry : List ℕ × List ℕ) (many : ℕ) → slice_get (flat blocks) (number_of blocks place) ≡ Some entry → many ≡ length entry.1 → Some many ≡ option_map length (bytes_under (flat blocks) text)
  stands-length entry many is own =
      let bytes : Option (List ℕ × List ℕ) → List ℕ = λ found. unwrap_or (option_map (λ e. e.1) found) [] in
      ap (λ n. Some n) (own ∙ ap (λ found. length (bytes found)) (sym is ∙ at.here)) ∙ ap (option_map length) (sym stands-found)

  pub stands-removed : remove (flat blocks) (number_of blocks place) ≡ remove_entry (λ key. is_eq (byte_order text key)) (flat blocks)
  stands-removed = removed-here text blocks place at.parting (text, at.bytes) at.here refl

-- whether there is one
pub there : (text : List ℕ) (blocks : List (List (List ℕ × List ℕ))) (found : Option Place) → MatchOption found (bytes_under (flat blocks) text ≡ None) (λ place. StandsAt text blocks place) →
    is_some found ≡ is_some (bytes_under (flat blocks) text)
there text blocks None none = ap is_some (sym none)
there text blocks (Some place) at = ap is_some (sym (stands-found text blocks place at))

-- an item that is put back where it was taken from
pub put-back : {A : Type 0} (items : List A) (n : ℕ) (other item : A) → Some item ≡ slice_get items n → set (set items n other) n item ≡ items
put-back [] n other item is = refl
put-back (x ∷ items) zero other item is = ap (λ found. unwrap_or found item ∷ items) is
put-back (x ∷ items) (suc n) other item is = ap (λ some. x ∷ some) (put-back items n other item is)
