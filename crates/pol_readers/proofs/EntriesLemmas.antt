-- An object's members, read one by one.
use Rattle.std.proofs.Common.{◌≡◌, ℕ, List, [], ◌∷◌, ◌++◌, map, String, Global, string_bytes, string_cmp, nat_cmp, Less, Ok, sym, ◌∙◌, subst, append_assoc}
use Rattle.std.proofs.lemmas.List.{map-append, append-nil}
use Rattle.std.specs.Cmp.Lexicographic.{slice_cmp}
use Rattle.std.specs.List.{AllByRecursion}
use Rattle.std.specs.List.Sorted.{IsStrictlySortedBy}
use Rattle.std.specs.Map.{keys_of}
use Rattle.serde_json.specs.Data.{Data}
use Rattle.serde_json.specs.View.{view, members_view}
use Rattle.serde_json.proofs.Views.{Entry}
use Rattle.pol_readers.specs.Entries.{keys, KeysRise}
use Rattle.pol_readers.specs.declared.path.Step.TheVariants.{Key}
use Rattle.pol_readers.specs.Reading.{Reading, under}
use Rattle.pol_readers.specs.Forms.{members}
use Rattle.pol_readers.proofs.ListLemmas.{after, members_more}

-- what was read so far, and the members that are still to come
pub record IsReadTo {A : Type 0} (form : Data → Reading A) (all : List Entry) (done : List (List ℕ × A)) (rest : List Entry) : Type 0 where
  pub reading : members form (members_view all) ≡ after done (members form (members_view rest))
  pub keyed : map string_bytes (keys_of all) ≡ keys done ++ map string_bytes (keys_of rest)

-- one more member was read
pub read_more : {A : Type 0} (form : Data → Reading A) (all rest : List Entry) (e : Entry) (done : List (List ℕ × A)) (value : A) → IsReadTo form all done (e ∷ rest)
    → under (Key (string_bytes e.0)) (form (view e.1)) ≡ Ok value → IsReadTo form all (done ++ (string_bytes e.0, value) ∷ []) rest
read_more form all rest e done value so is = record {
  reading = so.reading ∙ members_more form (string_bytes e.0) (view e.1) (members_view rest) done value is;
  keyed = so.keyed ∙ rw map-append (sym (append_assoc (keys done) (string_bytes e.0 ∷ []) (map string_bytes (keys_of rest))));
}

all_texts : (P : List ℕ → Type 0) (ks : List (String Global)) → AllByRecursion (λ k. P (string_bytes k)) ks → AllByRecursion P (map string_bytes ks)
all_texts P [] so = tt
all_texts P (k ∷ ks) so = (so.0, all_texts P ks so.1)

sorted_texts : (ks : List (String Global)) → IsStrictlySortedBy string_cmp ks → IsStrictlySortedBy (slice_cmp nat_cmp) (map string_bytes ks)
unfolding IsStrictlySortedBy
sorted_texts [] so = tt
sorted_texts (k ∷ ks) so = (all_texts (λ l. slice_cmp nat_cmp (string_bytes k) l ≡ Less) ks so.0, sorted_texts ks so.1)

-- once each member was read, the keys are those of the object, which rise
pub read_all_rise : {A : Type 0} (form : Data → Reading A) (all : List Entry) (done : List (List ℕ × A)) → IsReadTo form all done [] → IsStrictlySortedBy string_cmp (keys_of all) → KeysRise done
read_all_rise form all done so rises =
    subst (IsStrictlySortedBy (slice_cmp nat_cmp)) (so.keyed ∙ append-nil (keys done)) (sorted_texts (keys_of all) rises)
