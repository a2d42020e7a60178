-- What the making of a journal leaves of a disk without bytes.
use Rattle.std.proofs.Common.{◌≡◌, inl, Option, IsSome, IfSome, ℕ, ◌+◌, List, [], ◌∷◌, ◌++◌, length, refl, sym, ◌∙◌, ap, subst, arith, length-append}
use Rattle.pol_disk.specs.Disk.{IsDurable, LeavesOnly, Told, Torn, written}
use Rattle.pol_journal.specs.Crash.{IsSame, IsUntouched, KeepsFront, LeavesAfter}
use Rattle.pol_journal.specs.Format.{name_of, area_of, records_of, StandsFor, IsNoneOrStandsFor}
use Rattle.pol_journal.specs.Journal.{IsBlank, Stands}
use Rattle.pol_journal.specs.declared.kind.Kind.{Kind}
use Rattle.pol_journal.proofs.FormatLemmas.{blank, after_name, length-name, length-records, short_is_none, blank_written, blank_is_none, rest_written, name_torn, name_written}
use Rattle.pol_journal.proofs.Moments.{leaves_only, and_then}
use Rattle.pol_journal.proofs.RecordLemmas.{still_told, written_image}

module _ {D : Type 0} (clock : D → ℕ) (left_since : D → ℕ → List ℕ → Type 0) (may_leave : D → List ℕ → Type 0) (seen : D → Option (List ℕ))
    (reads : (disk : D) → IfSome (seen disk) (may_leave disk)) (kind : Kind) (bodies : List (List ℕ)) (first : List ℕ) (area : first ≡ area_of bodies) where
  abbrev P : List ℕ → Type 0
  P = IsNoneOrStandsFor kind bodies

  abbrev Run : (List ℕ → List ℕ → Type 0) → D → D → Type 0
  Run = LeavesAfter clock left_since may_leave

  abbrev Only : (List ℕ → Type 0) → D → Type 0
  Only Q disk = (image : List ℕ) → may_leave disk image → Q image

  -- a write over a disk of one image, and a sync, succeeded
  pub record Wrote (at : ℕ) (items : List ℕ) (old new : D) : Type 0 where
    pub bytes : Told (λ x y. y ≡ written at items x) (seen old) (seen new)
    pub durable : IsDurable (seen new) (may_leave new)

  told_blank : (old : D) → IsBlank (seen old) (may_leave old) → IsSome (seen old)
  told_blank old none = subst (λ o. IsSome o) (sym none.told) refl

  only_none : (old : D) → IsBlank (seen old) (may_leave old) → Only (λ image. image ≡ []) old
  only_none old none image left = subst (λ o. IsDurable o (may_leave old)) none.told none.durable image left

  only_blank : (old one : D) → IsBlank (seen old) (may_leave old) → Wrote 0 blank old one → Only (λ image. image ≡ blank) one
  only_blank old one none wrote =
      written_image (λ image. image ≡ blank) 0 blank (seen old) (seen one) (may_leave old) (may_leave one) (told_blank old none) (reads old) wrote.bytes wrote.durable
      (λ x was. blank_written x (only_none old none x was))

  only_rest : (old one two : D) → IsBlank (seen old) (may_leave old) → Wrote 0 blank old one → Wrote 8 (after_name first) one two → Only (λ image. image ≡ blank ++ after_name first) two
  only_rest old one two none wrote rest =
      written_image (λ image. image ≡ blank ++ after_name first) 8 (after_name first) (seen one) (seen two) (may_leave one) (may_leave two)
      (still_told _ _ _ (told_blank old none) wrote.bytes) (reads one) rest.bytes rest.durable
      (λ x was. rest_written first x (only_blank old one none wrote x was))

  pub two_writes : (old one two : D) → IsBlank (seen old) (may_leave old) → Run (Torn 0 8) old one → Wrote 0 blank old one → Run (KeepsFront 8) one two
      → LeavesOnly clock left_since old two P
  two_writes old one two none first_run wrote run =
      and_then clock left_since may_leave P old one two
      (leaves_only clock left_since may_leave (Torn 0 8) P old one (λ before image left torn. short_is_none kind bodies before image (only_none old none before left) torn) first_run)
      (leaves_only clock left_since may_leave (KeepsFront 8) P one two (λ before image left keeps. blank_is_none kind bodies before image (only_blank old one none wrote before left) keeps) run)

  pub three_writes : (old one two three : D) → IsBlank (seen old) (may_leave old) → Run (Torn 0 8) old one → Wrote 0 blank old one → Run (KeepsFront 8) one two → Wrote 8 (after_name first) one two
      → (name : List ℕ) → name ≡ name_of kind → Run (Torn 0 (0 + length name)) two three → LeavesOnly clock left_since old three P
  three_writes old one two three none first_run wrote run rest name named last_run =
      let eight : 0 + length name ≡ 8 = omega (arith, ap length named, length-name kind) in
      and_then clock left_since may_leave P old two three (two_writes old one two none first_run wrote run)
      (leaves_only clock left_since may_leave (Torn 0 8) P two three (λ before image left torn. name_torn kind bodies first before image area (only_rest old one two none wrote rest before left) torn)
      (subst (λ (n : ℕ). Run (Torn 0 n) two three) eight last_run))

  pub made : (old one two three : D) → IsBlank (seen old) (may_leave old) → Wrote 0 blank old one → Wrote 8 (after_name first) one two → (name : List ℕ) → name ≡ name_of kind → Wrote 0 name two three
      → Stands kind bodies (63 + length first) (seen three) (may_leave three)
  made old one two three none wrote rest name same named =
      let is = still_told _ _ _ (still_told _ _ _ (told_blank old none) wrote.bytes) rest.bytes in record {
        told = still_told _ _ _ is named.bytes;
        place = omega (arith, ap length area, length-append (records_of bodies) (0 ∷ []), length-records bodies);
        images = written_image (StandsFor kind bodies) 0 name (seen two) (seen three) (may_leave two) (may_leave three) is (reads two) named.bytes named.durable
            (λ x was. subst (λ (l : List ℕ). StandsFor kind bodies (written 0 l x)) (sym same) (name_written kind bodies first x area (only_rest old one two none wrote rest x was)));
      }

pub only_nothing : (seen : Option (List ℕ)) (left : List ℕ → Type 0) → IsBlank seen left → (image : List ℕ) → left image → image ≡ []
only_nothing seen left none image is = subst (λ o. IsDurable o left) none.told none.durable image is

-- an untouched disk without bytes has none
pub blank_after : {D : Type 0} {clock : D → ℕ} {left_since : D → ℕ → List ℕ → Type 0} {may_leave : D → List ℕ → Type 0} {seen : D → Option (List ℕ)} {size : D → Option ℕ} {old new : D}
    → IsBlank (seen old) (may_leave old) → IsUntouched clock left_since may_leave seen size old new → IsBlank (seen new) (may_leave new)
blank_after {may_leave = may_leave} {seen = seen} {old = old} {new = new} none same = record {
  told = same.seen_same ∙ none.told;
  durable = subst (λ o. IsDurable o (may_leave new)) (sym (same.seen_same ∙ none.told))
      (λ image left. let from = same.images.now image left in from.2 ∙ only_nothing (seen old) (may_leave old) none from.0 from.1);
}

pub nothing_is_none : (kind : Kind) (bodies : List (List ℕ)) (image : List ℕ) → image ≡ [] → IsNoneOrStandsFor kind bodies image
nothing_is_none kind bodies image none = inl (inl (omega (arith, ap length none)))

-- at each moment an untouched disk without bytes has no journal
pub looked : {D : Type 0} {clock : D → ℕ} {left_since : D → ℕ → List ℕ → Type 0} {may_leave : D → List ℕ → Type 0} {seen : D → Option (List ℕ)} {size : D → Option ℕ} {old new : D} (kind : Kind) (bodies : List (List ℕ))
    → IsBlank (seen old) (may_leave old) → IsUntouched clock left_since may_leave seen size old new → LeavesOnly clock left_since old new (IsNoneOrStandsFor kind bodies)
looked {clock = clock} {left_since = left_since} {may_leave = may_leave} {seen = seen} {old = old} {new = new} kind bodies none same =
    leaves_only clock left_since may_leave IsSame (IsNoneOrStandsFor kind bodies) old new
    (λ before image left is. nothing_is_none kind bodies image (is ∙ only_nothing (seen old) (may_leave old) none before left)) same.images
