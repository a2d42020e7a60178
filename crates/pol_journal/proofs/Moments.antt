-- How runs of calls of a disk go on.
use Rattle.std.proofs.Common.{◌≡◌, inl, inr, ⊎_elim, ℕ, List, Option, refl, ◌∙◌, arith}
use Rattle.pol_disk.specs.Disk.{Elapses, Follows, LeavesOnly}
use Rattle.pol_journal.specs.Crash.{After, IsSame, IsUntouched, LeavesAfter}

abbrev Step : Type 1
Step = List ℕ → List ℕ → Type 0

module _ {D : Type 0} (clock : D → ℕ) (left_since : D → ℕ → List ℕ → Type 0) (may_leave : D → List ℕ → Type 0) where
  -- one call
  pub one_call : (S : Step) (old new : D) → ((image : List ℕ) → S image image) → ((image : List ℕ) → left_since old (clock old) image → may_leave old image)
      → Elapses (clock old) (clock new) (left_since old) (left_since new) (may_leave new) → Follows S (may_leave old) (may_leave new) → LeavesAfter clock left_since may_leave S old new
  one_call S old new none only time follows = record {
    moments = record {
      later = time.later;
      each = λ image left. ⊎_elim (λ was. (image, only image was, none image)) (λ now. follows image now) (time.nothing_else (clock old) image (omega arith) left);
      before = λ t image within left. ⊎_elim (λ was. inl was) (λ now. inr (follows image now)) (time.nothing_else t image within left);
    };
    now = follows;
  }

  through : (S N R : Step) (old mid : D) → ((a b c : List ℕ) → S a b → N b c → R a c) → Follows S (may_leave old) (may_leave mid)
      → (image : List ℕ) → After N (may_leave mid) image → After R (may_leave old) image
  through S N R old mid both first image (between, left, next) =
      let from = first between left in (from.0, from.1, both from.0 between image from.2 next)

  -- one run of calls, and then another
  pub two_runs : (S N R : Step) (old mid new : D) → ((a b : List ℕ) → S a b → R a b) → ((a b c : List ℕ) → S a b → N b c → R a c)
      → LeavesAfter clock left_since may_leave S old mid → LeavesAfter clock left_since may_leave N mid new → LeavesAfter clock left_since may_leave R old new
  two_runs S N R old mid new once both first second = record {
    moments = record {
      later = omega (arith, first.moments.later, second.moments.later);
      each = λ image left. ⊎_elim
          (λ was. early image (first.moments.each image was))
          (λ now. through S N R old mid both first.now image now)
          (second.moments.before (clock old) image first.moments.later left);
      before = λ t image within left. ⊎_elim
          (λ was. ⊎_elim (λ long. inl long) (λ now. inr (early image now)) (first.moments.before t image within was))
          (λ now. inr (through S N R old mid both first.now image now))
          (second.moments.before t image (omega (arith, within, first.moments.later)) left);
    };
    now = λ image left. through S N R old mid both first.now image (second.now image left);
  }
    where
      early : (image : List ℕ) → After S (may_leave old) image → After R (may_leave old) image
      early image (from, left, step) = (from, left, once from image step)

  -- what holds of each image that such a step leaves
  pub leaves_only : (S : Step) (P : List ℕ → Type 0) (old new : D) → ((before image : List ℕ) → may_leave old before → S before image → P image)
      → LeavesAfter clock left_since may_leave S old new → LeavesOnly clock left_since old new P
  leaves_only S P old new holds run = record {
    later = run.moments.later;
    each = λ image left. at image (run.moments.each image left);
    before = λ t image within left. ⊎_elim (λ was. inl was) (λ now. inr (at image now)) (run.moments.before t image within left);
  }
    where
      at : (image : List ℕ) → After S (may_leave old) image → P image
      at image (from, left, step) = holds from image left step

  pub and_then : (P : List ℕ → Type 0) (old mid new : D) → LeavesOnly clock left_since old mid P → LeavesOnly clock left_since mid new P → LeavesOnly clock left_since old new P
  and_then P old mid new first second = record {
    later = omega (arith, first.later, second.later);
    each = λ image left. ⊎_elim (λ was. first.each image was) (λ now. now) (second.before (clock old) image first.later left);
    before = λ t image within left. ⊎_elim (λ was. first.before t image within was) (λ now. inr now) (second.before t image (omega (arith, within, first.later)) left);
  }

-- Calls that change nothing
module _ {D : Type 0} (clock : D → ℕ) (left_since : D → ℕ → List ℕ → Type 0) (may_leave : D → List ℕ → Type 0) (seen : D → Option (List ℕ)) (size : D → Option ℕ) where
  abbrev Same : D → D → Type 0
  Same = IsUntouched clock left_since may_leave seen size

  pub same_after_call : (old new : D) → ((image : List ℕ) → left_since old (clock old) image → may_leave old image) → seen new ≡ seen old → size new ≡ size old
      → ((image : List ℕ) → may_leave new image → may_leave old image) → Elapses (clock old) (clock new) (left_since old) (left_since new) (may_leave new) → Same old new
  same_after_call old new only reads long fewer time = record {
    seen_same = reads;
    size_same = long;
    images = one_call clock left_since may_leave IsSame old new (λ image. refl) only time (λ image left. (image, fewer image left, refl));
  }

-- one that changes nothing, and then another
pub same_after_both : {D : Type 0} {clock : D → ℕ} {left_since : D → ℕ → List ℕ → Type 0} {may_leave : D → List ℕ → Type 0} {seen : D → Option (List ℕ)} {size : D → Option ℕ} {old mid new : D}
    → IsUntouched clock left_since may_leave seen size old mid → IsUntouched clock left_since may_leave seen size mid new → IsUntouched clock left_since may_leave seen size old new
same_after_both {D} {clock} {left_since} {may_leave} {seen} {size} {old} {mid} {new} first second = record {
  seen_same = second.seen_same ∙ first.seen_same;
  size_same = second.size_same ∙ first.size_same;
  images = two_runs clock left_since may_leave IsSame IsSame IsSame old mid new (λ a b same. same) (λ a b c same more. more ∙ same) first.images second.images;
}
