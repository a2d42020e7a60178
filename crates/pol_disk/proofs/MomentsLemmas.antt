-- Lemmas on the moments of a disk in memory.
use Rattle.std.proofs.Common.{◌≡◌, ◌⊎◌, inl, inr, ⊎_elim, ℕ, zero, suc, ◌≤◌, List, [], ◌∷◌, ◌++◌, length, drop, refl, sym, ap, ◌∙◌, subst, arith, length-append}
use Rattle.pol_disk.specs.Content.{ContentState, IsImage}
use Rattle.pol_disk.specs.Disk.{Elapses}
use Rattle.pol_disk.specs.MemoryDisk.{MemoryState, WasImage, LeftSince}

was_before : (past : List ContentState) (content : ContentState) (image : List ℕ) → WasImage past image → WasImage (past ++ content ∷ []) image
was_before [] content image was = absurd was
was_before (first ∷ past) content image (inl here) = inl here
was_before (first ∷ past) content image (inr there) = inr (was_before past content image there)

was_last : (past : List ContentState) (content : ContentState) (image : List ℕ) → IsImage content image → WasImage (past ++ content ∷ []) image
was_last [] content image is = inl is
was_last (first ∷ past) content image is = inr (was_last past content image is)

was_either : (past : List ContentState) (content : ContentState) (image : List ℕ) → WasImage (past ++ content ∷ []) image → WasImage past image ⊎ IsImage content image
was_either [] content image (inl here) = inr here
was_either [] content image (inr none) = absurd none
was_either (first ∷ past) content image (inl here) = inl (inl here)
was_either (first ∷ past) content image (inr there) = ⊎_elim (λ was. inl (inr was)) (λ is. inr is) (was_either past content image there)

drop-push : (t : ℕ) (past : List ContentState) (content : ContentState) → t ≤ length past → drop t (past ++ content ∷ []) ≡ drop t past ++ content ∷ []
drop-push zero past content within = refl
drop-push (suc t) [] content within = absurd (omega arith)
drop-push (suc t) (first ∷ past) content within = drop-push t past content (omega arith)

swapped : {A B : Type 0} → A ⊎ B → B ⊎ A
swapped (inl a) = inr a
swapped (inr b) = inl b

-- one moment more
pub elapses_push : (old : MemoryState) (content : ContentState) (past : List ContentState) → past ≡ old.past ++ old.content ∷ []
    → Elapses (length old.past) (length past) (LeftSince old) (λ t image. IsImage content image ⊎ WasImage (drop t past) image) (IsImage content)
elapses_push old content past pushed = record {
  later = omega (arith, ap length pushed, length-append old.past (old.content ∷ []));
  nothing_else = λ t image within left. ⊎_elim
      (λ now. inr now)
      (λ was. inl (swapped (was_either (drop t old.past) old.content image (subst (λ (l : List ContentState). WasImage l image) (dropped t within) was))))
      left;
  keeps = λ t image within left. inr (subst (λ (l : List ContentState). WasImage l image) (sym (dropped t within))
      (⊎_elim (was_last (drop t old.past) old.content image) (was_before (drop t old.past) old.content image) left));
}
  where
    dropped : (t : ℕ) → t ≤ length old.past → drop t past ≡ drop t old.past ++ old.content ∷ []
    dropped t within = ap (λ (l : List ContentState). drop t l) pushed ∙ drop-push t old.past old.content within
