-- Lemmas on the images of a disk in memory.
use Rattle.std.proofs.Common.{◌≡◌, ◌⊎◌, inl, inr, ℕ, zero, suc, ◌+◌, ◌-◌, ◌<◌, ◌≤◌, min, max, List, [], ◌∷◌, ◌++◌, map, length, take, drop, replicate, Option, Some, None, refl, sym, ap, ◌∙◌, subst, arith, append-nil, length-append, length-drop}
use Rattle.std.proofs.lemmas.List.{length-take, length-replicate, drop_all}
use Rattle.std.proofs.lemmas.Bool.{cases_lt}
use Rattle.pol_disk.specs.Content.{ContentState, Fits, IsImage, unsure, image_of, settled, torn_at, torn_past}
use Rattle.pol_disk.specs.Disk.{written, Torn, CutShort, Follows}

-- the bytes of an image that has these where nothing is sure
abbrev overlay : List (Option ℕ) → List ℕ → List ℕ
overlay sure filling = image_of (record { seen = []; sure = sure; least = 0 }) filling

length-unsure : (count : ℕ) → length (unsure count) ≡ count
length-unsure count = length-replicate count None

Fits-short : (sure : List (Option ℕ)) (image : List ℕ) → Fits sure image → length image ≤ length sure
Fits-short sure [] fits = omega arith
Fits-short [] (byte ∷ image) fits = absurd fits
Fits-short (None ∷ sure) (byte ∷ image) fits = omega (arith, Fits-short sure image fits)
Fits-short (Some known ∷ sure) (byte ∷ image) fits = omega (arith, Fits-short sure image fits.1)

Fits-overlay : (sure : List (Option ℕ)) (filling : List ℕ) → Fits sure (overlay sure filling)
Fits-overlay [] filling = tt
Fits-overlay (None ∷ sure) [] = tt
Fits-overlay (Some known ∷ sure) [] = tt
Fits-overlay (None ∷ sure) (byte ∷ filling) = Fits-overlay sure filling
Fits-overlay (Some known ∷ sure) (byte ∷ filling) = (refl, Fits-overlay sure filling)

length-overlay : (sure : List (Option ℕ)) (filling : List ℕ) → length (overlay sure filling) ≡ min (length sure) (length filling)
length-overlay [] filling = omega arith
length-overlay (known ∷ sure) [] = omega arith
length-overlay (known ∷ sure) (byte ∷ filling) = omega (arith, length-overlay sure filling)

-- the image of itself
overlay-same : (sure : List (Option ℕ)) (image : List ℕ) → Fits sure image → overlay sure image ≡ image
overlay-same [] [] fits = refl
overlay-same [] (byte ∷ image) fits = absurd fits
overlay-same (None ∷ sure) [] fits = refl
overlay-same (Some known ∷ sure) [] fits = refl
overlay-same (None ∷ sure) (byte ∷ image) fits = ap (λ (rest : List ℕ). byte ∷ rest) (overlay-same sure image fits)
overlay-same (Some known ∷ sure) (byte ∷ image) fits = λ i. fits.0 i ∷ overlay-same sure image fits.1 i

-- what is listed is an image
pub overlay_is_image : (content : ContentState) (filling : List ℕ) → content.least ≤ length filling → length filling ≤ length content.sure → IsImage content (image_of content filling)
overlay_is_image content filling enough within =
    inr (omega (arith, length-overlay content.sure filling), Fits-overlay content.sure filling)

Fits-settled : (bytes image : List ℕ) → length bytes ≤ length image → Fits (map Some bytes) image → image ≡ bytes
Fits-settled [] [] enough fits = refl
Fits-settled [] (byte ∷ image) enough fits = absurd fits
Fits-settled (known ∷ bytes) [] enough fits = absurd (omega arith)
Fits-settled (known ∷ bytes) (byte ∷ image) enough fits = λ i. sym fits.0 i ∷ Fits-settled bytes image (omega arith) fits.1 i

-- after a sync there is one image
pub settled_only : (bytes image : List ℕ) → IsImage (settled bytes) image → image ≡ bytes
settled_only bytes image (inl same) = same
settled_only bytes image (inr fits) = Fits-settled bytes image fits.0 fits.1

-- Writes

Torn-cons : (start end known byte : ℕ) (old new : List ℕ) → known ≡ byte → Torn start end old new → Torn (suc start) (suc end) (known ∷ old) (byte ∷ new)
Torn-cons start end known byte old new same torn = record {
  middle = torn.middle;
  around = λ i. sym same i ∷ torn.around i;
  no_shorter = omega (arith, torn.no_shorter);
  no_longer = omega (arith, torn.no_longer);
}

-- the first byte is one of those that were written
Torn-within : (end known byte : ℕ) (old new : List ℕ) → Torn zero end old new → Torn zero (suc end) (known ∷ old) (byte ∷ new)
Torn-within end known byte old new torn = record {
  middle = byte ∷ torn.middle;
  around = ap (λ (rest : List ℕ). byte ∷ rest) torn.around;
  no_shorter = omega (arith, torn.no_shorter);
  no_longer = omega (arith, torn.no_longer);
}

Torn-nil : (start end : ℕ) → Torn start end [] []
Torn-nil zero zero = record { middle = []; around = refl; no_shorter = omega arith; no_longer = omega arith }
Torn-nil zero (suc end) = record { middle = []; around = refl; no_shorter = omega arith; no_longer = omega arith }
Torn-nil (suc start) zero = record { middle = []; around = refl; no_shorter = omega arith; no_longer = omega arith }
Torn-nil (suc start) (suc end) = record { middle = []; around = refl; no_shorter = omega arith; no_longer = omega arith }

-- nothing was written yet
pub Torn-refl : (start end : ℕ) (image : List ℕ) → start ≤ end → Torn start end image image
Torn-refl start end [] within = Torn-nil start end
Torn-refl zero zero (byte ∷ image) within = record { middle = []; around = refl; no_shorter = omega arith; no_longer = omega arith }
Torn-refl zero (suc end) (byte ∷ image) within = Torn-within end byte byte image image (Torn-refl zero end image (omega arith))
Torn-refl (suc start) zero image within = absurd (omega arith)
Torn-refl (suc start) (suc end) (byte ∷ image) within = Torn-cons start end byte byte image image refl (Torn-refl start end image (omega arith))

past_end : (count : ℕ) (image : List ℕ) → Fits (unsure count ++ []) image → Torn zero count [] image
past_end count image fits = record {
  middle = image;
  around = sym (append-nil image) ∙ ap (λ (rest : List ℕ). image ++ rest) (sym (drop_all count [] (omega arith)));
  no_shorter = omega arith;
  no_longer = omega (arith, Fits-short (unsure count ++ []) image fits, length-append (unsure count) [], length-unsure count);
}

torn_front : (start count end : ℕ) (sure : List (Option ℕ)) (image : List ℕ) → end ≡ start + count → start ≤ length sure
    → Fits (take start sure ++ unsure count ++ drop end sure) image → Torn start end (overlay sure image) image
torn_front zero zero zero sure image ends within fits =
    subst (λ (before : List ℕ). Torn zero zero before image) (sym (overlay-same sure image fits)) (Torn-refl zero zero image (omega arith))
torn_front zero zero (suc end) sure image ends within fits = absurd (omega arith)
torn_front zero (suc count) zero sure image ends within fits = absurd (omega arith)
torn_front zero (suc count) (suc end) [] image ends within fits =
    let same : count ≡ end = omega arith in
    subst (λ (last : ℕ). Torn zero (suc last) [] image) same (past_end (suc count) image fits)
torn_front zero (suc count) (suc end) (known ∷ sure) [] ends within fits = Torn-nil zero (suc end)
torn_front zero (suc count) (suc end) (None ∷ sure) (byte ∷ image) ends within fits =
    Torn-within end byte byte (overlay sure image) image (torn_front zero count end sure image (omega arith) (omega arith) fits)
torn_front zero (suc count) (suc end) (Some known ∷ sure) (byte ∷ image) ends within fits =
    Torn-within end known byte (overlay sure image) image (torn_front zero count end sure image (omega arith) (omega arith) fits)
torn_front (suc start) count end [] image ends within fits = absurd (omega arith)
torn_front (suc start) count zero (known ∷ sure) image ends within fits = absurd (omega arith)
torn_front (suc start) count (suc end) (known ∷ sure) [] ends within fits = Torn-nil (suc start) (suc end)
torn_front (suc start) count (suc end) (None ∷ sure) (byte ∷ image) ends within fits =
    Torn-cons start end byte byte (overlay sure image) image refl (torn_front start count end sure image (omega arith) (omega arith) fits)
torn_front (suc start) count (suc end) (Some known ∷ sure) (byte ∷ image) ends within fits =
    Torn-cons start end known byte (overlay sure image) image fits.0 (torn_front start count end sure image (omega arith) (omega arith) fits.1)

pub length_written : (start : ℕ) (items old : List ℕ) → start ≤ length old → length (written start items old) ≡ max (length old) (start + length items)
length_written start items old within =
    let end = start + length items in
    let parts : length (written start items old) ≡ length (take start old) + length items + length (drop end old) =
    length-append (take start old ++ items) (drop end old) ∙ ap (λ (front : ℕ). front + length (drop end old)) (length-append (take start old) items) in
    omega (arith, parts, length-take start old, length-drop end old)

-- what a write that didn't reach the disk may leave
torn_after : (start count : ℕ) (old : ContentState) (seen : List ℕ) → start ≤ length old.sure → old.least ≤ length old.sure → Torn start (start + count) old.seen seen
    → Follows (Torn start (start + count)) (IsImage old) (IsImage (record (torn_at start count old) { seen = seen }))
torn_after start count old seen within least torn image (inl same) =
    (old.seen, inl refl, subst (λ (now : List ℕ). Torn start (start + count) old.seen now) (sym same) torn)
torn_after start count old seen within least torn image (inr fits) =
    let end = start + length (unsure count) in
    let ends : end ≡ start + count = omega (arith, length-unsure count) in
    let front = torn_front start count end old.sure image ends within fits.1 in
    let before = overlay old.sure image in (
      before,
      inr (omega (arith, length-overlay old.sure image, fits.0), Fits-overlay old.sure image),
      subst (λ (last : ℕ). Torn start last before image) ends front,
    )

pub torn_follows : (start count : ℕ) (old next : ContentState) → start ≤ length old.sure → old.least ≤ length old.sure → Torn start (start + count) old.seen next.seen
    → next ≡ record (torn_at start count old) { seen = next.seen } → Follows (Torn start (start + count)) (IsImage old) (IsImage next)
torn_follows start count old next within least torn is =
    subst (λ (after : ContentState). Follows (Torn start (start + count)) (IsImage old) (IsImage after)) (sym is) (torn_after start count old next.seen within least torn)

-- Cuts

pub CutShort-refl : (kept : ℕ) (image : List ℕ) → CutShort kept image image
CutShort-refl kept image = record { front = refl; no_longer = omega arith }

-- an image that is no longer than what a cut kept was one before
fits_before : (kept : ℕ) (sure rest : List (Option ℕ)) (image : List ℕ) → length image ≤ kept → length image ≤ length sure → Fits (take kept sure ++ rest) image → Fits sure image
fits_before kept sure rest [] short within fits = tt
fits_before zero sure rest (byte ∷ image) short within fits = absurd (omega arith)
fits_before (suc kept) [] rest (byte ∷ image) short within fits = absurd (omega arith)
fits_before (suc kept) (None ∷ sure) rest (byte ∷ image) short within fits = fits_before kept sure rest image (omega arith) (omega arith) fits
fits_before (suc kept) (Some known ∷ sure) rest (byte ∷ image) short within fits = (fits.0, fits_before kept sure rest image (omega arith) (omega arith) fits.1)

-- a longer one begins as one of before
cut_front : (kept : ℕ) (sure rest : List (Option ℕ)) (image more : List ℕ) → kept ≤ length image → kept ≤ length sure → Fits (take kept sure ++ rest) image
    → take kept image ≡ take kept (overlay sure (image ++ more))
cut_front zero sure rest image more long within fits = refl
cut_front (suc kept) [] rest image more long within fits = absurd (omega arith)
cut_front (suc kept) (known ∷ sure) rest [] more long within fits = absurd (omega arith)
cut_front (suc kept) (None ∷ sure) rest (byte ∷ image) more long within fits = ap (λ (tail : List ℕ). byte ∷ tail) (cut_front kept sure rest image more (omega arith) (omega arith) fits)
cut_front (suc kept) (Some known ∷ sure) rest (byte ∷ image) more long within fits = λ i. sym fits.0 i ∷ cut_front kept sure rest image more (omega arith) (omega arith) fits.1 i

length-zeros : (count : ℕ) → length (replicate {A = ℕ} count 0) ≡ count
length-zeros count = length-replicate {A = ℕ} count 0

module _ (kept : ℕ) (old : ContentState) (least : old.least ≤ length old.sure) (image : List ℕ)
    (enough : min kept old.least ≤ length image) (fits : Fits (torn_past kept old).sure image) where
  within : length image ≤ length old.sure
  within = omega (arith, Fits-short (torn_past kept old).sure image fits, length-append (take kept old.sure) (unsure (length old.sure - kept)), length-take kept old.sure, length-unsure (length old.sure - kept))

  cut_before : (length image < kept) ⊎ (kept ≤ length image) → (before : List ℕ) × IsImage old before × CutShort kept before image
  cut_before (inl short) = (
    image,
    inr (omega (arith, enough), fits_before kept old.sure (unsure (length old.sure - kept)) image (omega arith) within fits),
    CutShort-refl kept image,
  )
  cut_before (inr long) =
      let more : List ℕ = replicate {A = ℕ} old.least 0 in
      let before : List ℕ = overlay old.sure (image ++ more) in
      let size : length before ≡ min (length old.sure) (length image + old.least) = omega (arith, length-overlay old.sure (image ++ more), length-append image more, length-zeros old.least) in (
        before,
        inr (omega (arith, size, least), Fits-overlay old.sure (image ++ more)),
        record {
          front = cut_front kept old.sure (unsure (length old.sure - kept)) image more long (omega (arith, within)) fits;
          no_longer = omega (arith, size, within);
        },
      )

-- what a cut that didn't reach the disk may leave
cut_after : (kept : ℕ) (old : ContentState) (seen : List ℕ) → old.least ≤ length old.sure → CutShort kept old.seen seen
    → Follows (CutShort kept) (IsImage old) (IsImage (record (torn_past kept old) { seen = seen }))
cut_after kept old seen least short image (inl same) =
    (old.seen, inl refl, subst (λ (now : List ℕ). CutShort kept old.seen now) (sym same) short)
cut_after kept old seen least short image (inr fits) =
    cut_before kept old least image fits.0 fits.1 (cases_lt (length image) kept)

pub cut_follows : (kept : ℕ) (old next : ContentState) → old.least ≤ length old.sure → CutShort kept old.seen next.seen
    → next.sure ≡ (torn_past kept old).sure → next.least ≡ min kept old.least → Follows (CutShort kept) (IsImage old) (IsImage next)
cut_follows kept old next least short sures leasts image (inl same) = cut_after kept old next.seen least short image (inl same)
cut_follows kept old next least short sures leasts image (inr fits) =
    cut_after kept old next.seen least short image (inr (omega (arith, fits.0, leasts), subst (λ (sure : List (Option ℕ)). Fits sure image) sures fits.1))

-- a call that did nothing
pub torn_same : (start end : ℕ) (content : ContentState) → start ≤ end → Follows (Torn start end) (IsImage content) (IsImage content)
torn_same start end content within image is = (image, is, Torn-refl start end image within)
