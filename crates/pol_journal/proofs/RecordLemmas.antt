-- What a journal's writes leave of a disk that stands for bodies.
use Rattle.std.proofs.Common.{◌≡◌, inl, Option, Some, None, IsSome, IfSome, ℕ, ◌+◌, List, [], ◌∷◌, ◌++◌, length, refl, sym, ◌∙◌, subst, arith}
use Rattle.pol_disk.specs.Disk.{IsDurable, LeavesOnly, Told, Torn, written}
use Rattle.pol_journal.specs.Crash.{KeepsFront, LeavesAfter}
use Rattle.pol_journal.specs.Format.{framed, extent, StandsFor, IsStaged, IsBeforeOrAfter}
use Rattle.pol_journal.specs.Journal.{Stands, Hangs}
use Rattle.pol_journal.specs.declared.kind.Kind.{Kind}
use Rattle.pol_journal.specs.declared.stage.Reached.TheVariants.{Body, Gate}
use Rattle.pol_journal.proofs.FormatLemmas.{extent-push, stands_kept, stands_staged, staged_torn, staged_shut, staged_opened, staged_either}
use Rattle.pol_journal.proofs.Moments.{leaves_only, and_then}
use Rattle.pol_journal.proofs.Steps.{told_at}

some_of : {A : Type 0} (o : Option A) → IsSome o → (x : A) × (o ≡ Some x)
some_of None is = absurd (cc)
some_of (Some x) is = (x, refl)

pub still_told : {A : Type 0} (R : A → A → Type 0) (a b : Option A) → IsSome a → Told R a b → IsSome b
still_told R a b is told =
    let x = some_of a is in
    let y = told_at R a b x.0 x.1 told in
    subst (λ o. IsSome o) (sym y.1) refl

-- after a write whose sync succeeded each image is what was written over an image of before
pub written_image : (Q : List ℕ → Type 0) (at : ℕ) (items : List ℕ) (before after : Option (List ℕ)) (old new : List ℕ → Type 0)
    → IsSome before → IfSome before old → Told (λ x y. y ≡ written at items x) before after → IsDurable after new
    → ((x : List ℕ) → old x → Q (written at items x)) → (image : List ℕ) → new image → Q image
written_image Q at items before after old new is reads wrote durable holds image left =
    let x = some_of before is in
    let y = told_at (λ x y. y ≡ written at items x) before after x.0 x.1 wrote in
    let was : old x.0 = subst (λ o. IfSome o old) x.1 reads in
    let only : image ≡ y.0 = subst (λ o. IsDurable o new) y.1 durable image left in
    subst Q (sym (only ∙ y.2)) (holds x.0 was)

module _ {D : Type 0} (clock : D → ℕ) (left_since : D → ℕ → List ℕ → Type 0) (may_leave : D → List ℕ → Type 0) (seen : D → Option (List ℕ))
    (kind : Kind) (bodies : List (List ℕ)) (body : List ℕ) (gate : ℕ) where
  -- each image has the body behind a gate of any kind
  abbrev AllStaged : D → Type 0
  AllStaged disk = (image : List ℕ) → may_leave disk image → IsStaged kind bodies body image

  abbrev At : D → Type 0
  At disk = Stands kind bodies gate (seen disk) (may_leave disk)

  -- the writes behind the gate
  pub body_moments : (old new : D) → At old → LeavesAfter clock left_since may_leave (KeepsFront (gate + 1)) old new
      → LeavesOnly clock left_since old new (IsBeforeOrAfter kind bodies body)
  body_moments old new stands run =
      leaves_only clock left_since may_leave (KeepsFront (gate + 1)) (IsBeforeOrAfter kind bodies body) old new
      (λ before image left keeps. inl (stands_kept kind bodies gate stands.place before image (stands.images before left) keeps)) run

  pub body_hangs : (R : List ℕ → List ℕ → Type 0) (old new : D) → At old → Told R (seen old) (seen new)
      → LeavesAfter clock left_since may_leave (KeepsFront (gate + 1)) old new → Hangs Body kind bodies body gate (seen new) (may_leave new)
  body_hangs R old new stands told run = record {
    told = still_told R (seen old) (seen new) stands.told told;
    place = stands.place;
    left = kept;
    images = λ image left. inl (kept image left);
  }
    where
      kept : (image : List ℕ) → may_leave new image → StandsFor kind bodies image
      kept image left =
          let from = run.now image left in
          stands_kept kind bodies gate stands.place from.0 image (stands.images from.0 from.1) from.2

  pub body_staged : (old new : D) → IfSome (seen old) (may_leave old) → At old
      → Told (λ x y. y ≡ written (gate + 1) (framed body ++ 0 ∷ []) x) (seen old) (seen new) → IsDurable (seen new) (may_leave new) → AllStaged new
  body_staged old new reads stands wrote durable =
      written_image (IsStaged kind bodies body) (gate + 1) (framed body ++ 0 ∷ []) (seen old) (seen new) (may_leave old) (may_leave new)
      stands.told reads wrote durable (λ x was. stands_staged kind bodies gate stands.place body x (stands.images x was))

  -- a write over the gate
  pub gate_staged : (old new : D) → gate + 1 ≡ extent bodies → AllStaged old → LeavesAfter clock left_since may_leave (Torn gate (gate + 1)) old new → AllStaged new
  gate_staged old new place staged run image left =
      let from = run.now image left in
      staged_torn kind bodies gate place body from.0 image (staged from.0 from.1) from.2

  pub gate_moments : (old new : D) → gate + 1 ≡ extent bodies → AllStaged old → LeavesAfter clock left_since may_leave (Torn gate (gate + 1)) old new
      → LeavesOnly clock left_since old new (IsBeforeOrAfter kind bodies body)
  gate_moments old new place staged run =
      leaves_only clock left_since may_leave (Torn gate (gate + 1)) (IsBeforeOrAfter kind bodies body) old new
      (λ before image left torn. staged_either kind bodies body image (staged_torn kind bodies gate place body before image (staged before left) torn)) run

  pub gate_hangs : (R : List ℕ → List ℕ → Type 0) (old new : D) → gate + 1 ≡ extent bodies → IsSome (seen old) → AllStaged old → Told R (seen old) (seen new)
      → LeavesAfter clock left_since may_leave (Torn gate (gate + 1)) old new → Hangs Gate kind bodies body gate (seen new) (may_leave new)
  gate_hangs R old new place is staged told run = record {
    told = still_told R (seen old) (seen new) is told;
    place = place;
    left = gate_staged old new place staged run;
    images = λ image left. staged_either kind bodies body image (gate_staged old new place staged run image left);
  }

  pub gate_opened : (old new : D) → gate + 1 ≡ extent bodies → IsSome (seen old) → IfSome (seen old) (may_leave old) → AllStaged old
      → Told (λ x y. y ≡ written gate (1 ∷ []) x) (seen old) (seen new) → IsDurable (seen new) (may_leave new)
      → Stands kind (bodies ++ body ∷ []) (gate + 9 + length body) (seen new) (may_leave new)
  gate_opened old new place is reads staged wrote durable = record {
    told = still_told _ (seen old) (seen new) is wrote;
    place = omega (arith, place, extent-push bodies body);
    images = written_image (StandsFor kind (bodies ++ body ∷ [])) gate (1 ∷ []) (seen old) (seen new) (may_leave old) (may_leave new)
        is reads wrote durable (λ x was. staged_opened kind bodies gate place body x (staged x was));
  }

  pub gate_shut : (old new : D) → gate + 1 ≡ extent bodies → IsSome (seen old) → IfSome (seen old) (may_leave old) → AllStaged old
      → Told (λ x y. y ≡ written gate (0 ∷ []) x) (seen old) (seen new) → IsDurable (seen new) (may_leave new) → At new
  gate_shut old new place is reads staged wrote durable = record {
    told = still_told _ (seen old) (seen new) is wrote;
    place = place;
    images = written_image (StandsFor kind bodies) gate (0 ∷ []) (seen old) (seen new) (may_leave old) (may_leave new)
        is reads wrote durable (λ x was. staged_shut kind bodies gate place body x (staged x was));
  }

  pub both_moments : (old mid new : D) → IfSome (seen old) (may_leave old) → At old → LeavesAfter clock left_since may_leave (KeepsFront (gate + 1)) old mid
      → Told (λ x y. y ≡ written (gate + 1) (framed body ++ 0 ∷ []) x) (seen old) (seen mid) → IsDurable (seen mid) (may_leave mid)
      → LeavesAfter clock left_since may_leave (Torn gate (gate + 1)) mid new → LeavesOnly clock left_since old new (IsBeforeOrAfter kind bodies body)
  both_moments old mid new reads stands first wrote durable second =
      and_then clock left_since may_leave (IsBeforeOrAfter kind bodies body) old mid new (body_moments old mid stands first)
      (gate_moments mid new stands.place (body_staged old mid reads stands wrote durable) second)
