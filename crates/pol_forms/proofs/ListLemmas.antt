-- Lists that are read and written member by member.
use Rattle.std.proofs.Common.{◌≡◌, ℕ, suc, ◌+◌, ◌-◌, ◌<◌, ◌≤◌, List, [], ◌∷◌, ◌++◌, Some, None, refl, sym, ap, ◌∙◌, append_assoc, append-nil, arith}
use Rattle.std.specs.List.{AllByRecursion}
use Rattle.pol_forms.specs.Reading.{Reading, and_then, ◌>>=◌, Fails, done, times}
use Rattle.pol_forms.specs.declared.refused.CodecRefused.{CodecRefused}
use Rattle.pol_forms.specs.declared.refused.CodecRefused.TheVariants.{NoForm, OutOfMemory}

module _ {A : Type 0} where
  -- what was read so far, and what is read behind it
  abbrev pub with_front : List A → Reading (List A) → Reading (List A)
  with_front front reading = and_then reading (λ values. done (front ++ values))

  regrouped : (front : List A) (value : A) (others : Reading (List A))
      → with_front front (and_then others (λ values. done (value ∷ values))) ≡ with_front (front ++ value ∷ []) others
  regrouped front value (Some read) = ap (λ (values : List A). done values read.1) (sym (append_assoc front (value ∷ []) read.0))
  regrouped front value None = refl

  module _ (read : List ℕ → Reading A) where
    first_of : (count i : ℕ) (bytes : List ℕ) → i < count
        → times read (count - i) bytes ≡ and_then (read bytes) (λ value. times read (count - (i + 1)) >>= (λ values. done (value ∷ values)))
    first_of count i bytes more =
        let next : count - i ≡ suc (count - (i + 1)) = omega arith in
        ap (λ (n : ℕ). times read n bytes) next

    pub goes_on : (front : List A) (count i : ℕ) (bytes : List ℕ) (value : A) (rest : List ℕ) (total : Reading (List A)) → i < count → read bytes ≡ Some (value, rest)
        → with_front front (times read (count - i) bytes) ≡ total → with_front (front ++ value ∷ []) (times read (count - (i + 1)) rest) ≡ total
    goes_on front count i bytes value rest total more is so_far =
        sym (regrouped front value (times read (count - (i + 1)) rest))
        ∙ sym (ap (λ (reading : Reading A). with_front front (and_then reading (λ v. times read (count - (i + 1)) >>= (λ values. done (v ∷ values))))) is)
        ∙ sym (ap (with_front front) (first_of count i bytes more))
        ∙ so_far

    pub ends : (why : CodecRefused) (front : List A) (count i : ℕ) (bytes : List ℕ) (total : Reading (List A)) → i < count → Fails why (read bytes)
        → with_front front (times read (count - i) bytes) ≡ total → Fails why total
    ends NoForm front count i bytes total more none so_far =
        sym so_far
        ∙ ap (with_front front) (first_of count i bytes more)
        ∙ ap (λ (reading : Reading A). with_front front (and_then reading (λ v. times read (count - (i + 1)) >>= (λ values. done (v ∷ values))))) none
    ends OutOfMemory front count i bytes total more none so_far = tt

    pub is_done : (front : List A) (count i : ℕ) (bytes : List ℕ) (total : Reading (List A)) → count ≤ i → with_front front (times read (count - i) bytes) ≡ total → total ≡ Some (front, bytes)
    is_done front count i bytes total past so_far =
        let none : count - i ≡ 0 = omega arith in
        sym so_far
        ∙ ap (λ (n : ℕ). with_front front (times read n bytes)) none
        ∙ ap (λ (values : List A). done values bytes) (append-nil front)

  -- one more member was written
  pub each_more : (P : A → Type 0) (values : List A) (value : A) → AllByRecursion P values → P value → AllByRecursion P (values ++ value ∷ [])
  each_more P [] value each one = (one, tt)
  each_more P (first ∷ values) value each one = (each.0, each_more P values value each.1 one)
