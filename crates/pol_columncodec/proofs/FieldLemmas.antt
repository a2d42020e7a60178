-- Fields that are read one after another, each with the columns in it.
use Rattle.std.proofs.Common.{◌≡◌, ℕ, suc, ◌+◌, ◌-◌, ◌<◌, List, ◌∷◌, ◌++◌, Some, None, refl, sym, ap, ◌∙◌, append_assoc, arith}
use Rattle.pol_forms.specs.Reading.{Reading, and_then, ◌>>=◌, done, times}
use Rattle.pol_meta.specs.declared.column.Column.{Column}
use Rattle.pol_columnforms.specs.Columns.{joined}

-- what was read so far, and what is read behind it
abbrev pub with_front : List Column → Reading (List (List Column)) → Reading (List Column)
with_front front reading = and_then reading (λ chunks. done (front ++ joined chunks))

regrouped : (front value : List Column) (others : Reading (List (List Column)))
    → with_front front (and_then others (λ values. done (value ∷ values))) ≡ with_front (front ++ value) others
regrouped front value (Some read) = ap (λ (columns : List Column). done columns read.1) (sym (append_assoc front value (joined read.0)))
regrouped front value None = refl

module _ (read : List ℕ → Reading (List Column)) where
  first_of : (count i : ℕ) (bytes : List ℕ) → i < count
      → times read (count - i) bytes ≡ and_then (read bytes) (λ value. times read (count - (i + 1)) >>= (λ values. done (value ∷ values)))
  first_of count i bytes more =
      let next : count - i ≡ suc (count - (i + 1)) = omega arith in
      ap (λ (n : ℕ). times read n bytes) next

  pub goes_on : (front : List Column) (count i : ℕ) (bytes : List ℕ) (value : List Column) (rest : List ℕ) (total : Reading (List Column)) → i < count
      → read bytes ≡ Some (value, rest) → with_front front (times read (count - i) bytes) ≡ total
      → with_front (front ++ value) (times read (count - (i + 1)) rest) ≡ total
  goes_on front count i bytes value rest total more is so_far =
      sym (regrouped front value (times read (count - (i + 1)) rest))
      ∙ sym (ap (λ (reading : Reading (List Column)). with_front front (and_then reading (λ v. times read (count - (i + 1)) >>= (λ values. done (v ∷ values))))) is)
      ∙ sym (ap (with_front front) (first_of count i bytes more))
      ∙ so_far
