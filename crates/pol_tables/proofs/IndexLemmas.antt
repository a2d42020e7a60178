-- An index once an id is noted or forgotten.
use Rattle.std.proofs.Common.{◌≡◌, ℕ, Bool, true, false, not, cond, ◌&&◌, ◌||◌, List, [], ◌∷◌, ◌++◌, filter, Option, Some, None, nat_eq, refl, sym, ap, subst, ◌∙◌, inl, inr, true≢false}
use Rattle.std.specs.Coded.{Coded}
use Rattle.std.specs.List.{AllByRecursion, IsDistinct}
use Rattle.std.specs.Cmp.{nat_eq_equiv}
use Rattle.std.specs.Map.{keys_of, lookup, values_of}
use Rattle.std.proofs.lemmas.Bool.{and_from, and_parts, cases_Bool, eq-eqb, eqb-true}
use Rattle.pol_tables.specs.Facts.{holds, facts_without}
use Rattle.pol_tables.specs.Index.{entry_number, same_found, same_entry, StandByNumber}
use Rattle.pol_tables.specs.Same.{same}
use Rattle.pol_tables.specs.Table.{has_id, row_of, IdsDiffer}
use Rattle.pol_tables.specs.contracts.index.IndexEntry.{the_row}
use Rattle.pol_tables.specs.declared.index.IndexEntry.{IndexEntry}
use Rattle.pol_tables.proofs.ChangesLemmas.{holds-unknown}
use Rattle.pol_tables.proofs.FactChangesLemmas.{holds-facts_without, holds-pushed}
use Rattle.pol_tables.proofs.FirstsLemmas.{differ-firsts, firsts-alike, stand-alike}
use Rattle.pol_tables.proofs.ListLemmas.{and_false, or_false, or_swapped}
use Rattle.pol_tables.proofs.SameLemmas.{same-true, same-differ, same-exact, same-symmetric}
use Rattle.pol_tables.proofs.TableLemmas.{differ_head, differ_past, knows-lacks, lacks_past}

-- what holds of each fact of a list holds of one that the list has
pub each_at : {T : Type 0} (code : Coded T) (P : T → Type 0) (fact : T) (facts : List T) → AllByRecursion P facts → holds code fact facts ≡ true → P fact
each_at code P fact [] all held = absurd (true≢false (sym held))
each_at code P fact (first ∷ facts) all held = elim (cases_Bool (same code fact first)) [
  | inl is ↦ subst P (sym (same-true code fact first is)) all.0
  | inr other ↦ each_at code P fact facts all.1 (sym (ap (λ b. b || holds code fact facts) other) ∙ held)
]

-- where ids differ, a row that a list has is the row of its id
pub held_row : {R : Type 0} (code : Coded R) (key : R → ℕ) (row : R) (rows : List R) → IdsDiffer key rows → holds code row rows ≡ true → row_of key (key row) rows ≡ Some row
held_row code key row [] differ held = absurd (true≢false (sym held))
held_row code key row (first ∷ rows) differ held = elim (cases_Bool (same code row first)) [
  | inl is ↦
      let here = same-true code row first is in
      rw (eq-eqb (key row) (key first) (ap key here)) (ap Some (sym here))
  | inr other ↦
      let later = sym (ap (λ b. b || holds code row rows) other) ∙ held in
      let apart : has_id key (key first) row ≡ false = each_at code (λ kept. has_id key (key first) kept ≡ false) row rows (differ_head key first rows differ) later in
      rw (nat_eq_equiv.symm (key row) (key first) ∙ apart) (held_row code key row rows (differ_past key first rows differ) later)
]

-- two ids under numbers are the same where both numbers and both ids are
abbrev pub equal_note : IndexEntry → IndexEntry → Bool
equal_note left right = nat_eq left.number right.number && nat_eq left.id right.id

equal_exact : (left right : IndexEntry) → equal_note left right ≡ true → left ≡ right
equal_exact left right same_ =
    let both = and_parts (nat_eq left.number right.number) (nat_eq left.id right.id) same_ in
    λ i. record { number = eqb-true left.number right.number both.0 i; id = eqb-true left.id right.id both.1 i }

pub same_entry-is : (left right : IndexEntry) → equal_note left right ≡ same_entry left right
same_entry-is left right =
    ap (λ test. test left right) (same-exact the_row.coded equal_note equal_exact (λ noted. and_from (nat_eq noted.number noted.number) (nat_eq noted.id noted.id) (eq-eqb noted.number noted.number refl) (eq-eqb noted.id noted.id refl)))

-- the others without an id
pub others-without : (noted : IndexEntry) (others : List IndexEntry) → filter (λ other. not (equal_note noted other)) others ≡ facts_without the_row.coded noted others
unfolding facts_without
others-without noted others =
    ap (λ (test : IndexEntry → Bool). filter (λ other. not (test other)) others) (λ i other. same_entry-is noted other i)

pub same_entry-apart : (left right : IndexEntry) → (left.id ≡ right.id → ⊥) → same_entry left right ≡ false
same_entry-apart left right differ = same-differ the_row.coded left right (λ is. differ (ap (λ noted. noted.id) is))

-- ids of two numbers differ
same_entry-numbers : (left right : IndexEntry) → nat_eq left.number right.number ≡ false → same_entry left right ≡ false
same_entry-numbers left right apart =
    same-differ the_row.coded left right (λ is. true≢false (sym (eq-eqb left.number right.number (ap entry_number is)) ∙ apart))

abbrev held : IndexEntry → List IndexEntry → Bool
held noted list = holds the_row.coded noted list

both_without : (s a b : Bool) → ((not s && a) || (not s && b)) ≡ (not s && (a || b))
both_without true a b = refl
both_without false a b = refl

-- an id is held exactly where it is the first of its number
held-first : (noted : IndexEntry) (firsts : List IndexEntry) → IdsDiffer entry_number firsts → held noted firsts ≡ same_found noted (row_of entry_number noted.number firsts)
held-first noted [] differ = refl
held-first noted (first ∷ firsts) differ = elim (cases_Bool (has_id entry_number noted.number first)) [
  | inl here ↦
      let none = holds-unknown the_row.coded entry_number noted firsts (knows-lacks entry_number noted.number firsts (lacks_past entry_number noted.number first firsts differ here)) in
      rw here (ap (λ b. same_entry noted first || b) none ∙ or_false (same_entry noted first) ∙ same-symmetric the_row.coded noted first)
  | inr apart ↦
      rw apart (ap (λ b. b || held noted firsts) (same_entry-numbers noted first apart) ∙ held-first noted firsts (differ_past entry_number first firsts differ))
]

-- firsts that are found alike hold the same ids
held-alike : (firsts after : List IndexEntry) → IdsDiffer entry_number firsts → IdsDiffer entry_number after → ((number : ℕ) → row_of entry_number number after ≡ row_of entry_number number firsts) → (other : IndexEntry) → held other after ≡ held other firsts
held-alike firsts after differ differ_after alike other =
    held-first other after differ_after ∙ ap (same_found other) (alike other.number) ∙ sym (held-first other firsts differ)

-- an index whose map finds the same has noted the same
pub noted-alike : (entries after : List (ℕ × IndexEntry)) → StandByNumber entries → IsDistinct nat_eq (keys_of entries) → IsDistinct nat_eq (keys_of after)
    → ((number : ℕ) → lookup (nat_eq number) after ≡ lookup (nat_eq number) entries)
    → (others later : List IndexEntry) → later ≡ others
    → (other : IndexEntry) → (held other (values_of after) || held other later) ≡ (held other (values_of entries) || held other others)
noted-alike entries after stand unique unique_ alike others later same other =
    let differ_ = differ-firsts after (stand-alike entries stand unique after alike) unique_ in
    λ i. held-alike (values_of entries) (values_of after) (differ-firsts entries stand unique) differ_ (firsts-alike entries stand unique after alike unique_) other i || held other (same i)

module _ (noted : IndexEntry) (firsts after others : List IndexEntry) (differ : IdsDiffer entry_number firsts) (differ_after : IdsDiffer entry_number after) where
  -- what is the first of a number once that of the noted id's is another, or none
  abbrev Puts : Option IndexEntry → Type 0
  Puts put = (number : ℕ) → row_of entry_number number after ≡ cond (nat_eq noted.number number) put (row_of entry_number number firsts)

  held-after : (put : Option IndexEntry) → Puts put → (other : IndexEntry) → held other after ≡ same_found other (cond (nat_eq noted.number other.number) put (row_of entry_number other.number firsts))
  held-after put puts other = held-first other after differ_after ∙ ap (same_found other) (puts other.number)

  -- where no first has the number, the noted id becomes it
  first_put : row_of entry_number noted.number firsts ≡ None → Puts (Some noted) → (other : IndexEntry) → held other after ≡ (same_entry other noted || held other firsts)
  first_put none puts other = held-after (Some noted) puts other ∙ elim (cases_Bool (nat_eq noted.number other.number)) [
    | inl here ↦
        let gone = held-first other firsts differ ∙ ap (λ number. same_found other (row_of entry_number number firsts)) (sym (eqb-true noted.number other.number here)) ∙ ap (same_found other) none in
        rw here (same-symmetric the_row.coded noted other ∙ sym (ap (λ b. same_entry other noted || b) gone ∙ or_false (same_entry other noted)))
    | inr apart ↦
        rw apart (sym (held-first other firsts differ) ∙ sym (ap (λ b. b || held other firsts) (same-symmetric the_row.coded other noted ∙ same_entry-numbers noted other apart)))
  ]

  pub noted-first : row_of entry_number noted.number firsts ≡ None → Puts (Some noted) → (other : IndexEntry) → (held other after || held other others) ≡ (same_entry other noted || (held other firsts || held other others))
  noted-first none puts other =
      ap (λ b. b || held other others) (first_put none puts other)
      ∙ or_grouped (same_entry other noted) (held other firsts) (held other others)
    where
      or_grouped : (a b c : Bool) → ((a || b) || c) ≡ (a || (b || c))
      or_grouped true b c = refl
      or_grouped false b c = refl

  -- the noted id is taken away as the first of its number
  first_taken : same_found noted (row_of entry_number noted.number firsts) ≡ true → Puts None → (other : IndexEntry) → held other after ≡ (not (same_entry other noted) && held other firsts)
  first_taken found puts other = held-after None puts other ∙ elim (cases_Bool (nat_eq noted.number other.number)) [
    | inl here ↦ rw here (sym (elim (cases_Bool (same_entry other noted)) [
      | inl is ↦ ap (λ b. not b && held other firsts) is
      | inr differs ↦ elim (cases_Bool (held other firsts)) [
        | inl there ↦
            let first = held_row the_row.coded entry_number other firsts differ there in
            let same_ : same_entry other noted ≡ true = sym (ap (same_found noted) first) ∙ ap (λ number. same_found noted (row_of entry_number number firsts)) (sym (eqb-true noted.number other.number here)) ∙ found in
            absurd (true≢false (sym same_ ∙ differs))
        | inr gone ↦ ap (λ b. not (same_entry other noted) && b) gone ∙ and_false (not (same_entry other noted))
      ]
    ]))
    | inr apart ↦
        rw apart (sym (held-first other firsts differ) ∙ sym (ap (λ b. not b && held other firsts) (same-symmetric the_row.coded other noted ∙ same_entry-numbers noted other apart)))
  ]

  pub forgotten-first : same_found noted (row_of entry_number noted.number firsts) ≡ true → Puts None → (other : IndexEntry) → (held other after || held other (facts_without the_row.coded noted others)) ≡ (not (same_entry other noted) && (held other firsts || held other others))
  forgotten-first found puts other =
      (λ i. first_taken found puts other i || holds-facts_without the_row.coded other noted others i)
      ∙ both_without (same_entry other noted) (held other firsts) (held other others)

module _ (noted : IndexEntry) (firsts others : List IndexEntry) where
  pub noted-other : (other : IndexEntry) → (held other firsts || held other (others ++ noted ∷ [])) ≡ (same_entry other noted || (held other firsts || held other others))
  noted-other other =
      ap (λ b. held other firsts || b) (holds-pushed the_row.coded other noted others)
      ∙ or_swapped (held other firsts) (same_entry other noted) (held other others)

  module _ (differ : IdsDiffer entry_number firsts) (unfound : same_found noted (row_of entry_number noted.number firsts) ≡ false) where
    -- no first is forgotten
    first_stays : (other : IndexEntry) → held other firsts ≡ (not (same_entry other noted) && held other firsts)
    first_stays other = elim (cases_Bool (same_entry other noted)) [
      | inl is ↦ rw is (ap (λ kept. held kept firsts) (same-true the_row.coded other noted is) ∙ held-first noted firsts differ ∙ unfound)
      | inr apart ↦ rw apart refl
    ]

    pub forgotten-other : (other : IndexEntry) → (held other firsts || held other (facts_without the_row.coded noted others)) ≡ (not (same_entry other noted) && (held other firsts || held other others))
    forgotten-other other =
        (λ i. first_stays other i || holds-facts_without the_row.coded other noted others i)
        ∙ both_without (same_entry other noted) (held other firsts) (held other others)
