-- Fields of a partition spec: their sources, and two with one id or one name.
use Rattle.std.proofs.Common.{◌≡◌, ◌<◌, ◌+◌, ℕ, zero, suc, Bool, true, false, ◌||◌, List, [], ◌∷◌, ◌++◌, Option, None, Some, length, take, get_or, not, nat_eq, if◌then◌else◌, refl, sym, ap, ◌∙◌, subst, arith}
use Rattle.std.specs.List.{list_all, list_any}
use Rattle.std.proofs.lemmas.List.{take_more}
use Rattle.std.proofs.lemmas.List.Folds.{list_any-append, list_any_more}
use Rattle.pol_meta.specs.Columns.{has_column}
use Rattle.pol_meta.specs.Creation.{is_same_field, is_same_given, is_same_id, is_same_name, stands_twice}
use Rattle.pol_meta.specs.declared.column.Column.{Column}
use Rattle.pol_meta.specs.declared.partition.UnboundField.{UnboundField}
use Rattle.pol_meta.specs.declared.sort.SortField.{SortField}

-- sources are columns where they are among the columns' ids
pub partition_sources : (ids : List ℕ) (columns : List Column) (fields : List UnboundField)
    → ((id : ℕ) → list_any (nat_eq id) ids ≡ has_column columns id)
    → list_all (λ field. list_any (nat_eq field.source_id) ids) fields
    ≡ list_all (λ field. has_column columns field.source_id) fields
partition_sources ids columns [] same = refl
partition_sources ids columns (field ∷ fields) same =
    rw (same field.source_id, partition_sources ids columns fields same) refl

pub sort_sources : (ids : List ℕ) (columns : List Column) (fields : List SortField)
    → ((id : ℕ) → list_any (nat_eq id) ids ≡ has_column columns id)
    → list_all (λ field. list_any (nat_eq field.source_id) ids) fields
    ≡ list_all (λ field. has_column columns field.source_id) fields
sort_sources ids columns [] same = refl
sort_sources ids columns (field ∷ fields) same =
    rw (same field.source_id, sort_sources ids columns fields same) refl

-- of two tests, one passes
or_true : (b : Bool) → (b || true) ≡ true
or_true true = refl
or_true false = refl

neither : (a b : Bool) → (a || b) ≡ false → (a ≡ false) × (b ≡ false)
neither false b is = (refl, is)
neither true b is = absurd (cc)

-- an item that is as one before it stands twice
any_at : {A : Type 0} (test : A → Bool) (xs : List A) (i : ℕ) (x : A) → i < length xs → x ≡ get_or xs i x
    → test x ≡ true → list_any test xs ≡ true
any_at test [] i x within is passes = absurd (omega arith)
any_at test (y ∷ ys) zero x within is passes =
    let here : test y ≡ true = subst (λ z. test z ≡ true) is passes in
    rw here refl
any_at test (y ∷ ys) (suc i) x within is passes =
    rw (any_at test ys i x (omega arith) is passes) (or_true (test y))

found_at : {A : Type 0} (same : A → A → Bool) (y x : A) (ys : List A) (i : ℕ) (here : Bool) → same y x ≡ here
    → i < length ys → x ≡ get_or ys i x
    → (list_any (λ z. same z x) (take i ys) ≡ true → stands_twice same ys ≡ true)
    → (here || list_any (λ z. same z x) (take i ys)) ≡ true → stands_twice same (y ∷ ys) ≡ true
found_at same y x ys i true told within is later found = rw (any_at (same y) ys i x within is told) refl
found_at same y x ys i false told within is later found = rw (later found) (or_true (list_any (same y) ys))

pub twice_found : {A : Type 0} (same : A → A → Bool) (xs : List A) (i : ℕ) (x : A) → i < length xs
    → x ≡ get_or xs i x → list_any (λ y. same y x) (take i xs) ≡ true → stands_twice same xs ≡ true
twice_found same [] i x within is found = absurd (omega arith)
twice_found same (y ∷ ys) zero x within is found = absurd (cc)
twice_found same (y ∷ ys) (suc i) x within is found =
    found_at same y x ys i (same y x) refl (omega arith) is (twice_found same ys i x (omega arith) is) found

-- one that is as none before it doesn't
once_push : {A : Type 0} (same : A → A → Bool) (xs : List A) (x : A) → stands_twice same xs ≡ false
    → list_any (λ y. same y x) xs ≡ false → stands_twice same (xs ++ x ∷ []) ≡ false
once_push same [] x once new = refl
once_push same (y ∷ ys) x once new =
    let before = neither (list_any (same y) ys) (stands_twice same ys) once in
    let others = neither (same y x) (list_any (λ z. same z x) ys) new in
    rw (list_any-append (same y) ys (x ∷ []), before.0, others.0, once_push same ys x before.1 others.1) refl

pub once_more : {A : Type 0} (same : A → A → Bool) (xs : List A) (i : ℕ) (x : A) → i < length xs
    → x ≡ get_or xs i x → stands_twice same (take i xs) ≡ false → list_any (λ y. same y x) (take i xs) ≡ false
    → stands_twice same (take (i + 1) xs) ≡ false
once_more same xs i x within is once new =
    rw (take_more xs i x within)
    (subst (λ z. stands_twice same (take i xs ++ z ∷ []) ≡ false) is (once_push same (take i xs) x once new))

-- a field without an id has the id of no other
unlike : (given : Option ℕ) → is_same_id given None ≡ false
unlike None = refl
unlike (Some id) = refl

pub none_given : (fields : List UnboundField) → list_any (λ field. is_same_id field.field_id None) fields ≡ false
none_given [] = refl
none_given (field ∷ fields) = rw (unlike field.field_id, none_given fields) refl

-- one more of which a set tells whether it is there
if_or : (b old : Bool) → (if b then true else old) ≡ (old || b)
if_or true old = sym (or_true old)
if_or false true = refl
if_or false false = refl

pub told_more : {A : Type 0} (p : A → Bool) (xs : List A) (i : ℕ) (x : A) (b old new : Bool) → i < length xs
    → x ≡ get_or xs i x → p x ≡ b → old ≡ list_any p (take i xs) → new ≡ (if b then true else old)
    → new ≡ list_any p (take (i + 1) xs)
told_more p xs i x b old new within is here told made =
    made ∙ if_or b old ∙ ap (λ c. old || c) (sym here ∙ ap p is) ∙ ap (λ c. c || p (get_or xs i x)) told
    ∙ sym (list_any_more p xs i x within)

pub was_there : (b added : Bool) → added ≡ not b → added ≡ false → b ≡ true
was_there true added told is = refl
was_there false added told is = absurd (cc)

pub was_new : (b added : Bool) → added ≡ not b → added ≡ true → b ≡ false
was_new true added told is = absurd (cc)
was_new false added told is = refl

-- two fields have one id or one name
either : (first second ids names : Bool) → ((first || second) || (ids || names)) ≡ ((first || ids) || (second || names))
either true second ids names = refl
either false true true names = refl
either false true false names = refl
either false false ids names = refl

any_either : {A : Type 0} (p q : A → Bool) (xs : List A)
    → list_any (λ x. p x || q x) xs ≡ (list_any p xs || list_any q xs)
any_either p q [] = refl
any_either p q (x ∷ xs) = rw (any_either p q xs) (either (p x) (q x) (list_any p xs) (list_any q xs))

pub twice_either : (fields : List UnboundField)
    → stands_twice is_same_field fields ≡ (stands_twice is_same_given fields || stands_twice is_same_name fields)
twice_either [] = refl
twice_either (field ∷ fields) =
    rw (any_either (is_same_given field) (is_same_name field) fields, twice_either fields)
    (either (list_any (is_same_given field) fields) (list_any (is_same_name field) fields)
    (stands_twice is_same_given fields) (stands_twice is_same_name fields))
