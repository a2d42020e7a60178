-- The last value of a key, pair by pair.
use Rattle.std.proofs.Common.{◌≡◌, ℕ, ◌+◌, Bool, true, false, cond, List, [], ◌∷◌, ◌++◌, map, take, length, Option, Some, None, refl, sym, ap, ◌∙◌, append-nil, take_all, arith}
use Rattle.std.specs.List.{last_or}
use Rattle.std.specs.Str.{bytes_eq}
use Rattle.std.proofs.lemmas.List.{take_more, length-map}
use Rattle.form_urlencoded.specs.Form.{raw_pairs, decode, parse}
use Rattle.pol_routes.specs.Form.{is_named, values_of}
use Rattle.pol_routes.proofs.FieldLemmas.{IsPairAt, field_at, values_of-append}

last_or-push : (o : Option (List ℕ)) (xs : List (List ℕ)) (x : List ℕ) → last_or o (xs ++ x ∷ []) ≡ Some x
last_or-push o [] x = refl
last_or-push o (y ∷ ys) x = last_or-push (Some y) ys x

-- the last value behind one more field
abbrev pub last_of : List ℕ → List (List ℕ × List ℕ) → Option (List ℕ)
last_of key form = last_or None (values_of key form)

-- the values of a key behind one more field
with_field : (key : List ℕ) (form : List (List ℕ × List ℕ)) (field : List ℕ × List ℕ) (same : Bool) → is_named key field ≡ same
    → values_of key (form ++ field ∷ []) ≡ values_of key form ++ map (λ f. f.1) (cond same (field ∷ []) [])
with_field key form field same named =
    values_of-append key form (field ∷ []) ∙ ap (λ b. values_of key form ++ map (λ (f : List ℕ × List ℕ). f.1) (cond b (field ∷ []) [])) named

last_more : (key : List ℕ) (form : List (List ℕ × List ℕ)) (field : List ℕ × List ℕ) (same : Bool) → is_named key field ≡ same
    → last_of key (form ++ field ∷ []) ≡ cond same (Some field.1) (last_of key form)
last_more key form field true named =
    ap (last_or None) (with_field key form field true named) ∙ last_or-push None (values_of key form) field.1
last_more key form field false named =
    ap (last_or None) (with_field key form field false named ∙ append-nil (values_of key form))

-- the value at i is the last one where it is the key's, and else the last one stays
pub value_more : (key query : List ℕ) (i : ℕ) (name value : List ℕ) (last : Option (List ℕ)) (same : Bool) → IsPairAt query i name value
    → same ≡ bytes_eq (decode name) key → last ≡ last_of key (take i (parse query))
    → cond same (Some (decode value)) last ≡ last_of key (take (i + 1) (parse query))
value_more key query i name value last same at named so_far =
    let there = field_at query i name value at in
    ap (cond same (Some (decode value))) so_far
    ∙ sym (last_more key (take i (parse query)) (decode name, decode value) same (sym named))
    ∙ ap (last_of key) (sym (take_more (parse query) i (decode name, decode value) there.0 ∙ ap (λ field. take i (parse query) ++ field ∷ []) there.1))

-- all pairs were read
pub value_last : (key query : List ℕ) (n : ℕ) (last : Option (List ℕ)) → n ≡ length (raw_pairs query)
    → last ≡ last_of key (take n (parse query)) → last ≡ last_of key (parse query)
value_last key query n last all is =
    let decoded : List ℕ × List ℕ → List ℕ × List ℕ = λ pair. (decode pair.0, decode pair.1) in
    is ∙ ap (last_of key) (take_all n (parse query) (omega (arith, length-map (raw_pairs query) decoded)))
