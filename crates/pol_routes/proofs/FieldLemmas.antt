-- The fields of a form, one by one.
use Rattle.std.proofs.Common.{◌≡◌, ◌≢◌, codes, ℕ, ◌+◌, ◌<◌, Bool, true, false, ◌&&◌, cond, List, [], ◌∷◌, ◌++◌, map, filter, take, length, get_or, Some, None, refl, sym, ap, ◌∙◌, arith, append-nil, take_all}
use Rattle.std.specs.List.{list_all}
use Rattle.std.specs.Str.{is_utf8, bytes_eq}
use Rattle.std.specs.Prelude.{IsUtf8}
use Rattle.std.specs.Cmp.Lexicographic.{same_text}
use Rattle.std.proofs.lemmas.Str.{IsUtf8-from_is_utf8, is_utf8-from_IsUtf8}
use Rattle.std.proofs.lemmas.List.{get_or-map, take_more, map-append, length-map}
use Rattle.std.proofs.lemmas.List.Elements.{filter-append}
use Rattle.std.proofs.lemmas.List.Folds.{list_all_at, list_all_more}
use Rattle.form_urlencoded.specs.Form.{raw_pairs, decode, parse}
use Rattle.pol_routes.specs.declared.token_form.Fields.{Fields}
use Rattle.pol_routes.specs.Form.{text_of, is_text, is_named, values_of, seen}
use Rattle.pol_routes.specs.TokenForm.{fields_of, readable_fields}

-- the pair at i is the raw name and value
abbrev pub IsPairAt : List ℕ → ℕ → List ℕ → List ℕ → Type 0
IsPairAt body i name value = (i < length (raw_pairs body)) × ((name, value) ≡ get_or (raw_pairs body) i (name, value))

pub cond_none : (b : Bool) (bytes : List ℕ) → None ≡ cond b (Some bytes) None → b ≡ false
cond_none true bytes is = absurd (cc)
cond_none false bytes is = refl

pub cond_some : (b : Bool) (bytes text : List ℕ) → Some text ≡ cond b (Some bytes) None → (b ≡ true) × (text ≡ bytes)
cond_some true bytes text is = (refl, cc)
cond_some false bytes text is = absurd (cc)

and_false : (b : Bool) → (b && false) ≡ false
and_false true = refl
and_false false = refl

-- the field at i is that pair, decoded
pub field_at : (body : List ℕ) (i : ℕ) (name value : List ℕ) → IsPairAt body i name value
    → (i < length (parse body)) × (get_or (parse body) i (decode name, decode value) ≡ (decode name, decode value))
field_at body i name value (inside, is) =
    let decoded : List ℕ × List ℕ → List ℕ × List ℕ = λ pair. (decode pair.0, decode pair.1) in (
      omega (arith, length-map (raw_pairs body) decoded),
      get_or-map decoded (raw_pairs body) i (name, value) (decode name, decode value) inside ∙ ap decoded (sym is),
    )

unreadable : (form : List (List ℕ × List ℕ)) → list_all is_text form ≡ false → None ≡ readable_fields form
unreadable form is = ap (λ b. cond b (Some (fields_of form)) None) (sym is)

-- a name that isn't UTF-8 spoils the form
pub unreadable_name : (body : List ℕ) (i : ℕ) (name value : List ℕ) → IsPairAt body i name value
    → None ≡ text_of (decode name) → None ≡ readable_fields (parse body)
unreadable_name body i name value at none =
    let there = field_at body i name value at in
    let bad : is_text (decode name, decode value) ≡ false =
    ap (λ b. b && is_utf8 (decode value)) (cond_none (is_utf8 (decode name)) (decode name) none) in
    unreadable (parse body) (list_all_at is_text (parse body) i (decode name, decode value) there.0 (ap is_text there.1 ∙ bad))

-- and so does a value
pub unreadable_value : (body : List ℕ) (i : ℕ) (name value : List ℕ) → IsPairAt body i name value
    → None ≡ text_of (decode value) → None ≡ readable_fields (parse body)
unreadable_value body i name value at none =
    let there = field_at body i name value at in
    let bad : is_text (decode name, decode value) ≡ false =
    ap (λ b. is_utf8 (decode name) && b) (cond_none (is_utf8 (decode value)) (decode value) none) ∙ and_false (is_utf8 (decode name)) in
    unreadable (parse body) (list_all_at is_text (parse body) i (decode name, decode value) there.0 (ap is_text there.1 ∙ bad))

-- one more field that is UTF-8
pub field_more : (body : List ℕ) (i : ℕ) (name value name_text value_text : List ℕ) → IsPairAt body i name value
    → list_all is_text (take i (parse body)) ≡ true
    → Some name_text ≡ text_of (decode name) → Some value_text ≡ text_of (decode value)
    → (list_all is_text (take (i + 1) (parse body)) ≡ true)
    × (take (i + 1) (parse body) ≡ take i (parse body) ++ (name_text, value_text) ∷ [])
field_more body i name value name_text value_text at so_far name_is value_is =
    let there = field_at body i name value at in
    let named = cond_some (is_utf8 (decode name)) (decode name) name_text name_is in
    let valued = cond_some (is_utf8 (decode value)) (decode value) value_text value_is in
    let good : is_text (decode name, decode value) ≡ true = ap (λ b. b && is_utf8 (decode value)) named.0 ∙ valued.0 in
    let field : get_or (parse body) i (decode name, decode value) ≡ (name_text, value_text) =
    there.1 ∙ (λ k. (sym named.1 k, sym valued.1 k)) in (
      list_all_more is_text (parse body) i (decode name, decode value) there.0
          ∙ (λ k. so_far k && (ap is_text there.1 ∙ good) k),
      take_more (parse body) i (decode name, decode value) there.0 ∙ ap (λ field. take i (parse body) ++ field ∷ []) field,
    )

-- the fields that were read are all fields
pub readable : (body : List ℕ) (n : ℕ) (fields : Fields) → n ≡ length (raw_pairs body)
    → list_all is_text (take n (parse body)) ≡ true → fields ≡ fields_of (take n (parse body))
    → Some fields ≡ readable_fields (parse body)
readable body n fields all is same =
    let decoded : List ℕ × List ℕ → List ℕ × List ℕ = λ pair. (decode pair.0, decode pair.1) in
    let whole = take_all n (parse body) (omega (arith, length-map (raw_pairs body) decoded)) in
    ap Some (same ∙ ap fields_of whole)
    ∙ ap (λ b. cond b (Some (fields_of (parse body))) None) (sym (sym (ap (list_all is_text) whole) ∙ is))

pub values_of-append : (name : List ℕ) (fs gs : List (List ℕ × List ℕ)) → values_of name (fs ++ gs) ≡ values_of name fs ++ values_of name gs
values_of-append name fs gs =
    ap (map (λ field. field.1)) (filter-append (is_named name) fs gs)
    ∙ map-append (λ field. field.1) (filter (is_named name) fs) (filter (is_named name) gs)

-- a field of another name changes nothing of this one
pub values_of_other : (name : List ℕ) (form : List (List ℕ × List ℕ)) (field : List ℕ × List ℕ) → is_named name field ≡ false
    → values_of name (form ++ field ∷ []) ≡ values_of name form
values_of_other name form field other =
    values_of-append name form (field ∷ [])
    ∙ ap (λ b. values_of name form ++ map (λ f. f.1) (cond b (field ∷ []) [])) other ∙ append-nil (values_of name form)

-- a name is no other
other_name : (name key : List ℕ) → name ≢ key → (same : Bool) → same ≡ bytes_eq name key → bytes_eq name key ≡ false
other_name name key not true is = absurd (not (same_text name key is))
other_name name key not false is = sym is

-- a field of none of the four names changes nothing
pub fields_of_other : (form : List (List ℕ × List ℕ)) (name value : List ℕ) → name ≢ codes "grant_type"
    → name ≢ codes "client_id" → name ≢ codes "client_secret" → name ≢ codes "scope"
    → fields_of (form ++ (name, value) ∷ []) ≡ fields_of form
fields_of_other form name value no_type no_id no_secret no_scope =
    let kept : (key : List ℕ) → name ≢ key → values_of key (form ++ (name, value) ∷ []) ≡ values_of key form =
    λ key not. values_of_other key form (name, value) (other_name name key not (bytes_eq name key) refl) in
    λ k. record {
      grant_type = seen (kept (codes "grant_type") no_type k);
      client_id = seen (kept (codes "client_id") no_id k);
      client_secret = seen (kept (codes "client_secret") no_secret k);
      scope = seen (kept (codes "scope") no_scope k);
    }

-- bytes that are UTF-8, and bytes that are not
pub text_of_text : (bytes text : List ℕ) → text ≡ bytes → IsUtf8 text → Some text ≡ text_of bytes
text_of_text bytes text same is =
    ap (λ b. cond b (Some text) None) (sym (is_utf8-from_IsUtf8 text is)) ∙ ap text_of same

pub text_of_other : (bytes : List ℕ) → (IsUtf8 bytes → ⊥) → None ≡ text_of bytes
text_of_other bytes not = none (is_utf8 bytes) refl
  where
    none : (b : Bool) → is_utf8 bytes ≡ b → None ≡ cond b (Some bytes) None
    none true is = absurd (not (IsUtf8-from_is_utf8 bytes is))
    none false is = refl
