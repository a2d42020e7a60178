-- No answer's JSON has a float.
use Rattle.std.proofs.Common.{◌≡◌, ◌≢◌, ℕ, ◌+◌, ◌<◌, Bool, true, false, ◌||◌, List, [], ◌∷◌, ◌++◌, length, get_or, take, drop, map, filter, codes, append-nil, take-append-drop, Ordering, Less, Equal, Greater, Result, IfOk, refl, sym, ap, ◌∙◌}
use Rattle.std.proofs.lemmas.Result.{IfOk-weaker}
use Rattle.std.proofs.lemmas.List.{take_more, map-append}
use Rattle.std.proofs.lemmas.List.Elements.{filter-append}
use Rattle.std.specs.Borrow.{Bor}
use Rattle.std.specs.Cmp.Lexicographic.{bytes_decides, slice_cmp}
use Rattle.std.specs.List.{fold}
use Rattle.std.specs.Ordering.{match_ordering, nat_cmp}
use Rattle.serde_json.specs.Data.{Data, string, Members, member, no_members, put}
use Rattle.serde_json.specs.View.{items_of, view}
use Rattle.serde_json.specs.declared.value.Value.{Value}
use Rattle.serde_json.specs.Written.{has_float, items_have_float, members_have_float}
use Rattle.pol_content.specs.declared.rows.CatalogRow.{CatalogRow}
use Rattle.pol_properties.specs.declared.property.Property.{Property}
use Rattle.pol_requests.specs.Table.{Entry, entry_of, table}
use Rattle.pol_requests.specs.declared.table.Service.{Service}
use Rattle.pol_answers.specs.Json.{catalog_json, catalogs_json, config_json, endpoint_text, endpoints_of, is_endpoint, list_json, location_json, namespace_json, namespaces_json, prefixed, property_members, texts_json, updated_json, with_property}

-- a list of what has no floats
items_whole : {A : Type 0} (json : A → Data) → ((x : A) → has_float (json x) ≡ false) → (xs : List A) → items_have_float (items_of (map json xs)) ≡ false
items_whole json whole [] = refl
items_whole json whole (x ∷ xs) = rw (whole x, items_whole json whole xs) refl

pub list_whole : {A : Type 0} (json : A → Data) → ((x : A) → has_float (json x) ≡ false) → (xs : List A) → has_float (list_json json xs) ≡ false
list_whole json whole xs = items_whole json whole xs

pub texts_whole : (texts : List (List ℕ)) → has_float (texts_json texts) ≡ false
texts_whole texts = list_whole string (λ text. refl) texts

-- one more text among members
or_whole : (b c : Bool) → (b || c) ≡ false → (b ≡ false) × (c ≡ false)
or_whole false c is = (refl, is)
or_whole true c is = absurd (cc)

placed_whole : (o : Ordering) (key text k : List ℕ) (d : Data) (ms : Members) → has_float d ≡ false → members_have_float ms ≡ false → members_have_float (put key (string text) ms) ≡ false
    → members_have_float (match_ordering o (member key (string text) (member k d ms)) (member k (string text) ms) (member k d (put key (string text) ms))) ≡ false
placed_whole Less key text k d ms first rest placed = rw (first, rest) refl
placed_whole Equal key text k d ms first rest placed = rest
placed_whole Greater key text k d ms first rest placed = rw (first, placed) refl

put_whole : (key text : List ℕ) (ms : Members) → members_have_float ms ≡ false → members_have_float (put key (string text) ms) ≡ false
put_whole key text no_members whole = refl
put_whole key text (member k d ms) whole =
    let parts = or_whole (has_float d) (members_have_float ms) whole in
    placed_whole (slice_cmp nat_cmp key k) key text k d ms parts.0 parts.1 (put_whole key text ms parts.1)

fold_whole : (pairs : List Property) (ms : Members) → members_have_float ms ≡ false → members_have_float (fold with_property ms pairs) ≡ false
fold_whole [] ms whole = whole
fold_whole (pair ∷ pairs) ms whole =
    fold_whole pairs (with_property ms pair) (put_whole pair.key pair.value ms whole)

properties_whole : (pairs : List Property) → members_have_float (property_members pairs) ≡ false
unfolding property_members
properties_whole pairs = fold_whole pairs no_members refl

pub namespace_whole : (levels : List (List ℕ)) (pairs : List Property) → has_float (namespace_json levels pairs) ≡ false
namespace_whole levels pairs = rw (texts_whole levels, properties_whole pairs) refl

pub namespaces_whole : (namespaces : List (List (List ℕ))) → has_float (namespaces_json namespaces) ≡ false
namespaces_whole namespaces = rw (list_whole texts_json texts_whole namespaces) refl

pub updated_whole : (missing removed updated : List (List ℕ)) → has_float (updated_json missing removed updated) ≡ false
updated_whole missing removed updated = rw (texts_whole missing, texts_whole removed, texts_whole updated) refl

pub catalog_whole : (row : CatalogRow) → has_float (catalog_json row) ≡ false
unfolding catalog_json
catalog_whole row =
    rw (put_whole _ _ (property_members row.properties) (properties_whole row.properties), list_whole location_json (λ segments. refl) row.allowed) refl

pub catalogs_whole : (rows : List CatalogRow) → has_float (catalogs_json rows) ≡ false
catalogs_whole rows = rw (list_whole catalog_json catalog_whole rows) refl

pub config_whole : (name : List ℕ) → has_float (config_json name) ≡ false
unfolding config_json
config_whole name = rw (texts_whole (endpoints_of table)) refl

-- the endpoints of one row more
pub endpoints_more : (texts new : List (List ℕ)) (rows : List (Bor (List ℕ) × Bor (List ℕ) × Service)) (i : ℕ) (row : Bor (List ℕ) × Bor (List ℕ) × Service) → i < length rows
    → texts ≡ endpoints_of (map entry_of (take i rows)) → new ≡ texts ++ endpoints_of (entry_of (get_or rows i row) ∷ []) → new ≡ endpoints_of (map entry_of (take (i + 1) rows))
endpoints_more texts new rows i row inside so_far added =
    let more = entry_of (get_or rows i row) ∷ [] in
    let before = map entry_of (take i rows) in
    added
    ∙ ap (λ done. done ++ endpoints_of more) so_far
    ∙ sym (map-append endpoint_text (filter is_endpoint before) (filter is_endpoint more))
    ∙ sym (ap (map endpoint_text) (filter-append is_endpoint before more))
    ∙ sym (ap endpoints_of (map-append entry_of (take i rows) (get_or rows i row ∷ [])))
    ∙ sym (ap (λ front. endpoints_of (map entry_of front)) (take_more rows i row inside))

-- a row that is an endpoint, and one that isn't
pub endpoint_added : (texts new : List (List ℕ)) (row : Entry) (rest text : List ℕ) → row.path ≡ prefixed ++ rest → text ≡ row.method ++ (codes " /v1/{prefix}" ++ rest)
    → new ≡ texts ++ text ∷ [] → new ≡ texts ++ endpoints_of (row ∷ [])
endpoint_added texts new row rest text is text_is pushed =
    rw is (pushed ∙ ap (λ shown. texts ++ shown ∷ []) text_is)

pub endpoint_left_out : (texts : List (List ℕ)) (row : Entry) → ((rest : List ℕ) → row.path ≢ prefixed ++ rest) → texts ≡ texts ++ endpoints_of (row ∷ [])
endpoint_left_out texts row other = by (is_endpoint row) refl
  where
    by : (b : Bool) → is_endpoint row ≡ b → texts ≡ texts ++ endpoints_of (row ∷ [])
    by true is = absurd (other (drop 24 row.path) (sym (take-append-drop 24 row.path) ∙ ap (λ front. front ++ drop 24 row.path) (sym ((bytes_decides prefixed (take 24 row.path)).0 is))))
    by false is = rw is (sym (append-nil texts))

-- a JSON that was made, if it was, has no float where what it shows has none
pub made_whole : {E : Type 0} (json : Result Value E) (shown : Data) → IfOk json (λ value. view value ≡ shown) → has_float shown ≡ false → IfOk json (λ value. has_float (view value) ≡ false)
made_whole json shown is whole = IfOk-weaker json _ _ (λ value same. rw same whole) is

-- the answers of the catalogue API
pub ruleset answers_whole = (config_whole, catalog_whole, catalogs_whole, namespace_whole, namespaces_whole, updated_whole)
