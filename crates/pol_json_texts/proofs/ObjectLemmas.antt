-- The pieces of an object's text make the whole.
use Rattle.std.proofs.Common.{◌≡◌, ℕ, List, [], ◌∷◌, ◌++◌, Bool, true, false, not, true≢false, ◌-◌, length, take, drop, refl, sym, ap, ◌∙◌, append_assoc, append-nil, ◌+◌, arith, ◌↔◌, IsTrue, String}
use Rattle.std.proofs.lemmas.List.{length_push, take_at}
use Rattle.std.specs.declared.alloc.Global.{Global}
use Rattle.json.specs.Print.{print, print_from, quoted}
use Rattle.json.specs.Token.{key}
use Rattle.serde_json.specs.Data.{Data, Members, member, no_members, object}
use Rattle.serde_json.specs.Written.{comma_if, compact_text, members_text}
use Rattle.serde_json.specs.View.{members_view}
use Rattle.serde_json.specs.declared.value.Value.{Value}
use Rattle.pol_json_texts.specs.Objects.{are_some, entries_text, joined, named_text, opened_text}

-- what stands behind a member stands behind its text
behind : (later : Bool) (name : List ℕ) (value : Data) (text more : List ℕ) → comma_if later ++ (quoted name ++ 58 ∷ (compact_text value ++ (text ++ more))) ≡ (comma_if later ++ (quoted name ++ 58 ∷ (compact_text value ++ text))) ++ more
behind later name value text more = sym
    (append_assoc (comma_if later) _ more
    ∙ ap (λ text. comma_if later ++ text) (append_assoc (quoted name) _ more
    ∙ ap (λ text. quoted name ++ 58 ∷ text) (append_assoc (compact_text value) text more)))

-- the end stands behind the members
ended : (later : Bool) (members : Members) → members_text later members ≡ entries_text later members ++ 125 ∷ []
ended later no_members = refl
ended later (member name value members) =
    ap (λ text. comma_if later ++ (quoted name ++ 58 ∷ (compact_text value ++ text))) (ended true members)
    ∙ behind later name value (entries_text true members) (125 ∷ [])

-- a map tells that it is empty where it has no members
pub some_members : (empty : Bool) (entries : List (String Global × Value)) → (IsTrue empty ↔ (length entries ≡ 0)) → not empty ≡ are_some (members_view entries)
some_members true [] is = refl
some_members true (entry ∷ entries) is = absurd (omega (arith, is.0 refl))
some_members false [] is = absurd (true≢false (sym (is.1 refl)))
some_members false (entry ∷ entries) is = refl

all_but_end : (text : List ℕ) (end : ℕ) → take (length (text ++ end ∷ []) - 1) (text ++ end ∷ []) ≡ text
all_but_end text end = ap (λ count. take (count - 1) (text ++ end ∷ [])) (length_push text end) ∙ take_at text (end ∷ []) (length text + 1 - 1) (omega (arith))

-- the text of an object's members, and of the object but for its end
pub opened_object : (members : Members) → take (length (compact_text (object members)) - 1) (compact_text (object members)) ≡ opened_text members
opened_object members =
    ap (λ text. take (length text - 1) text) (ap (λ text. 123 ∷ text) (ended false members)) ∙ all_but_end (opened_text members) 125

pub named_member : (text : List ℕ) (later : Bool) (name : List ℕ) → (text ++ comma_if later) ++ print (key name ∷ []) ≡ text ++ named_text later name
unfolding print_from
named_member text later name =
    append_assoc text (comma_if later) _ ∙ ap (λ more. text ++ (comma_if later ++ more)) (append-nil (quoted name ++ 58 ∷ []))

-- the members of an object, behind another one
pub closed_object : (members : Members) → comma_if (are_some members) ++ drop 1 (compact_text (object members)) ≡ members_text true members
closed_object no_members = refl
closed_object (member name value members) = refl

named_then : (later : Bool) (name more : List ℕ) → comma_if later ++ (quoted name ++ 58 ∷ more) ≡ named_text later name ++ more
named_then later name more = sym
    (append_assoc (comma_if later) _ more ∙ ap (λ text. comma_if later ++ text) (append_assoc (quoted name) (58 ∷ []) more))

-- some members, one more behind them, and others
joined_later : (front : Members) (name : List ℕ) (value : Data) (back : Members) → members_text true (joined front (member name value back)) ≡ entries_text true front ++ (named_text true name ++ (compact_text value ++ members_text true back))
joined_later no_members name value back = named_then true name (compact_text value ++ members_text true back)
joined_later (member first own front) name value back =
    ap (λ text. comma_if true ++ (quoted first ++ 58 ∷ (compact_text own ++ text))) (joined_later front name value back)
    ∙ behind true first own (entries_text true front) _

-- make the text of the object that has them all
pub joined_text : (front : Members) (name : List ℕ) (value : Data) (back : Members) → compact_text (object (joined front (member name value back))) ≡ opened_text front ++ (named_text (are_some front) name ++ (compact_text value ++ members_text true back))
joined_text no_members name value back = ap (λ text. 123 ∷ text) (named_then false name (compact_text value ++ members_text true back))
joined_text (member first own front) name value back = ap (λ text. 123 ∷ text)
    (ap (λ text. quoted first ++ 58 ∷ (compact_text own ++ text)) (joined_later front name value back)
    ∙ behind false first own (entries_text true front) _)
