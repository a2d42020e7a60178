-- How the levels of a namespace are read in turn.
use Rattle.std.proofs.Common.{◌≡◌, ◌≢◌, ◌≤◌, ◌<◌, ℕ, ◌+◌, Bool, true, false, List, [], ◌∷◌, ◌++◌, length, refl, arith, ap, sym, ◌∙◌, append-nil, append_assoc, length-append, take, drop, get_or, subst, Bor, ◌-◌}
use Rattle.std.specs.Prelude.{Option, None, Some, All, IsTrue, if◌then◌else◌, nat_eq, nat_lt, ◌==◌, ◌||◌, ◌↔◌}
use Rattle.std.specs.Cmp.Lexicographic.{bytes_decides, pointwise, pointwise_decides}
use Rattle.std.specs.List.{starts_with}
use Rattle.std.specs.Str.{IsUtf8}
use Rattle.std.specs.Option.{option_map, option_or}
use Rattle.std.proofs.lemmas.Grind.{common_steps}
use Rattle.std.proofs.lemmas.List.Elements.{All-cons, All-head, All-nil, All-push, All-tail, All-weaker}
use Rattle.std.proofs.lemmas.List.{drop_more, length-map}
use Rattle.pol_names.specs.Name.{IsName, IsNameRefusal, is_name_byte, name_refusal}
use Rattle.pol_names.specs.Namespace.{IsNamespace, IsNamespaceRefusal, at_level, level_refusal, namespace_refusal, levels_of, parent_of, segment_of, texts, RefusesLevel}
use Rattle.pol_names.specs.declared.name.NameRefused.{NameRefused}
use Rattle.pol_names.specs.declared.name.NameRefused.TheVariants.{Empty, Long, ControlByte, NotPlain, OutOfMemory}
use Rattle.pol_names.specs.declared.namespace.NamespaceRefused.{NamespaceRefused}
use Rattle.pol_names.specs.declared.namespace.NamespaceRefused.TheVariants.{TooDeep}
use Rattle.pol_names.proofs.Refusals.{IsName-from_refusal, name_refusal-IsName}
use Rattle.pol_types.proofs.Joins.{slice_split-join_with_byte}

-- levels that are names refuse nothing, so the first that is none stands behind them
pub level_refusal-append : (place : ℕ) (names levels : List (List ℕ)) → All IsName names → level_refusal place (names ++ levels) ≡ level_refusal (place + length names) levels
level_refusal-append place [] levels named = ap (λ n. level_refusal n levels) (omega arith)
level_refusal-append place (name ∷ names) levels named =
    rw (name_refusal-IsName name (All-head IsName name names named))
    (level_refusal-append (place + 1) names levels (All-tail IsName name names named)
    ∙ ap (λ n. level_refusal n levels) (omega arith))

-- a list of 1 to 16 levels is judged by its levels
pub namespace_refusal-level_refusal : (levels : List (List ℕ)) → 0 < length levels → length levels ≤ 16 → namespace_refusal levels ≡ level_refusal 0 levels
unfolding namespace_refusal
namespace_refusal-level_refusal levels filled bounded = grind (arith, common_steps)

-- any other list by its number of levels
pub too_deep : (levels : List (List ℕ)) (count : ℕ) → length levels ≡ count → (count == 0 || nat_lt 16 count) ≡ true → namespace_refusal levels ≡ Some (TooDeep count)
unfolding namespace_refusal
too_deep levels count is bad = rw (is, bad) refl

-- the refusal of the level behind the names is the refusal of the whole
found : (place : ℕ) (level : List ℕ) (levels : List (List ℕ)) (why : NameRefused) → name_refusal level ≡ Some why →
    level_refusal place (level ∷ levels) ≡ Some (at_level place why)
found place level levels why refused = rw refused refl

whole : (names : List (List ℕ)) (level : List ℕ) (levels : List (List ℕ)) (why : NameRefused) → All IsName names →
    length (names ++ level ∷ levels) ≤ 16 → name_refusal level ≡ Some why → namespace_refusal (names ++ level ∷ levels) ≡ Some (at_level (length names) why)
whole names level levels why named bounded refused =
    namespace_refusal-level_refusal (names ++ level ∷ levels) (omega (arith, length-append names (level ∷ levels))) bounded
    ∙ level_refusal-append 0 names (level ∷ levels) named
    ∙ ap (λ place. level_refusal place (level ∷ levels)) (omega arith)
    ∙ found (length names) level levels why refused

pub refused_at_level : (names : List (List ℕ)) (level : List ℕ) (levels : List (List ℕ)) (why : NameRefused) → All IsName names →
    length (names ++ level ∷ levels) ≤ 16 → IsNameRefusal level why → IsNamespaceRefusal (names ++ level ∷ levels) (at_level (length names) why)
refused_at_level names level levels Empty named bounded refused = whole names level levels Empty named bounded refused
refused_at_level names level levels Long named bounded refused = whole names level levels Long named bounded refused
refused_at_level names level levels ControlByte named bounded refused = whole names level levels ControlByte named bounded refused
refused_at_level names level levels NotPlain named bounded refused = whole names level levels NotPlain named bounded refused
refused_at_level names level levels OutOfMemory named bounded refused = tt

-- the names that were read stand before the levels that are left
pub record HaveRead (levels names rest : List (List ℕ)) : Type 0 where
  pub split : names ++ rest ≡ levels
  pub named : All IsName names

-- the level at a place is the first of those that are left there
pub next_at : (levels : List (Bor (List ℕ))) (place : ℕ) (other : Bor (List ℕ)) → place < length levels →
    texts (drop place levels) ≡ (get_or levels place other).now ∷ texts (drop (place + 1) levels)
next_at levels place other inside = ap texts (drop_more levels place other inside)

pub have_read_more : (levels names rest : List (List ℕ)) (level : List ℕ) → HaveRead levels names (level ∷ rest) → IsName level → HaveRead levels (names ++ level ∷ []) rest
have_read_more levels names rest level before named =
    record { split = append_assoc names (level ∷ []) rest ∙ before.split; named = All-push IsName names level before.named named }

-- the refusal of the level behind the names is the refusal of the whole
pub refused_behind : (levels : List (Bor (List ℕ))) (names rest : List (List ℕ)) (level : List ℕ) (why : NamespaceRefused) → HaveRead (texts levels) names (level ∷ rest) →
    length levels ≤ 16 → RefusesLevel names level why → IsNamespaceRefusal (texts levels) why
refused_behind levels names rest level why before bounded refuses =
    let short : length (texts levels) ≤ 16 = omega (arith, length-map levels (λ level'. level'.now)) in
    subst (λ all. IsNamespaceRefusal all why) before.split
    (refuses rest before.named (subst (λ all. length all ≤ 16) (sym before.split) short))

-- a list that is not empty has a level
pub has_levels : (levels : List (List ℕ)) → IsNamespace levels → 0 < length levels
has_levels [] namespace = absurd (namespace.filled refl)
has_levels (level ∷ levels) namespace = omega arith

-- the parent of a list with one more level is its beginning
parent_of-take : (levels : List (List ℕ)) (depth : ℕ) → 0 < depth → length levels ≡ depth + 1 → parent_of levels ≡ Some (take depth levels)
parent_of-take levels depth some is =
    let above : nat_lt 1 (length levels) ≡ true = grind (arith, common_steps) in
    let rest : length levels - 1 ≡ depth = omega arith in
    rw (above, rest) refl

pub parent_tested : (levels parent : List (List ℕ)) (answer : Bool) → IsNamespace parent → length levels ≡ length parent + 1 →
    answer ≡ starts_with (pointwise nat_eq) levels parent → IsTrue answer ↔ (parent_of levels ≡ Some parent)
parent_tested levels parent answer namespace is tested =
    let begins : parent_of levels ≡ Some (take (length parent) levels) = parent_of-take levels (length parent) (has_levels parent namespace) is in
    let same = pointwise_decides bytes_decides parent (take (length parent) levels) in (
      (λ holds. begins ∙ ap (λ first. Some first) (sym (same.0 (sym tested ∙ holds)))),
      (λ found. let first : parent ≡ take (length parent) levels = cc in tested ∙ same.1 first),
    )

-- where neither a first rule nor the others refuse
none_of_both : (place : ℕ) (first : Option NameRefused) (others : Option NamespaceRefused) → option_or (option_map (at_level place) first) others ≡ None → (first ≡ None) × (others ≡ None)
none_of_both place None others none = (refl, none)
none_of_both place (Some why) others none = cc

none_of_test : (test : Bool) (why : NamespaceRefused) (others : Option NamespaceRefused) → (if test then Some why else others) ≡ None → (test ≡ false) × (others ≡ None)
none_of_test true why others none = cc
none_of_test false why others none = (refl, none)

-- where no level is refused, each is a name
names_from_refusal : (place : ℕ) (levels : List (List ℕ)) → All IsUtf8 levels → level_refusal place levels ≡ None → All IsName levels
names_from_refusal place [] utf8 none = All-nil IsName
names_from_refusal place (level ∷ levels) utf8 none =
    let both = none_of_both place (name_refusal level) (level_refusal (place + 1) levels) none in
    All-cons IsName level levels
    (IsName-from_refusal level (All-head IsUtf8 level levels utf8) both.0)
    (names_from_refusal (place + 1) levels (All-tail IsUtf8 level levels utf8) both.1)

-- a list of an allowed depth
filled : (levels : List (List ℕ)) → (length levels == 0 || nat_lt 16 (length levels)) ≡ false → levels ≢ []
filled [] allowed empty = cc
filled (level ∷ levels) allowed empty = cc

bounded : (levels : List (List ℕ)) → (length levels == 0 || nat_lt 16 (length levels)) ≡ false → length levels ≤ 16
bounded levels allowed = grind (arith, common_steps)

pub IsNamespace-from_refusal : (levels : List (List ℕ)) → All IsUtf8 levels → namespace_refusal levels ≡ None → IsNamespace levels
unfolding namespace_refusal
IsNamespace-from_refusal levels utf8 none =
    let both = none_of_test (length levels == 0 || nat_lt 16 (length levels)) (TooDeep (length levels)) (level_refusal 0 levels) none in
    record {
      filled = filled levels both.0;
      bounded = bounded levels both.0;
      named = names_from_refusal 0 levels utf8 both.1;
    }

pub namespace_refusal-IsNamespace : (levels : List (List ℕ)) → IsNamespace levels → namespace_refusal levels ≡ None
namespace_refusal-IsNamespace levels namespace =
    namespace_refusal-level_refusal levels (has_levels levels namespace) namespace.bounded
    ∙ ap (level_refusal 0) (sym (append-nil levels))
    ∙ level_refusal-append 0 levels [] namespace.named

-- no name has the byte between levels
no_separator : (text : List ℕ) → IsName text → All (λ byte. (byte == 0x1F) ≡ false) text
no_separator text name = All-weaker (λ byte. is_name_byte byte ≡ true) (λ byte. (byte == 0x1F) ≡ false) (λ byte passes. grind (arith, common_steps)) text name.clean

pub levels_of-segment_of : (levels : List (List ℕ)) → IsNamespace levels → levels_of (segment_of levels) ≡ levels
levels_of-segment_of [] namespace = absurd (namespace.filled refl)
levels_of-segment_of (level ∷ levels) namespace =
    slice_split-join_with_byte 0x1F level levels (All-weaker IsName (All (λ byte. (byte == 0x1F) ≡ false)) no_separator (level ∷ levels) namespace.named)
