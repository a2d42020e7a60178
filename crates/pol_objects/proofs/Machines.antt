-- What the machine leaves: an object that is put stays, and what is counted.
use Rattle.std.proofs.Common.{◌≡◌, ◌≤◌, ◌+◌, ◌-◌, ℕ, Bool, true, false, not, cond, List, [], ◌∷◌, length, None, Some, is_some, refl, ap, sym, subst, ◌∙◌, true≢false, arith}
use Rattle.std.specs.Cmp.Lexicographic.{nat_list_cmp_total}
use Rattle.std.specs.List.{find}
use Rattle.std.specs.Ordering.{is_eq, is_lt}
use Rattle.std.specs.Prelude.{Option, nat_lt, if◌then◌else◌}
use Rattle.std.specs.declared.cmp.Ordering.{Ordering}
use Rattle.std.specs.declared.cmp.Ordering.TheVariants.{Less, Equal, Greater}
use Rattle.std.proofs.lemmas.Cmp.{tied_itself}
use Rattle.std.proofs.lemmas.Grind.{common_steps}
use Rattle.std.proofs.lemmas.List.Elements.{All-head, All-tail}
use Rattle.pol_locations.specs.Location.{location_text}
use Rattle.pol_objects.proofs.Kept.{same_text, texts_tell}
use Rattle.pol_objects.specs.Laws.{CountIsBounded, PutIsThere, PutsAreCounted, TakenBack, TextsTell, WrittenOnce, counted_by, counted_unless, deletes}
use Rattle.pol_objects.specs.Machine.{after_put, object_next, put_refusal, stored}
use Rattle.pol_objects.specs.Objects.{Object, byte_order, has_text, is_at, object_at, order_at, with_object, without_object}
use Rattle.pol_objects.specs.Rules.{size_refusal}
use Rattle.pol_objects.specs.declared.action.ObjectAction.{ObjectAction}
use Rattle.pol_objects.specs.declared.action.ObjectAction.TheVariants as action
use Rattle.pol_objects.specs.declared.object_state.ObjectState.{ObjectState}
use Rattle.pol_objects.specs.declared.rule.ObjectRule.{ObjectRule}
use Rattle.pol_objects.specs.declared.rule.ObjectRule.TheVariants.{ObjectThere}

pub locations_by_texts : TextsTell
locations_by_texts path other location located is = texts_tell path other location located (same_text (location_text path) (location_text other) is)

-- an object has its own text
own_text : (object : Object) → has_text (location_text object.path) object ≡ true
own_text object = ap is_eq (tied_itself nat_list_cmp_total (location_text object.path))

-- an object that was added is found
found_here : (object first : Object) (objects : List Object) (order : Ordering) → order_at (location_text object.path) first ≡ order →
    cond (is_eq order) (Some first) (object_at objects object.path) ≡ None →
    (object_at objects object.path ≡ None → object_at (with_object object objects) object.path ≡ Some object) →
    object_at (if is_lt order then object ∷ first ∷ objects else first ∷ with_object object objects) object.path ≡ Some object
found_here object first objects Less at new rest =
    subst (λ own. cond own (Some object) (object_at (first ∷ objects) object.path) ≡ Some object) (sym (own_text object)) refl
found_here object first objects Equal at new rest = cc
found_here object first objects Greater at new rest =
    subst (λ order. cond (is_eq order) (Some first) (object_at (with_object object objects) object.path) ≡ Some object) (sym at) (rest new)

pub found_added : (object : Object) (objects : List Object) → object_at objects object.path ≡ None → object_at (with_object object objects) object.path ≡ Some object
found_added object [] new = subst (λ own. cond own (Some object) None ≡ Some object) (sym (own_text object)) refl
found_added object (first ∷ objects) new =
    found_here object first objects (order_at (location_text object.path) first) refl new (found_added object objects)

-- and at another path nothing changes
pub found_other : (path : List (List ℕ)) (object : Object) (objects : List Object) → is_at path object ≡ false → object_at (with_object object objects) path ≡ object_at objects path
found_other path object [] other = subst (λ at. cond at (Some object) None ≡ None) (sym other) refl
found_other path object (first ∷ objects) other =
    elim (is_lt (order_at (location_text object.path) first)) as (λ below. object_at (if below then object ∷ first ∷ objects else first ∷ with_object object objects) path ≡ object_at (first ∷ objects) path) [
      | true ↦ subst (λ at. cond at (Some object) (object_at (first ∷ objects) path) ≡ object_at (first ∷ objects) path) (sym other) refl
      | false ↦ ap (λ found. cond (is_at path first) (Some first) found) (found_other path object objects other)
    ]

-- an object at one of two paths whose texts differ is not at the other
missed : (path other : List (List ℕ)) (object : Object) → has_text (location_text other) object ≡ true → is_eq (byte_order (location_text other) (location_text path)) ≡ false →
    (here : Bool) → is_at path object ≡ here → here ≡ false
missed path other object there apart true here =
    let left = same_text (location_text other) (location_text object.path) there in
    let right = same_text (location_text path) (location_text object.path) here in
    let same : location_text other ≡ location_text path = left ∙ sym right in
    absurd (true≢false (sym (ap (λ text. is_eq (byte_order (location_text other) text)) (sym same) ∙ ap is_eq (tied_itself nat_list_cmp_total (location_text other))) ∙ apart))
missed path other object there apart false here = refl

left_one : (path other : List (List ℕ)) (object : Object) (objects : List Object) (taken : Bool) → is_at other object ≡ taken →
    is_eq (byte_order (location_text other) (location_text path)) ≡ false → object_at (without_object other objects) path ≡ object_at objects path →
    object_at (cond (not taken) (object ∷ without_object other objects) (without_object other objects)) path ≡ cond (is_at path object) (Some object) (object_at objects path)
left_one path other object objects true at apart rest =
    rest ∙ sym (ap (λ here. cond here (Some object) (object_at objects path)) (missed path other object at apart (is_at path object) refl))
left_one path other object objects false at apart rest = ap (λ found. cond (is_at path object) (Some object) found) rest

-- what is taken away at another path leaves the object
pub found_left : (path other : List (List ℕ)) (objects : List Object) → is_eq (byte_order (location_text other) (location_text path)) ≡ false →
    object_at (without_object other objects) path ≡ object_at objects path
found_left path other [] apart = refl
found_left path other (object ∷ objects) apart =
    left_one path other object objects (is_at other object) refl apart (found_left path other objects apart)

-- none of the rules refuses
not_there : (found : Option Object) (rest : Option ObjectRule) → (if is_some found then Some ObjectThere else rest) ≡ None → (found ≡ None) × (rest ≡ None)
not_there None rest none = (refl, none)
not_there (Some object) rest none = cc

of_two : (long full : Bool) (first second : ObjectRule) → (if long then Some first else if full then Some second else None) ≡ None → (long ≡ false) × (full ≡ false)
of_two true full first second none = cc
of_two false true first second none = cc
of_two false false first second none = (refl, refl)

pub absent : (state : ObjectState) (path : List (List ℕ)) (bytes : List ℕ) → put_refusal state path bytes ≡ None → object_at state.objects path ≡ None
unfolding put_refusal
absent state path bytes none = (not_there (object_at state.objects path) (size_refusal state.counted (length bytes)) none).0

not_full : (counted more : ℕ) → size_refusal counted more ≡ None → counted + more ≤ 268435456
unfolding size_refusal
not_full counted more none =
    let within : nat_lt 268435456 (counted + more) ≡ false = (of_two (nat_lt 8388608 more) (nat_lt 268435456 (counted + more)) _ _ none).1 in
    grind (arith, common_steps)

pub fits : (state : ObjectState) (path : List (List ℕ)) (bytes : List ℕ) → put_refusal state path bytes ≡ None → state.counted + length bytes ≤ 268435456
unfolding put_refusal
fits state path bytes none =
    not_full state.counted (length bytes) (not_there (object_at state.objects path) (size_refusal state.counted (length bytes)) none).1

-- an object that is put is there
pub put_is_there : PutIsThere
put_is_there state path bytes none =
    ap (λ refusal. object_at (after_put refusal state path bytes).objects path) none
    ∙ found_added (record { path = path; bytes = bytes }) state.objects (absent state path bytes none)

-- a new object is at another path than one that is there
apart_from : (state : ObjectState) (path : List (List ℕ)) (object : Object) (new : Object) → object_at state.objects path ≡ Some object →
    object_at state.objects new.path ≡ None → (at : Bool) → is_at path new ≡ at → at ≡ false
apart_from state path object new there free true at =
    let same : location_text path ≡ location_text new.path = same_text (location_text path) (location_text new.path) at in
    let none : object_at state.objects path ≡ None = ap (λ text. find (has_text text) state.objects) same ∙ free in
    cc
apart_from state path object new there free false at = refl

after_refusal : (refusal : Option ObjectRule) (state : ObjectState) (path other : List (List ℕ)) (bytes : List ℕ) (object : Object) →
    object_at state.objects path ≡ Some object → (refusal ≡ None → object_at state.objects other ≡ None) →
    object_at (after_put refusal state other bytes).objects path ≡ Some object
after_refusal None state path other bytes object there free =
    let new : Object = record { path = other; bytes = bytes } in
    found_other path new state.objects (apart_from state path object new there (free refl) (is_at path new) refl) ∙ there
after_refusal (Some rule) state path other bytes object there free = there

stays : (state : ObjectState) (path : List (List ℕ)) (object : Object) (act : ObjectAction) → object_at state.objects path ≡ Some object → deletes path act ≡ false →
    object_at (object_next state act).objects path ≡ Some object
stays state path object (action.Get other) there left = there
stays state path object (action.Head other) there left = there
stays state path object (action.Put other bytes) there left =
    after_refusal (put_refusal state other bytes) state path other bytes object there (absent state other bytes)
stays state path object (action.Delete other) there left = found_left path other state.objects left ∙ there
stays state path object (action.List other) there left = there

pub written_once : WrittenOnce
written_once state path object [] there left = there
written_once state path object (act ∷ actions) there left =
    written_once (object_next state act) path object actions
    (stays state path object act there (All-head (λ act. deletes path act ≡ false) act actions left))
    (All-tail (λ act. deletes path act ≡ false) act actions left)

-- what one action counts
counts_put : (refusal : Option ObjectRule) (state : ObjectState) (path : List (List ℕ)) (bytes : List ℕ) →
    (after_put refusal state path bytes).counted ≡ state.counted + counted_unless refusal bytes
counts_put None state path bytes = refl
counts_put (Some rule) state path bytes = omega arith

counts : (state : ObjectState) (act : ObjectAction) → (object_next state act).counted ≡ state.counted + counted_by state act
counts state (action.Get path) = omega arith
counts state (action.Head path) = omega arith
counts state (action.Put path bytes) = counts_put (put_refusal state path bytes) state path bytes
counts state (action.Delete path) = omega arith
counts state (action.List path) = omega arith

pub puts_are_counted : PutsAreCounted
puts_are_counted state [] = omega arith
puts_are_counted state (act ∷ actions) = omega (arith, puts_are_counted (object_next state act) actions, counts state act)

bounded_put : (refusal : Option ObjectRule) (state : ObjectState) (path : List (List ℕ)) (bytes : List ℕ) → state.counted ≤ 268435456 →
    (refusal ≡ None → state.counted + length bytes ≤ 268435456) → (after_put refusal state path bytes).counted ≤ 268435456
bounded_put None state path bytes bound within = within refl
bounded_put (Some rule) state path bytes bound within = bound

bounded : (state : ObjectState) (act : ObjectAction) → state.counted ≤ 268435456 → (object_next state act).counted ≤ 268435456
bounded state (action.Get path) bound = bound
bounded state (action.Head path) bound = bound
bounded state (action.Put path bytes) bound = bounded_put (put_refusal state path bytes) state path bytes bound (fits state path bytes)
bounded state (action.Delete path) bound = bound
bounded state (action.List path) bound = bound

pub count_is_bounded : CountIsBounded
count_is_bounded state [] bound = bound
count_is_bounded state (act ∷ actions) bound = count_is_bounded (object_next state act) actions (bounded state act bound)

-- where nothing is at the path, nothing is taken away
none_taken : (path : List (List ℕ)) (first : Object) (objects : List Object) (at : Bool) → cond at (Some first) (object_at objects path) ≡ None →
    (object_at objects path ≡ None → without_object path objects ≡ objects) → cond (not at) (first ∷ without_object path objects) (without_object path objects) ≡ first ∷ objects
none_taken path first objects true none rest = cc
none_taken path first objects false none rest = ap (λ kept. first ∷ kept) (rest none)

pub all_kept : (path : List (List ℕ)) (objects : List Object) → object_at objects path ≡ None → without_object path objects ≡ objects
all_kept path [] none = refl
all_kept path (first ∷ objects) none = none_taken path first objects (is_at path first) none (all_kept path objects)

back : (object first : Object) (objects : List Object) (order : Ordering) → order_at (location_text object.path) first ≡ order → object_at (first ∷ objects) object.path ≡ None →
    cond (is_eq order) (Some first) (object_at objects object.path) ≡ None →
    (object_at objects object.path ≡ None → without_object object.path (with_object object objects) ≡ objects) →
    without_object object.path (if is_lt order then object ∷ first ∷ objects else first ∷ with_object object objects) ≡ first ∷ objects
back object first objects Less at all new rest =
    subst (λ own. cond (not own) (object ∷ without_object object.path (first ∷ objects)) (without_object object.path (first ∷ objects)) ≡ first ∷ objects)
    (sym (own_text object)) (all_kept object.path (first ∷ objects) all)
back object first objects Equal at all new rest = cc
back object first objects Greater at all new rest =
    subst (λ order. cond (not (is_eq order)) (first ∷ without_object object.path (with_object object objects)) (without_object object.path (with_object object objects)) ≡ first ∷ objects)
    (sym at) (ap (λ kept. first ∷ kept) (rest new))

pub taken_back : TakenBack
taken_back [] object new = subst (λ own. cond (not own) (object ∷ []) [] ≡ []) (sym (own_text object)) refl
taken_back (first ∷ objects) object new =
    back object first objects (order_at (location_text object.path) first) refl new new (taken_back objects object)

-- a state that an object was added to, once it is taken out again
pub taken_back_state : (before old : ObjectState) (path : List (List ℕ)) (bytes : List ℕ) (objects : List Object) (counted : ℕ) → put_refusal before path bytes ≡ None
    → old ≡ stored before path bytes → objects ≡ without_object path old.objects → counted ≡ old.counted - length bytes → record { objects = objects; counted = counted } ≡ before
taken_back_state before old path bytes objects counted accepted was taken left =
    let same : objects ≡ before.objects = taken ∙ ap (λ (s : ObjectState). without_object path s.objects) was
    ∙ taken_back before.objects (record { path = path; bytes = bytes }) (absent before path bytes accepted) in
    let count : counted ≡ before.counted = omega (arith, left, ap (λ (s : ObjectState). s.counted) was) in
    λ i. record { objects = same i; counted = count i }
