-- Lists of blocks, and the items of all of them.
use Rattle.std.proofs.Common.{◌≡◌, ℕ, zero, suc, ◌+◌, ◌-◌, ◌<◌, ◌≤◌, List, [], ◌∷◌, ◌++◌, length, take, drop, get_or, refl, ap, sym, ◌∙◌, arith, append_assoc, add-one, length-append, subst, Option, None, Some, Result, Ok, Err}
use denote.Ref.{Bor}
use Rattle.std.specs.List.{HoldsAt}
use Rattle.std.specs.Prelude.{All, MatchOption, OnErr, OnOk, Vec, insert, option_copied, remove, slice_get}
use Rattle.std.proofs.lemmas.List.{append-nil, get_or-map, length-take-le, take-append-drop, take_more}
use Rattle.std.proofs.lemmas.Option.{slice_get-get_or, slice_get_past}
use Rattle.std.proofs.lemmas.List.Concat.{flat_map-append}
use Rattle.std.proofs.lemmas.List.Edits.{insert-append_left, insert-append_right, remove-append_left, remove-append_right}
use Rattle.std.proofs.lemmas.List.Elements.{All-append, All-drop, All-take}
use Rattle.pol_blocks.specs.Blocks.{IsBlock, IsReplaced, IsSpot, block_at, contents, flat, number_of}
use Rattle.pol_blocks.specs.declared.place.Place.{Place}

-- the items before a block, those of it, and those behind it
pub flat-at : {T : Type 0} (blocks : List (List T)) (b : ℕ) → flat blocks ≡ flat (take b blocks) ++ (block_at blocks b ++ flat (drop (suc b) blocks))
flat-at [] zero = refl
flat-at [] (suc b) = refl
flat-at (first ∷ blocks) zero = refl
flat-at (first ∷ blocks) (suc b) = ap (λ rest. first ++ rest) (flat-at blocks b) ∙ sym (append_assoc first (flat (take b blocks)) (block_at blocks b ++ flat (drop (suc b) blocks)))

pub flat-replaced : {T : Type 0} (old new : List (List T)) (b : ℕ) (items : List T) → IsReplaced old new b items → flat new ≡ flat (take b old) ++ (items ++ flat (drop (suc b) old))
flat-replaced old new b items replaced =
    ap flat replaced.is
    ∙ flat_map-append (λ block. block) (take b old) (replaced.parts ++ drop (b + 1) old)
    ∙ ap (λ rest. flat (take b old) ++ rest) (flat_map-append (λ block. block) replaced.parts (drop (b + 1) old))
    ∙ (λ i. flat (take b old) ++ (replaced.have i ++ flat (drop (add-one b i) old)))

insert-middle : {T : Type 0} (front block rest : List T) (offset : ℕ) (item : T) → offset ≤ length block → insert (front ++ (block ++ rest)) (length front + offset) item ≡ front ++ (insert block offset item ++ rest)
insert-middle front block rest offset item within =
    insert-append_right front (block ++ rest) (length front) (length front + offset) item refl (omega arith)
    ∙ ap (λ n. front ++ insert (block ++ rest) n item) (omega arith)
    ∙ ap (λ some. front ++ some) (insert-append_left block rest offset item within)

remove-middle : {T : Type 0} (front block rest : List T) (offset : ℕ) → offset < length block → remove (front ++ (block ++ rest)) (length front + offset) ≡ front ++ (remove block offset ++ rest)
remove-middle front block rest offset inside =
    remove-append_right front (block ++ rest) (length front) (length front + offset) refl (omega arith)
    ∙ ap (λ n. front ++ remove (block ++ rest) n) (omega arith)
    ∙ ap (λ some. front ++ some) (remove-append_left block rest offset inside)

pub flat-insert : {T : Type 0} (old new : List (List T)) (b offset : ℕ) (item : T) → offset ≤ length (block_at old b) → IsReplaced old new b (insert (block_at old b) offset item) → flat new ≡ insert (flat old) (length (flat (take b old)) + offset) item
flat-insert old new b offset item within replaced =
    flat-replaced old new b (insert (block_at old b) offset item) replaced
    ∙ sym (ap (λ all. insert all (length (flat (take b old)) + offset) item) (flat-at old b) ∙ insert-middle (flat (take b old)) (block_at old b) (flat (drop (suc b) old)) offset item within)

pub flat-remove : {T : Type 0} (old new : List (List T)) (b offset : ℕ) → offset < length (block_at old b) → IsReplaced old new b (remove (block_at old b) offset) → flat new ≡ remove (flat old) (length (flat (take b old)) + offset)
flat-remove old new b offset inside replaced =
    flat-replaced old new b (remove (block_at old b) offset) replaced
    ∙ sym (ap (λ all. remove all (length (flat (take b old)) + offset)) (flat-at old b) ∙ remove-middle (flat (take b old)) (block_at old b) (flat (drop (suc b) old)) offset inside)

pub blocks-replaced : {T : Type 0} (old new : List (List T)) (b : ℕ) (items : List T) → IsReplaced old new b items → All IsBlock old → All IsBlock new
blocks-replaced old new b items replaced all =
    let now : All IsBlock (take b old ++ (replaced.parts ++ drop (b + 1) old)) =
    All-append IsBlock (take b old) (replaced.parts ++ drop (b + 1) old) (All-take IsBlock b old all) (All-append IsBlock replaced.parts (drop (b + 1) old) replaced.blocks (All-drop IsBlock (b + 1) old all)) in
    subst (λ blocks. All IsBlock blocks) (sym replaced.is) now

get-right : {T : Type 0} (front rest : List T) (n : ℕ) → slice_get (front ++ rest) (length front + n) ≡ slice_get rest n
get-right [] rest n = ap (λ k. slice_get rest k) (omega arith)
get-right (x ∷ front) rest n = ap (λ k. slice_get (x ∷ (front ++ rest)) k) (let e : suc (length front) + n ≡ suc (length front + n) = omega arith in e) ∙ get-right front rest n

get-left : {T : Type 0} (block rest : List T) (n : ℕ) → n < length block → slice_get (block ++ rest) n ≡ slice_get block n
get-left [] rest n inside = absurd (omega arith)
get-left (x ∷ block) rest zero inside = refl
get-left (x ∷ block) rest (suc n) inside = get-left block rest n (omega arith)

pub get-at : {T : Type 0} (blocks : List (List T)) (b offset : ℕ) → offset < length (block_at blocks b) → slice_get (flat blocks) (length (flat (take b blocks)) + offset) ≡ slice_get (block_at blocks b) offset
get-at blocks b offset inside =
    ap (λ all. slice_get all (length (flat (take b blocks)) + offset)) (flat-at blocks b)
    ∙ get-right (flat (take b blocks)) (block_at blocks b ++ flat (drop (suc b) blocks)) offset
    ∙ get-left (block_at blocks b) (flat (drop (suc b) blocks)) offset inside

-- what `get` of a slice gives
pub copied-get : {T : Type 0} (xs : List T) (n : ℕ) (found : Option (Bor T)) → MatchOption found (length xs ≤ n) (λ x. (n < length xs) × HoldsAt (λ y. x.now ≡ y) xs n) → option_copied found ≡ slice_get xs n
copied-get xs n None past = sym (slice_get_past xs n past)
copied-get xs n (Some x) (inside, is) = ap (λ y. Some y) (is x.now) ∙ sym (slice_get-get_or xs n x.now inside)

-- a block that was read
pub contents-at : {T Z : Type 0} (blocks : List (Vec T Z)) (b : ℕ) (block : Vec T Z) → b < length blocks → block ≡ get_or blocks b block → block.items ≡ block_at (contents blocks) b
contents-at blocks b block inside is = ap (λ (some : Vec _ _). some.items) is ∙ sym (get_or-map (λ (some : Vec _ _). some.items) blocks b block [] inside)

-- an item more in one of two parts
pub insert-behind : {T : Type 0} (items : List T) (half offset : ℕ) (item : T) → half ≤ offset → half ≤ length items → take half items ++ insert (drop half items) (offset - half) item ≡ insert items offset item
insert-behind items half offset item behind within =
    sym (insert-append_right (take half items) (drop half items) half offset item (length-take-le half items within) behind)
    ∙ ap (λ all. insert all offset item) (take-append-drop half items)

pub insert-front : {T : Type 0} (items : List T) (half offset : ℕ) (item : T) → offset ≤ half → half ≤ length items → insert (take half items) offset item ++ drop half items ≡ insert items offset item
insert-front items half offset item front within =
    sym (insert-append_left (take half items) (drop half items) offset item (subst (λ n. offset ≤ n) (sym (length-take-le half items within)) front))
    ∙ ap (λ all. insert all offset item) (take-append-drop half items)

-- an item is put in front of the one at a place
pub inserted-at : {T : Type 0} (old new : List (List T)) (place spot : Place) (item : T) → IsSpot old place spot → IsReplaced old new spot.block (insert (block_at old spot.block) spot.offset item) → flat new ≡ insert (flat old) (number_of old place) item
inserted-at old new place spot item is replaced =
    flat-insert old new spot.block spot.offset item is.within replaced ∙ ap (λ n. insert (flat old) n item) is.number

pub inserted-if : {T E : Type 0} (old new : List (List T)) (place spot : Place) (item : T) (result : Result (Unit {0}) E) → IsSpot old place spot → OnOk result (IsReplaced old new spot.block (insert (block_at old spot.block) spot.offset item)) → OnOk result (flat new ≡ insert (flat old) (number_of old place) item)
inserted-if old new place spot item (Ok u) is replaced = inserted-at old new place spot item is replaced
inserted-if old new place spot item (Err e) is replaced = tt

pub blocks-if : {T E : Type 0} (old new : List (List T)) (b : ℕ) (items : List T) (result : Result (Unit {0}) E) → OnOk result (IsReplaced old new b items) → OnErr result (new ≡ old) → All IsBlock old → All IsBlock new
blocks-if old new b items (Ok u) replaced kept all = blocks-replaced old new b items replaced all
blocks-if old new b items (Err e) replaced kept all = subst (λ blocks. All IsBlock blocks) (sym kept) all

-- the end of the block in front of a place
pub spot-in-front : {T : Type 0} (blocks : List (List T)) (place : Place) (offset : ℕ) → place.block ≤ length blocks → 0 < place.block → place.offset ≡ 0 → offset ≡ length (block_at blocks (place.block - 1)) → IsSpot blocks place (record { block = place.block - 1; offset = offset })
spot-in-front blocks place offset within behind none end =
    let b = place.block - 1 in
    let inside : b < length blocks = omega arith in
    let more : take place.block blocks ≡ take b blocks ++ block_at blocks b ∷ [] = ap (λ n. take n blocks) (let e : place.block ≡ b + 1 = omega arith in e) ∙ take_more blocks b [] inside in
    let all : flat (take place.block blocks) ≡ flat (take b blocks) ++ block_at blocks b =
    ap flat more ∙ flat_map-append (λ block. block) (take b blocks) (block_at blocks b ∷ []) ∙ ap (λ rest. flat (take b blocks) ++ rest) (append-nil (block_at blocks b)) in
    record {
      number = omega (arith, ap length all, length-append (flat (take b blocks)) (block_at blocks b), end, none);
      within = omega (arith, end);
      first = λ past. absurd (omega arith);
    }
