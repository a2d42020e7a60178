-- What an edit of one block leaves of a list of blocks.
use Rattle.std.proofs.Common.{◌≡◌, ℕ, suc, ◌+◌, ◌<◌, ◌≤◌, List, [], ◌∷◌, ◌++◌, length, take, drop, get_or, set, map, ap, sym, ◌∙◌, subst, arith, add-one, append_assoc, Ok, Err, Result, is_ok, cond, Some}
use Rattle.std.specs.Prelude.{OnErr, OnOk, Vec, insert, remove, slice_get}
use Rattle.std.proofs.lemmas.List.{append-nil, drop-map, drop-set-lt, drop_all, get_or_past, length-map, map-append, map-set, nil_from_length, set-get_or, set_split, take-map, take-set, take_more_set}
use Rattle.std.proofs.lemmas.Option.{slice_get-get_or}
use Rattle.std.proofs.lemmas.List.Edits.{length-insert, length-remove}
use Rattle.std.proofs.lemmas.List.Elements.{All-cons, All-nil}
use Rattle.pol_blocks.specs.Blocks.{IsBlock, IsReplaced, block_at, contents}
use Rattle.pol_blocks.proofs.Flats.{contents-at}

-- one block in place of another
pub replaced-set : {T Z : Type 0} (parts : List (Vec T Z)) (b : ℕ) (block : Vec T Z) → b < length parts → IsBlock block.items → IsReplaced (contents parts) (contents (set parts b block)) b block.items
replaced-set {T} {Z} parts b block inside is_block =
    let f : Vec T Z → List T = λ some. some.items in
    record {
      parts = block.items ∷ [];
      is = map-set f parts b block ∙ set_split (contents parts) b block.items (subst (λ n. b < n) (sym (length-map parts f)) inside) ∙ ap (λ n. take b (contents parts) ++ block.items ∷ drop n (contents parts)) (sym (add-one b));
      have = append-nil block.items;
      blocks = All-cons IsBlock block.items [] is_block (All-nil IsBlock);
    }

-- a block more
contents-insert : {T Z : Type 0} (parts : List (Vec T Z)) (b : ℕ) (block : Vec T Z) → contents (insert parts b block) ≡ insert (contents parts) b block.items
contents-insert {T} {Z} parts b block =
    let f : Vec T Z → List T = λ some. some.items in
    map-append f (take b parts) (block ∷ drop b parts) ∙ (λ i. sym (take-map f b parts) i ++ block.items ∷ sym (drop-map f b parts) i)

-- the first block
pub replaced-none : {T Z : Type 0} (parts new : List (Vec T Z)) (b offset : ℕ) (item : T) (more : List T) (block : Vec T Z) → b ≡ length parts → offset ≡ 0 → more ≡ [] → block.items ≡ insert more 0 item → new ≡ insert parts b block → IsReplaced (contents parts) (contents new) b (insert (block_at (contents parts) b) offset item)
replaced-none {T} {Z} parts new b offset item more block last first empty items is =
    let old = contents parts in
    let past : length old ≤ b = omega (arith, length-map parts (λ (some : Vec T Z). some.items)) in
    let one : block.items ≡ item ∷ [] = items ∙ ap (λ some. insert some 0 item) empty in
    record {
      parts = (item ∷ []) ∷ [];
      is = ap contents is ∙ contents-insert parts b block ∙ (λ i. take b old ++ one i ∷ (drop_all b old past ∙ sym (drop_all (b + 1) old (omega arith))) i);
      have = λ i. insert (sym (get_or_past old b [] past) i) (sym first i) item;
      blocks = All-cons IsBlock (item ∷ []) [] (record { some = omega arith; few = omega arith }) (All-nil IsBlock);
    }

-- two blocks in place of one
replaced-two : {T Z : Type 0} (parts new : List (Vec T Z)) (b : ℕ) (front behind : Vec T Z) (items : List T) → b < length parts → IsBlock front.items → IsBlock behind.items → front.items ++ behind.items ≡ items → new ≡ insert (set parts b front) (b + 1) behind → IsReplaced (contents parts) (contents new) b items
replaced-two {T} {Z} parts new b front behind items inside front_is behind_is have is =
    let f : Vec T Z → List T = λ some. some.items in
    let old = contents parts in
    let within : b < length old = omega (arith, length-map parts f) in
    record {
      parts = front.items ∷ behind.items ∷ [];
      is =
          ap contents is
          ∙ contents-insert (set parts b front) (b + 1) behind
          ∙ ap (λ some. insert some (b + 1) behind.items) (map-set f parts b front)
          ∙ (λ i. take_more_set old b front.items within i ++ behind.items ∷ drop-set-lt (b + 1) old b front.items (omega arith) i)
          ∙ append_assoc (take b old) (front.items ∷ []) (behind.items ∷ drop (b + 1) old);
      have = ap (λ some. front.items ++ some) (append-nil behind.items) ∙ have;
      blocks = All-cons IsBlock front.items (behind.items ∷ []) front_is (All-cons IsBlock behind.items [] behind_is (All-nil IsBlock));
    }

pub replaced-split : {T Z : Type 0} (parts new : List (Vec T Z)) (b offset : ℕ) (block front behind : Vec T Z) (item : T) → b < length parts → block ≡ get_or parts b block → IsBlock front.items → IsBlock behind.items → front.items ++ behind.items ≡ insert block.items offset item → new ≡ insert (set parts b front) (b + 1) behind → IsReplaced (contents parts) (contents new) b (insert (block_at (contents parts) b) offset item)
replaced-split parts new b offset block front behind item inside read front_is behind_is have is =
    replaced-two parts new b front behind (insert (block_at (contents parts) b) offset item) inside front_is behind_is
    (have ∙ ap (λ some. insert some offset item) (contents-at parts b block inside read)) is

-- no block in place of one
pub replaced-gone : {T Z : Type 0} (parts new : List (Vec T Z)) (b : ℕ) (block : Vec T Z) (items : List T) → b < length parts → block.items ≡ items → length items ≡ 0 → new ≡ remove (set parts b block) b → IsReplaced (contents parts) (contents new) b items
replaced-gone {T} {Z} parts new b block items inside have none is =
    let f : Vec T Z → List T = λ some. some.items in
    let old = contents parts in
    record {
      parts = [];
      is =
          ap contents is
          ∙ map-append f (take b (set parts b block)) (drop (suc b) (set parts b block))
          ∙ (λ i. map f (take-set parts b block i) ++ map f (drop-set-lt (suc b) parts b block (omega arith) i))
          ∙ (λ i. sym (take-map f b parts) i ++ sym (drop-map f (suc b) parts) i)
          ∙ ap (λ n. take b old ++ drop n old) (sym (add-one b));
      have = sym (nil_from_length items none);
      blocks = All-nil IsBlock;
    }

module _ {T Z : Type 0} (parts : List (Vec T Z)) (b : ℕ) (block new : Vec T Z) (inside : b < length parts) (read : block ≡ get_or parts b block) where
  -- a block stays
  pub kept-set : new.items ≡ block.items → contents (set parts b new) ≡ contents parts
  kept-set same =
      let f : Vec T Z → List T = λ some. some.items in
      map-set f parts b new
      ∙ ap (λ items. set (contents parts) b items) (same ∙ contents-at parts b block inside read)
      ∙ set-get_or (contents parts) b []

  -- a block with an item more
  pub put-in : {E : Type 0} (offset : ℕ) (item : T) (result : Result (Unit {0}) E) → offset ≤ length (block_at (contents parts) b) → length (block_at (contents parts) b) < 32 → new.items ≡ cond (is_ok result) (insert block.items offset item) block.items → OnOk result (IsReplaced (contents parts) (contents (set parts b new)) b (insert (block_at (contents parts) b) offset item))
  put-in offset item (Ok u) within room is =
      let items : new.items ≡ insert (block_at (contents parts) b) offset item = is ∙ ap (λ some. insert some offset item) (contents-at parts b block inside read) in
      let many : length new.items ≡ length (block_at (contents parts) b) + 1 = ap length items ∙ length-insert (block_at (contents parts) b) offset item within in
      subst (IsReplaced (contents parts) (contents (set parts b new)) b) items (replaced-set parts b new inside (record { some = omega arith; few = omega arith }))
  put-in offset item (Err e) within room is = tt

  pub put-kept : {E : Type 0} (offset : ℕ) (item : T) (result : Result (Unit {0}) E) → new.items ≡ cond (is_ok result) (insert block.items offset item) block.items → OnErr result (contents (set parts b new) ≡ contents parts)
  put-kept offset item (Ok u) is = tt
  put-kept offset item (Err e) is = kept-set is

  -- a block without an item, which has others
  pub take-from : (offset : ℕ) → offset < length (block_at (contents parts) b) → length (block_at (contents parts) b) ≤ 32 → new.items ≡ remove block.items offset → 0 < length new.items → IsReplaced (contents parts) (contents (set parts b new)) b (remove (block_at (contents parts) b) offset)
  take-from offset within few is some =
      let items : new.items ≡ remove (block_at (contents parts) b) offset = is ∙ ap (λ all. remove all offset) (contents-at parts b block inside read) in
      let many : length new.items + 1 ≡ length (block_at (contents parts) b) = ap (λ all. length all + 1) items ∙ length-remove (block_at (contents parts) b) offset within in
      subst (IsReplaced (contents parts) (contents (set parts b new)) b) items (replaced-set parts b new inside (record { some = some; few = omega arith }))

  pub take-last : (after : List (Vec T Z)) (offset : ℕ) → new.items ≡ remove block.items offset → length new.items ≡ 0 → after ≡ remove (set parts b new) b → IsReplaced (contents parts) (contents after) b (remove (block_at (contents parts) b) offset)
  take-last after offset is none gone =
      let items : new.items ≡ remove (block_at (contents parts) b) offset = is ∙ ap (λ all. remove all offset) (contents-at parts b block inside read) in
      replaced-gone parts after b new (remove (block_at (contents parts) b) offset) inside items (ap length (sym items) ∙ none) gone

  pub taken : (offset : ℕ) (item : T) → offset < length (block_at (contents parts) b) → item ≡ get_or block.items offset item → Some item ≡ slice_get (block_at (contents parts) b) offset
  taken offset item within is =
      ap (λ x. Some x) (is ∙ ap (λ all. get_or all offset item) (contents-at parts b block inside read))
      ∙ sym (slice_get-get_or (block_at (contents parts) b) offset item within)

  -- an item in place of another
  pub exchanged : (offset : ℕ) (item : T) → new.items ≡ set block.items offset item → contents (set parts b new) ≡ set (contents parts) b (set (block_at (contents parts) b) offset item)
  exchanged offset item is =
      map-set (λ (some : Vec T Z). some.items) parts b new
      ∙ ap (λ items. set (contents parts) b items) (is ∙ ap (λ some. set some offset item) (contents-at parts b block inside read))
