-- Where a search ends in a list of blocks.
use Rattle.std.proofs.Common.{◌≡◌, ℕ, zero, suc, ◌+◌, ◌-◌, ◌<◌, ◌≤◌, Bool, true, false, List, [], ◌∷◌, ◌++◌, length, take, drop, get_or, refl, ap, sym, ◌∙◌, subst, arith, add-one, length-append, true≢false, inl, inr, None, Some}
use Rattle.std.specs.List.{AllWithin}
use Rattle.std.specs.List.Sorted.{IsPartitionPoint, IsPartitionedBy}
use Rattle.std.specs.Prelude.{All, Vec, ◌⊎◌, option_map, slice_get, unwrap_or}
use Rattle.std.proofs.lemmas.Bool.{cases_lt, false_from_ne_true}
use Rattle.std.proofs.lemmas.List.{append-nil, drop_all, drop_more, get_or-map, get_or_default, length-map, take-append-drop, take-take, take_all, take_more}
use Rattle.std.proofs.lemmas.List.Concat.{flat_map-append, get_or-flat_map}
use Rattle.std.proofs.lemmas.List.Elements.{All-get_or}
use Rattle.std.proofs.lemmas.Option.{get_or_from_slice_get, slice_get-get_or, slice_get_within}
use Rattle.pol_blocks.specs.Blocks.{IsBlock, IsPlace, block_at, contents, ends_in, flat, number_of}
use Rattle.pol_blocks.specs.declared.place.Place.{Place}
use Rattle.pol_blocks.proofs.Flats.{contents-at}

-- how many items are in front of a block
abbrev start : {T : Type 0} → List (List T) → ℕ → ℕ
start blocks b = length (flat (take b blocks))

module _ {T : Type 0} (blocks : List (List T)) where
  start-more : (b : ℕ) → b < length blocks → start blocks (b + 1) ≡ start blocks b + length (block_at blocks b)
  start-more b inside =
      let all : flat (take (b + 1) blocks) ≡ flat (take b blocks) ++ block_at blocks b =
      ap flat (take_more blocks b [] inside) ∙ flat_map-append (λ block. block) (take b blocks) (block_at blocks b ∷ []) ∙ ap (λ rest. flat (take b blocks) ++ rest) (append-nil (block_at blocks b)) in
      ap length all ∙ length-append (flat (take b blocks)) (block_at blocks b)

  start-rises : (i j : ℕ) → i ≤ j → start blocks i ≤ start blocks j
  start-rises i j before =
      let parts : flat (take i blocks) ++ flat (drop i (take j blocks)) ≡ flat (take j blocks) =
      ap (λ some. flat some ++ flat (drop i (take j blocks))) (sym (take-take i j blocks before)) ∙ sym (flat_map-append (λ block. block) (take i (take j blocks)) (drop i (take j blocks))) ∙ ap flat (take-append-drop i (take j blocks)) in
      omega (arith, ap length parts, length-append (flat (take i blocks)) (flat (drop i (take j blocks))))

  start-all : (b : ℕ) → length blocks ≤ b → start blocks b ≡ length (flat blocks)
  start-all b past = ap (λ some. length (flat some)) (take_all b blocks past)

  start-within : (b : ℕ) → start blocks b ≤ length (flat blocks)
  start-within b =
      let parts : flat (take b blocks) ++ flat (drop b blocks) ≡ flat blocks = sym (flat_map-append (λ block. block) (take b blocks) (drop b blocks)) ∙ ap flat (take-append-drop b blocks) in
      omega (arith, ap length parts, length-append (flat (take b blocks)) (flat (drop b blocks)))

  item-at : (b j : ℕ) (d : T) → b < length blocks → j < length (block_at blocks b) → get_or (flat blocks) (start blocks b + j) d ≡ get_or (block_at blocks b) j d
  item-at b j d inside within = get_or-flat_map (λ block. block) blocks b j [] d inside within

-- an item of a list that has some
first-of : {A : Type 0} (items : List A) → 0 < length items → A
first-of [] some = absurd (omega arith)
first-of (x ∷ items) some = x

-- the last item of a block
module _ {T : Type 0} (passes : T → Bool) where
  ends-item : (items : List T) (d : T) → 0 < length items → ends_in passes items ≡ passes (get_or items (length items - 1) d)
  ends-item items d some = ap (λ last. unwrap_or (option_map passes last) true) (slice_get-get_or items (length items - 1) d (omega arith))

  ends-at : (blocks : List (List T)) (b : ℕ) (d : T) → b < length blocks → 0 < length (block_at blocks b) → ends_in passes (block_at blocks b) ≡ passes (get_or (flat blocks) (start blocks (b + 1) - 1) d)
  ends-at blocks b d inside some =
      let last = length (block_at blocks b) - 1 in
      let at : start blocks b + last ≡ start blocks (b + 1) - 1 = omega (arith, start-more blocks b inside) in
      ends-item (block_at blocks b) d some
      ∙ ap passes (sym (item-at blocks b last d inside (omega arith)) ∙ ap (λ n. get_or (flat blocks) n d) at)

  -- where the items that pass stand in front, so do the blocks whose last item does
  pub blocks-parted : (blocks : List (List T)) → All IsBlock blocks → IsPartitionedBy passes (flat blocks) → IsPartitionedBy (ends_in passes) blocks
  blocks-parted blocks all parted i j d before inside holds =
      let within : i < length blocks = omega arith in
      let one : IsBlock (block_at blocks i) = All-get_or IsBlock blocks i [] within all in
      let other : IsBlock (block_at blocks j) = All-get_or IsBlock blocks j [] inside all in
      let item = first-of (block_at blocks j) other.some in
      let last : passes (get_or (flat blocks) (start blocks (j + 1) - 1) item) ≡ true =
      sym (ends-at blocks j item inside other.some) ∙ ap (ends_in passes) (sym (get_or_default blocks j d [] inside)) ∙ holds in
      ap (ends_in passes) (get_or_default blocks i d [] within)
      ∙ ends-at blocks i item within one.some
      ∙ parted (start blocks (i + 1) - 1) (start blocks (j + 1) - 1) item
      (let rises : start blocks (i + 1) ≤ start blocks (j + 1) = start-rises blocks (i + 1) (j + 1) (omega arith) in omega arith)
      (omega (arith, start-within blocks (j + 1), start-more blocks j inside, other.some))
      last

  pub parts-parted : {Z : Type 0} (parts : List (Vec T Z)) → IsPartitionedBy (ends_in passes) (contents parts) → IsPartitionedBy (λ (block : Vec T Z). ends_in passes block.items) parts
  parts-parted {Z} parts parted i j d before inside holds =
      let f : Vec T Z → List T = λ some. some.items in
      let within : j < length (contents parts) = subst (λ n. j < n) (sym (length-map parts f)) inside in
      ap (ends_in passes) (sym (get_or-map f parts i d d.items (omega arith)))
      ∙ parted i j d.items before within (ap (ends_in passes) (get_or-map f parts j d d.items inside) ∙ holds)

  pub block-parted : (blocks : List (List T)) (b : ℕ) → b < length blocks → IsPartitionedBy passes (flat blocks) → IsPartitionedBy passes (block_at blocks b)
  block-parted blocks b inside parted i j d before within holds =
      ap passes (sym (item-at blocks b i d inside (omega arith)))
      ∙ parted (start blocks b + i) (start blocks b + j) d (omega arith) (omega (arith, start-within blocks (b + 1), start-more blocks b inside)) (ap passes (item-at blocks b j d inside within) ∙ holds)

  -- a search among the blocks goes over to what they have
  pub within-contents : {Z : Type 0} (P : List T → Type 0) (parts : List (Vec T Z)) (low high : ℕ) → high ≤ length parts → AllWithin (λ (block : Vec T Z). P block.items) parts low high → AllWithin P (contents parts) low high
  within-contents {Z} P parts low high bound all k d above below =
      let f : Vec T Z → List T = λ some. some.items in
      let block = first-of parts (omega arith) in
      let inside : k < length parts = omega arith in
      subst P (sym (get_or-map f parts k block d inside)) (all k block above below)

  -- an item of a block doesn't pass where its last one doesn't
  pub offset-inside : (items : List T) (offset : ℕ) → 0 < length items → offset ≤ length items → AllWithin (λ item. passes item ≡ true) items 0 offset → ends_in passes items ≡ false → offset < length items
  offset-inside items offset some bound front fails = by (cases_lt offset (length items))
    where
      by : (offset < length items) ⊎ (length items ≤ offset) → offset < length items
      by (inl inside) = inside
      by (inr past) =
          let item = first-of items some in
          absurd (true≢false (sym (front (length items - 1) item (omega arith) (omega arith)) ∙ sym (ends-item items item some) ∙ fails))

  -- the place where the items that pass end
  point : (items : List T) (n : ℕ) → IsPartitionedBy passes items → n ≤ length items → ((d : T) → 0 < n → passes (get_or items (n - 1) d) ≡ true) → ((d : T) → n < length items → passes (get_or items n d) ≡ false) → IsPartitionPoint (λ item. passes item ≡ true) (λ item. passes item ≡ false) items n
  point items n parted within before behind = (
    (λ k d low high. parted k (n - 1) d (omega arith) (omega arith) (before d (omega arith))),
    (λ k d low high. false_from_ne_true (passes (get_or items k d)) (λ holds. true≢false (sym (parted n k d low high holds) ∙ behind d (omega arith)))),
  )

  module _ (blocks : List (List T)) (all : All IsBlock blocks) (parted : IsPartitionedBy passes (flat blocks)) (b : ℕ) (bound : b ≤ length blocks) (front : AllWithin (λ items. ends_in passes items ≡ true) blocks 0 b) where
    -- the last item in front of a block passes
    last-in-front : (d : T) → 0 < start blocks b → passes (get_or (flat blocks) (start blocks b - 1) d) ≡ true
    last-in-front d some = by b refl
      where
        by : (n : ℕ) → b ≡ n → passes (get_or (flat blocks) (start blocks b - 1) d) ≡ true
        by zero is = absurd (omega (arith, some, ap (λ n. start blocks n) is))
        by (suc n) is =
            let inside : n < length blocks = omega arith in
            let block : IsBlock (block_at blocks n) = All-get_or IsBlock blocks n [] inside all in
            ap (λ k. passes (get_or (flat blocks) (start blocks k - 1) d)) (is ∙ sym (add-one n))
            ∙ sym (ends-at blocks n d inside block.some)
            ∙ front n [] (omega arith) (omega arith)

    pub found-end : length blocks ≤ b → IsPartitionPoint (λ item. passes item ≡ true) (λ item. passes item ≡ false) (flat blocks) (start blocks b + 0)
    found-end past =
        let end : start blocks b + 0 ≡ start blocks b = omega arith in
        let whole : start blocks b ≡ length (flat blocks) = start-all blocks b past in
        point (flat blocks) (start blocks b + 0) parted (omega arith)
        (λ d some. ap (λ n. passes (get_or (flat blocks) (n - 1) d)) end ∙ last-in-front d (omega arith))
        (λ d inside. absurd (omega arith))

    pub found-in : (offset : ℕ) → b < length blocks → offset < length (block_at blocks b) → IsPartitionPoint (λ item. passes item ≡ true) (λ item. passes item ≡ false) (block_at blocks b) offset → IsPartitionPoint (λ item. passes item ≡ true) (λ item. passes item ≡ false) (flat blocks) (start blocks b + offset)
    found-in offset inside within split =
        point (flat blocks) (start blocks b + offset) parted
        (omega (arith, start-within blocks (b + 1), start-more blocks b inside))
        (λ d some. before offset refl d some)
        (λ d some. ap passes (item-at blocks b offset d inside within) ∙ split.1 offset d (omega arith) within)
      where
        before : (n : ℕ) → offset ≡ n → (d : T) → 0 < start blocks b + offset → passes (get_or (flat blocks) (start blocks b + offset - 1) d) ≡ true
        before zero is d some =
            ap (λ n. passes (get_or (flat blocks) (n - 1) d)) (let e : start blocks b + offset ≡ start blocks b = omega arith in e) ∙ last-in-front d (omega arith)
        before (suc n) is d some =
            ap (λ k. passes (get_or (flat blocks) k d)) (let e : start blocks b + offset - 1 ≡ start blocks b + n = omega arith in e)
            ∙ ap passes (item-at blocks b n d inside (omega arith))
            ∙ split.0 n d (omega arith) (omega arith)

-- the item at a place, and the place behind it
module _ {T : Type 0} (blocks : List (List T)) (place : Place) (is : IsPlace blocks place) where
  pub item-place : number_of blocks place < length (flat blocks) → place.block < length blocks
  item-place item = by (cases_lt place.block (length blocks))
    where
      by : (place.block < length blocks) ⊎ (length blocks ≤ place.block) → place.block < length blocks
      by (inl inside) = inside
      by (inr past) = absurd (omega (arith, start-all blocks place.block past))

  pub place-within : number_of blocks place ≤ length (flat blocks)
  place-within = by (cases_lt place.block (length blocks))
    where
      by : (place.block < length blocks) ⊎ (length blocks ≤ place.block) → number_of blocks place ≤ length (flat blocks)
      by (inl inside) =
          let whole : start blocks (place.block + 1) ≡ start blocks place.block + length (block_at blocks place.block) = start-more blocks place.block inside in
          let within : place.offset < length (block_at blocks place.block) = is.inside inside in
          omega (arith, start-within blocks (place.block + 1))
      by (inr past) =
          let last : place.block ≡ length blocks = omega (arith, is.within) in
          omega (arith, is.end last, start-within blocks place.block)

  module _ (inside : place.block < length blocks) where
    pub next-item : (offset : ℕ) → offset ≡ place.offset + 1 → offset < length (block_at blocks place.block) → IsPlace blocks (record { block = place.block; offset = offset })
    next-item offset next within = record { within = omega arith; inside = λ there. within; end = λ past. absurd (omega arith) }

    pub next-block : (block : ℕ) → block ≡ place.block + 1 → All IsBlock blocks → IsPlace blocks (record { block = block; offset = 0 })
    next-block block next all = record { within = omega arith; inside = λ there. (All-get_or IsBlock blocks block [] there all).some; end = λ past. refl }

    pub next-number : (block : ℕ) → block ≡ place.block + 1 → length (block_at blocks place.block) ≤ place.offset + 1 → number_of blocks (record { block = block; offset = 0 }) ≡ number_of blocks place + 1
    next-number block next last =
        let whole : start blocks block ≡ start blocks place.block + length (block_at blocks place.block) = ap (λ n. start blocks n) next ∙ start-more blocks place.block inside in
        let within : place.offset < length (block_at blocks place.block) = is.inside inside in
        omega arith

-- the first of the items that are left
pub first-left : {T : Type 0} (items : List T) (n : ℕ) (x : T) → Some x ≡ slice_get items n → drop n items ≡ x ∷ drop (n + 1) items
first-left items n x is = drop_more items n x (slice_get_within items n x (sym is)) ∙ ap (λ y. y ∷ drop (n + 1) items) (get_or_from_slice_get items n x x (sym is))

pub none-left : {T : Type 0} (items : List T) (n : ℕ) → None ≡ slice_get items n → drop n items ≡ []
none-left items n is = by (cases_lt n (length items))
  where
    by : (n < length items) ⊎ (length items ≤ n) → drop n items ≡ []
    by (inl inside) = let found = slice_get-get_or items n (first-of items (omega arith)) inside in cc
    by (inr past) = drop_all n items past

pub item-there : {T : Type 0} (blocks : List (List T)) (place : Place) (x : T) → IsPlace blocks place → Some x ≡ slice_get (flat blocks) (number_of blocks place) → place.block < length blocks
item-there blocks place x is found = item-place blocks place is (slice_get_within (flat blocks) (number_of blocks place) x (sym found))

pub first-place : {T : Type 0} (blocks : List (List T)) → All IsBlock blocks → IsPlace blocks (record { block = 0; offset = 0 })
first-place blocks all = record { within = omega arith; inside = λ there. (All-get_or IsBlock blocks 0 [] there all).some; end = λ past. refl }

-- what a search finds: among the last items of the blocks, and then in one block
module _ {T Z : Type 0} (passes : T → Bool) (parts slice : List (Vec T Z)) (list : List (List T)) (view : contents parts ≡ list) (all : All IsBlock (contents parts)) (parted : IsPartitionedBy passes (flat list)) (same : slice ≡ parts) where
  parted-too : IsPartitionedBy passes (flat (contents parts))
  parted-too = subst (λ (some : List (List T)). IsPartitionedBy passes (flat some)) (sym view) parted

  pub slice-parted : IsPartitionedBy (λ (block : Vec T Z). ends_in passes block.items) slice
  slice-parted =
      subst (λ (some : List (Vec T Z)). IsPartitionedBy (λ (block : Vec T Z). ends_in passes block.items) some) (sym same)
      (parts-parted passes parts (blocks-parted passes (contents parts) all parted-too))

  module _ (b : ℕ) (bound : b ≤ length slice) (split : IsPartitionPoint (λ (block : Vec T Z). ends_in passes block.items ≡ true) (λ (block : Vec T Z). ends_in passes block.items ≡ false) slice b) where
    bound-too : b ≤ length (contents parts)
    bound-too = subst (λ n. b ≤ n) (ap length same ∙ sym (length-map parts (λ (some : Vec T Z). some.items))) bound

    front-too : AllWithin (λ items. ends_in passes items ≡ true) (contents parts) 0 b
    front-too =
        within-contents passes (λ items. ends_in passes items ≡ true) parts 0 b (subst (λ (some : List (Vec T Z)). b ≤ length some) same bound)
        (subst (λ (some : List (Vec T Z)). AllWithin (λ (block : Vec T Z). ends_in passes block.items ≡ true) some 0 b) same split.0)

    behind-too : AllWithin (λ items. ends_in passes items ≡ false) (contents parts) b (length parts)
    behind-too =
        within-contents passes (λ items. ends_in passes items ≡ false) parts b (length parts) (omega arith)
        (subst (λ (some : List (Vec T Z)). AllWithin (λ (block : Vec T Z). ends_in passes block.items ≡ false) some b (length some)) same split.1)

    pub split-end : length parts ≤ b → IsPartitionPoint (λ item. passes item ≡ true) (λ item. passes item ≡ false) (flat list) (number_of list (record { block = b; offset = 0 }))
    split-end past =
        subst (λ (some : List (List T)). IsPartitionPoint (λ item. passes item ≡ true) (λ item. passes item ≡ false) (flat some) (number_of some (record { block = b; offset = 0 }))) view
        (found-end passes (contents parts) all parted-too b bound-too front-too (subst (λ n. n ≤ b) (sym (length-map parts (λ (some : Vec T Z). some.items))) past))

    module _ (inside : b < length parts) (block : Vec T Z) (read : block ≡ get_or parts b block) (items : List T) (is : items ≡ block.items) where
      inside-too : b < length (contents parts)
      inside-too = subst (λ n. b < n) (sym (length-map parts (λ (some : Vec T Z). some.items))) inside

      at : items ≡ block_at (contents parts) b
      at = is ∙ contents-at parts b block inside read

      pub item-parted : IsPartitionedBy passes items
      item-parted = subst (λ (some : List T). IsPartitionedBy passes some) (sym at) (block-parted passes (contents parts) b inside-too parted-too)

      module _ (offset : ℕ) (limit : offset ≤ length items) (point-is : IsPartitionPoint (λ item. passes item ≡ true) (λ item. passes item ≡ false) items offset) where
        point-too : IsPartitionPoint (λ item. passes item ≡ true) (λ item. passes item ≡ false) (block_at (contents parts) b) offset
        point-too = subst (λ (some : List T). IsPartitionPoint (λ item. passes item ≡ true) (λ item. passes item ≡ false) some offset) at point-is

        offset-too : offset < length (block_at (contents parts) b)
        offset-too =
            offset-inside passes (block_at (contents parts) b) offset (All-get_or IsBlock (contents parts) b [] inside-too all).some
            (subst (λ (some : List T). offset ≤ length some) at limit) point-too.0 (behind-too b [] (omega arith) inside)

        pub split-place : IsPlace list (record { block = b; offset = offset })
        split-place =
            subst (λ (some : List (List T)). IsPlace some (record { block = b; offset = offset })) view
            (record { within = bound-too; inside = λ there. offset-too; end = λ past. absurd (omega (arith, inside-too)) })

        pub split-in : IsPartitionPoint (λ item. passes item ≡ true) (λ item. passes item ≡ false) (flat list) (number_of list (record { block = b; offset = offset }))
        split-in =
            subst (λ (some : List (List T)). IsPartitionPoint (λ item. passes item ≡ true) (λ item. passes item ≡ false) (flat some) (number_of some (record { block = b; offset = offset }))) view
            (found-in passes (contents parts) all parted-too b bound-too front-too offset inside-too offset-too point-too)
