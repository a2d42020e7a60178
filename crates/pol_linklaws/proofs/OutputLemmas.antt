-- One output: two links that were served on the same input.
use Rattle.std.proofs.Common.{◌≡◌, ◌≢◌, ◌≤◌, ◌+◌, ℕ, true, false, List, [], ◌∷◌, ◌++◌, map, length, Option, Some, None, refl, sym, ap, subst, ◌∙◌, inl, inr, arith, append-nil, append_assoc, length-append}
use Rattle.std.specs.List.{flat_map, AllByRecursion}
use Rattle.std.specs.Io.KnownBytes.{Consumes}
use Rattle.pol_http.specs.Head.{closes}
use Rattle.pol_http.specs.Message.{ReadsMessage, print_message}
use Rattle.pol_http.proofs.MessageLemmas.{message_unique}
use Rattle.pol_server.specs.Seen.{entry_number}
use Rattle.pol_server.specs.SeenObjects.{object_entry_number}
use Rattle.pol_server.specs.Ends.{Ends}
use Rattle.pol_linklaws.specs.Laws.{IsByInput, IsKnown, IsUnhindered, OneOutput}
use Rattle.pol_server.specs.Link.{ServesLink, taken_bound}
use Rattle.pol_server.specs.Both.{BothGoOnAlone, HasSeenBoth, catalogue_place, object_place, SeenBoth}
use Rattle.pol_server.specs.Turn.{Case, IsAnswered, Turn, acted, catalogue_spot, full, object_spot, output_of, place_by, place_of, stepped, unacted, undrawn, unplanned, unstored, untold, unwritten, without_memory}
use Rattle.pol_server.specs.declared.served.Ending.{Ending}
use Rattle.pol_server.specs.declared.served.Ending.TheVariants.{Ended, Cut, Closed, ReadFault, WriteFault, Spent, NoMemory}
use Rattle.pol_server.specs.declared.served.Served.{Served}
use Rattle.pol_linklaws.proofs.AlikeLemmas.{Alike, Fronts, Trace, all-act, all-enter, before-actions, before-entries, behind-first, catalogue-entries, first-action, first-entry, first-moments, first-reads, first-words, front-of, fronts-after, fronts-of, later-bytes, object-entries, same-turn, stores-of, trace-later}
use Rattle.pol_linklaws.proofs.SpotLemmas.{Follows, follows-alone, spot_places}
use Rattle.pol_linklaws.proofs.StopsLemmas.{EndsAfter, ends-after, same-stop, stops-before}

-- the bytes behind a message are no fewer than those that were not taken
later-near : (total : ℕ) (turns : List Turn) (rest left : List ℕ) → total ≤ length left + taken_bound
    → total ≤ length (flat_map (λ turn. print_message turn.message) turns ++ (rest ++ left)) + taken_bound
later-near total turns rest left near =
    omega (arith, near, length-append (flat_map (λ turn. print_message turn.message) turns) (rest ++ left), length-append rest left)

module _ (start : SeenBoth) (new other : Fronts) (total : ℕ) (rest left text rest' left' text' : List ℕ) (one two : Ending) where
  first-same : (past : Fronts) (bytes : List ℕ) (moments words : ℕ → ℕ) (a b : Turn) (a_later b_later : List Turn)
      → Trace start new past bytes moments words (a ∷ a_later) rest left → Trace start other past bytes moments words (b ∷ b_later) rest' left'
      → (a ≡ b) × (later-bytes start new past bytes moments words a a_later rest left ≡ later-bytes start other past bytes moments words b b_later rest' left')
  first-same past bytes moments words a b a_later b_later x y =
      let messages = message_unique bytes a.message b.message _ _ (first-reads start new past bytes moments words a a_later rest left x) (first-reads start other past bytes moments words b b_later rest' left' y) in
      let alike : Alike past new other moments words a b = record {
        message = messages.0;
        first_moments = first-moments start new past bytes moments words a a_later rest left x;
        second_moments = first-moments start other past bytes moments words b b_later rest' left' y;
        first_words = first-words start new past bytes moments words a a_later rest left x;
        second_words = first-words start other past bytes moments words b b_later rest' left' y;
        first_entries = before-entries start new past bytes moments words a a_later rest left x;
        second_entries = before-entries start other past bytes moments words b b_later rest' left' y;
        first_actions = before-actions start new past bytes moments words a a_later rest left x;
        second_actions = before-actions start other past bytes moments words b b_later rest' left' y;
      } in (
        same-turn start past new other moments words a b alike a.case b.case refl refl
            (first-entry start new past bytes moments words a a_later rest left x) (first-entry start other past bytes moments words b b_later rest' left' y)
            (first-action start new past bytes moments words a a_later rest left x) (first-action start other past bytes moments words b b_later rest' left' y)
            x.unhindered.0 y.unhindered.0 x.answered.0 y.answered.0,
        messages.1,
      )

  -- the second link behind its first turn, told by the first link's
  later-alike : (past : Fronts) (moments words : ℕ → ℕ) (bytes bytes' : List ℕ) (a b : Turn) (b_later : List Turn) → a ≡ b → bytes ≡ bytes'
      → Trace start other (fronts-after start past b) bytes' (behind-first moments (length b.moments)) (behind-first words (length b.words)) b_later rest' left'
      → Trace start other (fronts-after start past a) bytes (behind-first moments (length a.moments)) (behind-first words (length a.words)) b_later rest' left'
  later-alike past moments words bytes bytes' a b b_later turn is trace =
      subst (λ turn. Trace start other (fronts-after start past turn) bytes (behind-first moments (length turn.moments)) (behind-first words (length turn.words)) b_later rest' left') (sym turn)
      (subst (λ bytes. Trace start other (fronts-after start past b) bytes (behind-first moments (length b.moments)) (behind-first words (length b.words)) b_later rest' left') (sym is) trace)

  closes-alike : (a b : Turn) → a ≡ b → closes a.message.head ≡ true → closes b.message.head ≡ false → ⊥
  closes-alike a b is closing open_ =
      let both : closes a.message.head ≡ closes b.message.head = ap (λ turn. closes turn.message.head) is in
      cc (both, closing, open_)

  same-link : (past : Fronts) (bytes : List ℕ) (moments words : ℕ → ℕ) (turns others : List Turn)
      → Trace start new past bytes moments words turns rest left → Trace start other past bytes moments words others rest' left'
      → total ≤ length left + taken_bound → total ≤ length left' + taken_bound
      → EndsAfter total one turns rest left text → EndsAfter total two others rest' left' text' → (turns ≡ others) × (one ≡ two) × (text ≡ text')
  same-link past bytes moments words [] [] x y near near' first second =
      let ends = same-stop total rest left text rest' left' text' one two (sym x.bytes_are ∙ y.bytes_are) near near' first second in
      (refl, ends.0, ends.1)
  same-link past bytes moments words [] (b ∷ b_later) x y near near' first second =
      absurd (stops-before total rest left text one b.message (later-bytes start other past bytes moments words b b_later rest' left') (later-near total b_later rest' left' near') first (subst (λ all. ReadsMessage all b.message (later-bytes start other past bytes moments words b b_later rest' left')) x.bytes_are (first-reads start other past bytes moments words b b_later rest' left' y)))
  same-link past bytes moments words (a ∷ a_later) [] x y near near' first second =
      absurd (stops-before total rest' left' text' two a.message (later-bytes start new past bytes moments words a a_later rest left) (later-near total a_later rest left near) second (subst (λ all. ReadsMessage all a.message (later-bytes start new past bytes moments words a a_later rest left)) y.bytes_are (first-reads start new past bytes moments words a a_later rest left x)))
  same-link past bytes moments words (a ∷ a_later) (b ∷ b_later) x y near near' (inl first) (inl second) =
      let turn = (first-same past bytes moments words a b a_later b_later x y).0 in
      let later : a_later ≡ b_later = first.1 ∙ sym second.1 in
      (λ i. turn i ∷ later i, first.2 ∙ sym second.2, first.3 ∙ sym second.3)
  same-link past bytes moments words (a ∷ a_later) (b ∷ b_later) x y near near' (inl first) (inr second) =
      absurd (closes-alike a b (first-same past bytes moments words a b a_later b_later x y).0 first.0 second.0)
  same-link past bytes moments words (a ∷ a_later) (b ∷ b_later) x y near near' (inr first) (inl second) =
      absurd (closes-alike b a (sym (first-same past bytes moments words a b a_later b_later x y).0) second.0 first.0)
  same-link past bytes moments words (a ∷ a_later) (b ∷ b_later) x y near near' (inr first) (inr second) =
      let same = first-same past bytes moments words a b a_later b_later x y in
      let later = same-link (fronts-after start past a) _ (behind-first moments (length a.moments)) (behind-first words (length a.words)) a_later b_later
      (trace-later start new past bytes moments words a a_later rest left x)
      (later-alike past moments words _ _ a b b_later same.0 same.1 (trace-later start other past bytes moments words b b_later rest' left' y))
      near near' first.1 second.1 in
      (λ i. same.0 i ∷ later.0 i, later.1, later.2)

-- the bytes that are left of a known source
left-of : (a b : Option (List ℕ)) (bytes taken : List ℕ) → a ≡ Some bytes → Consumes a b taken → (left : List ℕ) × (b ≡ Some left) × (bytes ≡ taken ++ left)
left-of None b bytes taken known takes = cc
left-of (Some all) None bytes taken known takes = absurd takes
left-of (Some all) (Some left) bytes taken known takes =
    let is : all ≡ bytes = cc known in
    (left, refl, sym is ∙ takes)

-- the places of a case are those of its spots
catalogue-alike : (case : Case) → catalogue_place (place_by case) ≡ spot_places (catalogue_spot case)
catalogue-alike unplanned = refl
catalogue-alike undrawn = refl
catalogue-alike (stepped place) = refl
catalogue-alike (full count) = refl
catalogue-alike (unwritten why count) = refl
catalogue-alike (acted access entry) = refl
catalogue-alike (untold access entry) = refl
catalogue-alike (unacted access) = refl
catalogue-alike (unstored why access count) = refl
catalogue-alike without_memory = refl

objects-alike : (case : Case) → object_place (place_by case) ≡ spot_places (object_spot case)
objects-alike unplanned = refl
objects-alike undrawn = refl
objects-alike (stepped place) = refl
objects-alike (full count) = refl
objects-alike (unwritten why count) = refl
objects-alike (acted access entry) = refl
objects-alike (untold access entry) = refl
objects-alike (unacted access) = refl
objects-alike (unstored why access count) = refl
objects-alike without_memory = refl

module _ (before after : Ends) (old new : SeenBoth) (served : Served) (link : ServesLink before after old new served) where
  -- what is seen after the link is what was seen before it, with longer histories and higher counts
  new-is : new ≡ stores-of old (fronts-of new)
  new-is =
      let catalogue = link.stores.catalogue.same in
      let objects = link.stores.objects.same in
      λ i. record { catalogue = catalogue i; objects = objects i }

  answered-first : AllByRecursion (IsAnswered (stores-of old (fronts-of new))) link.turns
  answered-first = subst (λ seen. AllByRecursion (IsAnswered seen) link.turns) new-is link.answered

  seen-turns : HasSeenBoth old new (map place_of link.turns)
  seen-turns = subst (HasSeenBoth old new) link.places link.stores

  -- where nobody else entered anything, the histories are what was seen before and what the turns entered
  entries-follow : BothGoOnAlone old new → Follows catalogue_spot (catalogue-entries old) new.catalogue.front old.catalogue.front link.turns
  entries-follow alone =
      follows-alone catalogue_spot catalogue_place catalogue-alike entry_number (catalogue-entries old) old.catalogue new.catalogue link.turns seen-turns.catalogue alone.catalogue
      (all-enter old (fronts-of new) link.turns answered-first) link.ordered.catalogue

  actions-follow : BothGoOnAlone old new → Follows object_spot (object-entries old) new.objects.front old.objects.front link.turns
  actions-follow alone =
      follows-alone object_spot object_place objects-alike object_entry_number (object-entries old) old.objects new.objects link.turns seen-turns.objects alone.objects
      (all-act old (fronts-of new) link.turns answered-first) link.ordered.objects

  -- a served link as a trace
  link-trace : BothGoOnAlone old new → (known : IsKnown before) (left : List ℕ) → known.bytes ≡ link.taken ++ left → AllByRecursion (λ turn. IsUnhindered turn.case) link.turns
      → Trace old (fronts-of new) (fronts-of old) known.bytes known.moments known.words link.turns link.rest left
  link-trace alone known left bytes unhindered = record {
    bytes_are = bytes ∙ ap (λ taken. taken ++ left) link.cut ∙ append_assoc (flat_map (λ turn. print_message turn.message) link.turns) link.rest left;
    whole = link.whole;
    moments_are = front-of before.moments after.moments known.moments _ known.moments_are link.moments;
    words_are = front-of before.words after.words known.words _ known.words_are link.words;
    answered = answered-first;
    unhindered = unhindered;
    catalogue = entries-follow alone;
    objects = actions-follow alone;
  }

-- an ending by the input is no fault of the sink
by-input : (ending : Ending) → IsByInput ending → ending ≢ WriteFault
by-input Ended by_input is = cc
by-input Cut by_input is = cc
by-input Closed by_input is = cc
by-input ReadFault by_input is = by_input
by-input WriteFault by_input is = by_input
by-input Spent by_input is = cc
by-input NoMemory by_input is = by_input

-- all that was to be written was given
given-whole : (before after : Ends) (old new : SeenBoth) (served : Served) (link : ServesLink before after old new served) → IsByInput served.ending
    → link.given ≡ flat_map output_of link.turns ++ link.text
given-whole before after old new served link by_input =
    sym (append-nil link.given) ∙ ap (λ missing. link.given ++ missing) (sym (link.complete (by-input served.ending by_input))) ∙ link.output

pub one_output : OneOutput
one_output before after other_after old new other_new served other_served link other alone other_alone known first second =
    let left = left-of before.left after.left known.bytes link.taken known.left_is link.takes in
    let left' = left-of before.left other_after.left known.bytes other.taken known.left_is other.takes in
    let total = length known.bytes in
    let all : length link.taken + length left.0 ≡ total = omega (arith, ap length left.2, length-append link.taken left.0) in
    let all' : length other.taken + length left'.0 ≡ total = omega (arith, ap length left'.2, length-append other.taken left'.0) in
    let same = same-link old (fronts-of new) (fronts-of other_new) total link.rest left.0 link.text other.rest left'.0 other.text served.ending other_served.ending (fronts-of old) known.bytes known.moments known.words link.turns other.turns
    (link-trace before after old new served link alone known left.0 left.2 first.unhindered)
    (link-trace before other_after old other_new other_served other other_alone known left'.0 left'.2 second.unhindered)
    (omega (arith, all, link.within)) (omega (arith, all', other.within))
    (ends-after total link.rest left.0 link.text served.ending before after link.turns (length link.taken) first.by_input left.1 all link.ends)
    (ends-after total other.rest left'.0 other.text other_served.ending before other_after other.turns (length other.taken) second.by_input left'.1 all' other.ends) in (
      given-whole before after old new served link first.by_input ∙ (λ i. flat_map output_of (same.0 i) ++ same.2 i) ∙ sym (given-whole before other_after old other_new other_served other second.by_input),
      link.places ∙ ap (map place_of) same.0 ∙ sym other.places,
      same.1,
      (entries-follow before after old new served link alone).history_is
          ∙ ap (λ turns. old.catalogue.front ++ flat_map (catalogue-entries old) turns) same.0
          ∙ sym (entries-follow before other_after old other_new other_served other other_alone).history_is,
      (actions-follow before after old new served link alone).history_is
          ∙ ap (λ turns. old.objects.front ++ flat_map (object-entries old) turns) same.0
          ∙ sym (actions-follow before other_after old other_new other_served other other_alone).history_is,
    )
