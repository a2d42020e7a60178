-- What the ends of a link tell after several calls.
use Rattle.std.proofs.Common.{◌≡◌, ◌<◌, ◌≤◌, ◌+◌, ◌-◌, ◌^◌, ℕ, List, [], ◌∷◌, ◌++◌, length, take, drop, Result, Ok, Err, sym, ap, subst, ◌∙◌, inl, inr, arith, length-append, length-drop, take-add, ◌≢◌}
use Rattle.std.specs.Prelude.{slice_index, IsErr}
use Rattle.std.specs.Io.KnownBytes.{Appends}
use Rattle.std.proofs.KnownBytes.{Appends-trans, Appends-kept}
use Rattle.pol_wire.specs.Faults.{Rises}
use Rattle.pol_wire.specs.Streams.{IsShifted}
use Rattle.pol_wire.proofs.StreamsLemmas.{IsShifted-kept, IsShifted-trans}
use Rattle.std.proofs.Math.Seq.{get_or-append_seam}
use Rattle.std.proofs.lemmas.Bool.{cases_lt}
use Rattle.std.proofs.lemmas.List.{get_or_append_left, get_or_past, take_all, take-append-drop}
use Rattle.pol_commands.specs.declared.command.Words4.{Words4}
use Rattle.pol_server.specs.Ends.{Draws, Ends, GivesPiece}
use Rattle.pol_server.specs.Calls.{DrawsWords, GivesAll}

-- a count that rose is above every earlier one
pub rises-earlier : (first old new : ℕ) → first ≤ old → Rises old new → Rises first new
rises-earlier first old new within (inl above) = inl (omega (arith, within, above))
rises-earlier first old new within (inr last) = inr last

-- a count that rose and isn't at its last value is above every earlier one
risen-below : (first old new : ℕ) → first ≤ old → Rises old new → new < 2 ^ 64 - 1 → first + 1 ≤ new
risen-below first old new within (inl above) below = omega (arith, within, above)
risen-below first old new within (inr last) below = absurd (omega (arith, last, below))

-- the front of a text was given
pub record GivesFront (old now : Ends) (text : List ℕ) (count : ℕ) : Type 0 where
  pub within : count ≤ length text
  pub same : now ≡ record old { given = now.given; sink_faults = now.sink_faults }
  pub kept : old.sink_faults ≤ now.sink_faults
  pub gives : Appends old.given now.given (take count text)

-- so many words were drawn
pub record DrawsFront (old now : Ends) (drawn : List ℕ) : Type 0 where
  pub same : now ≡ record old { words = now.words; draw_faults = now.draw_faults }
  pub kept : old.draw_faults ≤ now.draw_faults
  pub shifted : IsShifted old.words now.words drawn

module _ (old now new : Ends) where
  -- ends with other bytes given, or other words
  abbrev as_given : Ends → Ends
  as_given ends = record ends { given = new.given; sink_faults = new.sink_faults }

  abbrev as_drawn : Ends → Ends
  as_drawn ends = record ends { words = new.words; draw_faults = new.draw_faults }

  -- one more piece of the text
  pub front-more : {E : Type 0} (text piece : List ℕ) (count taken : ℕ) → piece ≡ drop count text → GivesFront old now text count → GivesPiece {E = E} now new (Ok taken) piece → taken ≤ length piece → GivesFront old new text (count + taken)
  front-more text piece count taken is front gives bound = record {
    within = omega (arith, front.within, bound, length-drop count text, ap length is);
    same = gives.same ∙ ap as_given front.same;
    kept = omega (arith, front.kept, gives.count.kept);
    gives = subst (Appends old.given new.given) (sym (take-add count taken text)) (Appends-trans old.given now.given new.given (take count text) (take taken (drop count text)) front.gives (subst (λ piece. Appends now.given new.given (take taken piece)) is gives.bytes));
  }

  -- the sink failed behind the front
  pub front-failed : {E F : Type 0} (text piece : List ℕ) (count : ℕ) (error : E) (result : Result Unit F) → IsErr result → GivesFront old now text count → GivesPiece now new (Err error) piece → GivesAll old new text result
  front-failed text piece count error (Ok done) fails front gives = cc
  front-failed text piece count error (Err other) fails front gives = record {
    given = take count text;
    missing = drop count text;
    same = gives.same ∙ ap as_given front.same;
    kept = omega (arith, front.kept, gives.count.kept);
    bytes_are = sym (take-append-drop count text);
    gives = Appends-kept old.given now.given new.given (take count text) front.gives gives.bytes;
    complete = tt;
    caused = rises-earlier old.sink_faults now.sink_faults new.sink_faults front.kept gives.count.caused;
  }

  -- one more word
  pub drawn-more : {E : Type 0} (drawn : List ℕ) (word : ℕ) → DrawsFront old now drawn → Draws {E = E} now new (Ok word) → DrawsFront old new (drawn ++ word ∷ [])
  drawn-more drawn word front draws = record {
    same = draws.same ∙ ap as_drawn front.same;
    kept = omega (arith, front.kept, draws.count.kept);
    shifted = IsShifted-trans old.words now.words new.words drawn (word ∷ []) front.shifted draws.word;
  }

  -- no more word
  pub drawn-failed : {E F : Type 0} (drawn : List ℕ) (count : ℕ) (error : E) (result : Result Words4 F) → IsErr result → DrawsFront old now drawn → length drawn < count → Draws now new (Err error) → DrawsWords old new count result
  drawn-failed drawn count error (Ok done) fails front few draws = cc
  drawn-failed drawn count error (Err other) fails front few draws = record {
    words = drawn;
    same = draws.same ∙ ap as_drawn front.same;
    shifted = IsShifted-kept old.words now.words new.words drawn front.shifted draws.word;
    kept = omega (arith, front.kept, draws.count.kept);
    drawn = (few, λ below. risen-below old.draw_faults now.draw_faults new.draw_faults front.kept draws.count.caused below);
  }

-- the words that were kept of those drawn, with one more
pub kept-more : (words longer drawn : List ℕ) (place word : ℕ) → length drawn ≡ place
    → ((k : ℕ) → k < 4 → slice_index words k ≡ slice_index drawn k) → (place < 4 → slice_index longer place ≡ word) → ((k : ℕ) → k ≢ place → slice_index longer k ≡ slice_index words k)
    → (k : ℕ) → k < 4 → slice_index longer k ≡ slice_index (drawn ++ word ∷ []) k
kept-more words longer drawn place word at before there others k within = elim (cases_lt k place) [
  | inl below ↦ others k (omega arith) ∙ before k within ∙ sym (get_or_append_left drawn (word ∷ []) 0 k (omega (arith, at, below)))
  | inr above ↦ elim (cases_lt place k) [
    | inl past ↦ others k (omega arith) ∙ before k within ∙ get_or_past drawn k 0 (omega (arith, at, past)) ∙ sym (get_or_past (drawn ++ word ∷ []) k 0 (omega (arith, at, past, length-append drawn (word ∷ []))))
    | inr same ↦
        let is : k ≡ place = omega arith in
        ap (λ k. slice_index longer k) is ∙ there (omega (arith, is, within)) ∙ sym (get_or-append_seam drawn word [] 0) ∙ ap (λ k. slice_index (drawn ++ word ∷ []) k) (at ∙ sym is)
  ]
]

-- the rest of a text
pub rest-whole : (text : List ℕ) (count : ℕ) → take (length text - count) (drop count text) ≡ drop count text
rest-whole text count = take_all (length text - count) (drop count text) (omega (arith, length-drop count text))
