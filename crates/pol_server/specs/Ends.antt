-- What the four ends of a link tell at a moment.
use Rattle.std.specs.Prelude.{◌≡◌, ℕ, List, [], ◌∷◌, Option, Result}
use Rattle.std.specs.Io.KnownBytes.{ReadConsumes, WriteAppends}
use Rattle.pol_wire.specs.Faults.{CountsFaults}
use Rattle.pol_wire.specs.Streams.{IsShifted, GivesNext}
use Rattle.pol_wire.specs.declared.link.Link.{Link}

-- the bytes left to take and those given, the moments and words to come, and the counts of faults
pub record Ends : Type 0 where
  pub left : Option (List ℕ)
  pub given : Option (List ℕ)
  pub moments : Option (ℕ → ℕ)
  pub words : Option (ℕ → ℕ)
  pub source_faults : ℕ
  pub sink_faults : ℕ
  pub draw_faults : ℕ

-- of a link, by what its ends tell
abbrev pub ends_of : {S K C W : Type 0} → (S → Option (List ℕ)) → (S → ℕ) → (K → Option (List ℕ)) → (K → ℕ) → (C → Option (ℕ → ℕ)) → (W → Option (ℕ → ℕ)) → (W → ℕ) → Link S K C W → Ends
ends_of left source_faults given sink_faults moments words draw_faults link = record {
  left = left link.source;
  given = given link.sink;
  moments = moments link.clock;
  words = words link.words;
  source_faults = source_faults link.source;
  sink_faults = sink_faults link.sink;
  draw_faults = draw_faults link.words;
}

-- a take of the source gave the front of a buffer
pub record Takes {E : Type 0} (old new : Ends) (result : Result ℕ E) (buffer : List ℕ) : Type 0 where
  pub same : new ≡ record old { left = new.left; source_faults = new.source_faults }
  pub bytes : ReadConsumes old.left new.left result buffer
  pub count : CountsFaults old.source_faults new.source_faults result

-- the sink took the front of a piece
pub record GivesPiece {E : Type 0} (old new : Ends) (result : Result ℕ E) (piece : List ℕ) : Type 0 where
  pub same : new ≡ record old { given = new.given; sink_faults = new.sink_faults }
  pub bytes : WriteAppends old.given new.given result piece
  pub count : CountsFaults old.sink_faults new.sink_faults result

-- the clock was read
pub record Reads (old new : Ends) (moment : ℕ) : Type 0 where
  pub same : new ≡ record old { moments = new.moments }
  pub shifted : IsShifted old.moments new.moments (moment ∷ [])

-- a word was drawn
pub record Draws {E : Type 0} (old new : Ends) (result : Result ℕ E) : Type 0 where
  pub same : new ≡ record old { words = new.words; draw_faults = new.draw_faults }
  pub word : GivesNext old.words new.words result
  pub count : CountsFaults old.draw_faults new.draw_faults result
