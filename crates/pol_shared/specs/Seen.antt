-- What a pass has seen of the catalogue, and where the entries of a number stand.
use Rattle.std.specs.Prelude.{ℕ, List}
use Rattle.pol_state.specs.Rows.{Rows}
use Rattle.pol_kept.specs.declared.entry.Entry.{Entry}
use Rattle.pol_shared.specs.Passes.{AreMade, GoesOnBy, HasSeenOf, SeenOf, StaysOf, places_from}

-- the number of the pass that a command came by
abbrev pub entry_number : Entry → ℕ
entry_number entry = entry.number

abbrev pub Seen : Type 0
Seen = SeenOf Rows Entry

-- the places of the entries of a number in a history
abbrev pub places_of : ℕ → List Entry → List ℕ
places_of number history = places_from entry_number number 0 history

abbrev pub HasSeen : Seen → Seen → List ℕ → Type 0
HasSeen old new places = HasSeenOf entry_number old new places

abbrev pub Stays : Seen → Seen → Type 0
Stays old new = StaysOf entry_number old new

abbrev pub AreOfPasses : ℕ → List Entry → Type 0
AreOfPasses made history = AreMade entry_number made history

abbrev pub GoesOnAlone : ℕ → List Entry → List Entry → Type 0
GoesOnAlone number front history = GoesOnBy entry_number number front history
