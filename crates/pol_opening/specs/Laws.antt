-- Laws of the bytes of a catalogue's journal: what they are opened to, and where they are refused.
use Rattle.std.specs.Prelude.{ℕ, ◌≡◌, ◌≢◌, ◌^◌, ◌<◌, ◌⊎◌, List, [], length}
use Rattle.pol_journal.specs.Format.{IsNoJournal, StandsFor}
use Rattle.pol_journal.specs.declared.kind.Kind.TheVariants.{Catalogue}
use Rattle.pol_opening.specs.Opening.{IsRefusedAt, LeadsTo}
use Rattle.pol_state.specs.Rows.{Rows, empty_state}

-- bytes stand for bodies, of which there is one, that lead from the empty state to this one
pub record IsOpenedTo (s : Rows) (file : List ℕ) : Type 0 where
  pub bodies : List (List ℕ)
  pub some : bodies ≢ []
  pub stands : StandsFor Catalogue bodies file
  pub leads : LeadsTo empty_state bodies s

-- bytes of a length that fits 64 bits are opened to one state at most
abbrev pub AreOpenedToOneState : Type 0
AreOpenedToOneState = (file : List ℕ) (s t : Rows) → length file < 2 ^ 64 → IsOpenedTo s file → IsOpenedTo t file → s ≡ t

-- they are refused at one gate at most
abbrev pub AreRefusedAtOneGate : Type 0
AreRefusedAtOneGate =
    (file : List ℕ) (at other : ℕ) → length file < 2 ^ 64 → IsRefusedAt at file → IsRefusedAt other file → at ≡ other

-- those that are opened aren't refused
abbrev pub OpenedAreNotRefused : Type 0
OpenedAreNotRefused = (file : List ℕ) (s : Rows) (at : ℕ) → length file < 2 ^ 64 → IsOpenedTo s file → IsRefusedAt at file → ⊥

abbrev pub IsOpenedSomehow : List ℕ → Type 0
IsOpenedSomehow file = (s : Rows) × IsOpenedTo s file

abbrev pub IsRefusedSomewhere : List ℕ → Type 0
IsRefusedSomewhere file = (at : ℕ) × IsRefusedAt at file

-- and those that are no journal are neither
abbrev pub NoJournalIsNeither : Type 0
NoJournalIsNeither =
    (file : List ℕ) → IsNoJournal Catalogue file → IsOpenedSomehow file ⊎ IsRefusedSomewhere file → ⊥
