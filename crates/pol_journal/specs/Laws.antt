-- Laws of the bytes of a journal.
use Rattle.std.specs.Prelude.{◌≡◌, ◌<◌, ◌^◌, ◌⊎◌, ℕ, All, List, length}
use Rattle.pol_journal.specs.Format.{IsBadAt, IsNoJournal, StandsFor}
use Rattle.pol_journal.specs.declared.kind.Kind.{Kind}

-- bytes of a length that fits 64 bits stand for one list of bodies at most
abbrev pub StandsForOneList : Type 0
StandsForOneList =
    (kind : Kind) (file : List ℕ) (bodies others : List (List ℕ)) → length file < 2 ^ 64
    → StandsFor kind bodies file → StandsFor kind others file → bodies ≡ others

-- bytes with a bad record stand for none
abbrev pub BadStandsForNone : Type 0
BadStandsForNone =
    (kind : Kind) (file : List ℕ) (at : ℕ) (bodies : List (List ℕ)) → length file < 2 ^ 64
    → IsBadAt kind at file → StandsFor kind bodies file → ⊥

-- and their first bad record is at one gate
abbrev pub IsBadAtOneGate : Type 0
IsBadAtOneGate =
    (kind : Kind) (file : List ℕ) (at other : ℕ) → length file < 2 ^ 64 → IsBadAt kind at file → IsBadAt kind other file → at ≡ other

-- bytes stand for a list of bodies
abbrev pub StandsForSome : Kind → List ℕ → Type 0
StandsForSome kind file = (bodies : List (List ℕ)) × StandsFor kind bodies file

-- bytes have a bad record
abbrev pub IsBadSomewhere : Kind → List ℕ → Type 0
IsBadSomewhere kind file = (at : ℕ) × IsBadAt kind at file

-- bytes are no journal, stand for a list of bodies, or have a bad record
abbrev pub IsNoneStandsOrIsBad : Type 0
IsNoneStandsOrIsBad =
    (kind : Kind) (file : List ℕ) → All (λ byte. byte < 2 ^ 8) file
    → IsNoJournal kind file ⊎ (StandsForSome kind file ⊎ IsBadSomewhere kind file)

-- and those that are no journal neither stand for a list nor have a bad record
abbrev pub NoJournalIsNeither : Type 0
NoJournalIsNeither = (kind : Kind) (file : List ℕ) → IsNoJournal kind file → StandsForSome kind file ⊎ IsBadSomewhere kind file → ⊥
