-- What each step tells its caller: of the step, the seat before, the number found and the seat after.
use Rattle.std.specs.Prelude.{◌≡◌, ◌≢◌, ℕ, ◌%◌, true, false, List, [], ◌∷◌, ◌++◌, length, drop, Option, Some}
use mathlib.Core.List.{IsPrefix}
use Rattle.atomic_table.specs.Table.{Me, Step}
use Rattle.pol_turn.specs.declared.view.View.{View}
use Rattle.pol_turn.specs.Known.{Accounts}
use Rattle.pol_turn.specs.Rule.{round}

module _ {I F : Type 0} where
  -- the pass waits for this ticket
  abbrev pub waiting : View I F → ℕ → View I F
  waiting v ticket = record v { ticket = ticket; waits = true }

  -- it is its turn, at this log
  abbrev pub serving : View I F → List I → View I F
  serving v log = record v { front = log; serves = true }

  -- it gave the value back at this log
  abbrev pub given : View I F → List I → View I F
  given v log = record v { front = log; own = v.own ++ drop (length v.front) log; waits = false; serves = false }

  -- the slot went home empty, where it was out
  abbrev pub closing : View I F → View I F
  closing v = record v { shut = v.serves }

  -- the pass accounts for its own front
  abbrev pub Fair : (I → ℕ) → View I F → Type 0
  Fair number v = Accounts number v.number v.own v.made v.gathered v.front

-- a seat: its view, and the slots that are out with it
abbrev pub Sat : Type 0 → Type 0 → Type 0 → Type 0
Sat S I F = Me (Option S) (View I F)

-- what a step tells
abbrev pub Telling : Type 0 → Type 0 → Type 0 → Type 1
Telling S I F = Step (Option S) → Sat S I F → ℕ → Sat S I F → Type 0

module _ {S I F : Type 0} where
  -- some ticket was drawn, which the word has modulo 2^64
  abbrev pub Draws : Telling S I F
  Draws step before found after = (ticket : ℕ) × (ticket % round ≡ found) × (after ≡ (waiting before.0 ticket, before.1))

  -- the slot is out with the seat, and its value stands for the log, of which the old front is a beginning
  abbrev pub Takes : (I → ℕ) → (S → List I) → (S → F) → Sat S I F → Sat S I F → Type 0
  Takes number items fixed before after =
      (x : S) × (after ≡ (serving before.0 (items x), (0, Some x) ∷ before.1)) × (before.0.fixed ≡ Some (fixed x)) × IsPrefix before.0.front (items x) × Fair number (serving before.0 (items x))

  -- the ticket found is served: it is the seat's own, or nothing changed
  abbrev pub Looks : (I → ℕ) → (S → List I) → (S → F) → Telling S I F
  Looks number items fixed step before found after = (found ≡ before.0.ticket % round → Takes number items fixed before after) × (found ≢ before.0.ticket % round → after ≡ before)

  -- the slot went home with its value, and the next ticket is served
  abbrev pub Serves : (I → ℕ) → (S → List I) → Telling S I F
  Serves number items step before found after = (x : S) → before.1 ≡ (0, Some x) ∷ [] → (after ≡ (given before.0 (items x), [])) × Fair number (given before.0 (items x))

  -- of the two fronts of a join, the shorter begins the longer, and the pass accounts for it
  abbrev pub Settled : (I → ℕ) → Telling S I F
  Settled number step before found after = (after ≡ before) × IsPrefix before.0.met before.0.front × Fair number before.0

  -- the slot went home, with what it had
  abbrev pub Shuts : Telling S I F
  Shuts step before found after = after ≡ (closing before.0, [])
