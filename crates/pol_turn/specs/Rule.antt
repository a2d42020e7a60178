-- The rule of the table, which holds between any two steps, and what a seat says of its pass.
-- Word 0 is the ticket that is served, word 1 the next ticket to be drawn. Here tickets have no bound; the words have them modulo 2^64.
use Rattle.std.specs.Prelude.{◌≡◌, ℕ, ◌+◌, ◌%◌, ◌<◌, ◌≤◌, Bool, true, false, cond, not, ◌&&◌, List, [], ◌∷◌, ◌++◌, length, Option, Some, None, All, count_by, nat_lt}
use mathlib.Core.List.{IsPrefix}
use mathlib.Core.Option.{some, none}
use mathlib.Core.Option as maybe
use lib.ListN.{get_elem?}
use Rattle.atomic_table.specs.Table.{State}
use Rattle.atomic_table.specs.declared.shared.Seat.{Seat}
use Rattle.pol_turn.specs.declared.view.Gathered.{Gathered}
use Rattle.pol_turn.specs.declared.view.View.{View}
use Rattle.pol_turn.specs.Known.{Known, items_by, Accounts}

-- how many tickets a word tells apart, 2 ^ 64
abbrev pub round : ℕ
round = 18446744073709551616

-- the slot is at home with the value, out with the seat that is served, or at home and empty
pub data Slot (S : Type 0) : Type 0 where
  lies : S → Slot S
  away : Slot S
  empty : Slot S

module _ {S : Type 0} where
  -- what the table has in the place of the slot
  abbrev pub home_of : Slot S → maybe.Option (Option S)
  home_of (lies x) = some (Some x)
  home_of away = none
  home_of empty = some None

  -- a pass was served, and has not brought the value home
  abbrev pub is_taken : Slot S → Bool
  is_taken (lies x) = false
  is_taken away = true
  is_taken empty = true

  -- a value at home stands for the log, with what was settled at the start
  abbrev pub StandsFor : {I F : Type 0} → (S → List I) → (S → F) → List I → F → Slot S → Type 0
  StandsFor items fixed log start (lies x) = (items x ≡ log) × (fixed x ≡ start)
  StandsFor items fixed log start away = Unit {0}
  StandsFor items fixed log start empty = Unit {0}

-- what only the proof knows of the table: the log, the ticket that is served and the next one to be drawn, the founding pass's counts, the seat of each number that is in use, the seat of each ticket, and where the slot is
pub record Book (S I : Type 0) : Type 0 where
  pub log : List I
  pub serving : ℕ
  pub ticket : ℕ
  pub made : ℕ
  pub gathered : List (Gathered I)
  pub seat_of : ℕ → Option ℕ
  pub holder : ℕ → ℕ
  pub slot : Slot S

module _ {I : Type 0} (number : I → ℕ) where
  -- these are the log's items of the number n, and all of them stand in the front
  pub record Settles (front log : List I) (n : ℕ) (items : List I) : Type 0 where
    pub seen : items_by number n front ≡ items
    pub all : items_by number n log ≡ items

  -- what an unspent seat knows of the log, and of the founding pass's counts
  pub record Knows {F : Type 0} (start : F) (log : List I) (made : ℕ) (gathered : List (Gathered I)) (seat_of : ℕ → Option ℕ) (seat : ℕ) (v : View I F) : Type 0 where
    pub seated : seat_of v.number ≡ Some seat
    pub below : v.number < made
    pub opened : v.fixed ≡ Some start
    pub front : IsPrefix v.front log
    pub met : IsPrefix v.met v.front
    pub own : Settles v.front log v.number v.own
    pub founds : v.number ≡ 0 → (v.made ≡ made) × (v.gathered ≡ gathered) × All (λ g. Settles v.front log g.number g.items) gathered

-- where an unspent seat stands in the queue: the seat whose ticket is served has its turn once the slot is taken, and then its front is the log
pub record Stands {S I F : Type 0} (log : List I) (serving ticket : ℕ) (holder : ℕ → ℕ) (slot : Slot S) (seat : ℕ) (v : View I F) : Type 0 where
  pub waits : v.waits ≡ true → (serving ≤ v.ticket) × (v.ticket < ticket) × (holder v.ticket ≡ seat)
  pub first : v.waits ≡ true → v.ticket ≡ serving → v.serves ≡ is_taken slot
  pub serves : v.serves ≡ true → (v.waits ≡ true) × (v.ticket ≡ serving) × (v.front ≡ log)
  pub shut : v.shut ≡ true → (v.serves ≡ true) × (slot ≡ empty)

module _ {I F : Type 0} where
  -- the pass was not joined
  abbrev pub lives : View I F → Bool
  lives v = not v.spent

  -- the pass has a ticket that was not served to the end
  abbrev pub queues : View I F → Bool
  queues v = v.waits && not v.spent

module _ {S I F : Type 0} (number : I → ℕ) (items : S → List I) (fixed : S → F) where
  -- what holds of the table and of the book: the words are the tickets, there are as many tickets as passes that wait, and all passes are living or gathered
  pub record Kept (start : F) (b : Book S I) (s : State (Option S) (View I F)) : Type 0 where
    pub words : s.words ≡ b.serving % round ∷ b.ticket % round ∷ []
    pub homes : s.homes ≡ home_of b.slot ∷ []
    pub queue : b.ticket ≡ b.serving + count_by queues s.views
    pub passes : count_by lives s.views + length b.gathered ≡ b.made
    pub few : b.made < round
    pub value : StandsFor items fixed b.log start b.slot
    pub taken : is_taken b.slot ≡ true → b.serving < b.ticket
    pub fresh : (n : ℕ) → b.made ≤ n → items_by number n b.log ≡ []
    pub gone : All (λ g. (g.number < b.made) × (b.seat_of g.number ≡ None)) b.gathered
    pub each : (seat : ℕ) (v : View I F) → get_elem? s.views seat ≡ some v → v.spent ≡ false
        → Knows number start b.log b.made b.gathered b.seat_of seat v × Stands b.log b.serving b.ticket b.holder b.slot seat v

  -- the rule: there is such a book
  abbrev pub Ruled : S → State (Option S) (View I F) → Type 0
  Ruled opened s = (b : Book S I) × Kept (fixed opened) b s

-- the longer of two fronts
abbrev pub longer : {I : Type 0} → List I → List I → List I
longer xs ys = cond (nat_lt (length xs) (length ys)) ys xs

-- and the shorter
abbrev pub shorter : {I : Type 0} → List I → List I → List I
shorter xs ys = cond (nat_lt (length xs) (length ys)) xs ys

module _ {I F : Type 0} where
  -- the founding pass of a lock that opens with these items
  abbrev pub founding : List I → F → View I F
  founding items fixed = record { number = 0; fixed = Some fixed; front = items; own = items; made = 1; gathered = []; met = []; ticket = 0; waits = false; serves = false; shut = false; spent = false }

  -- the pass that a founding pass makes
  abbrev pub newcomer : View I F → View I F
  newcomer v = record { number = v.made; fixed = v.fixed; front = v.front; own = []; made = 0; gathered = []; met = []; ticket = 0; waits = false; serves = false; shut = false; spent = false }

  -- the founding pass, after it made another
  abbrev pub with_one_more : View I F → View I F
  with_one_more v = record v { made = v.made + 1 }

  -- a pass that was joined
  abbrev pub gone_view : View I F
  gone_view = record { number = 0; fixed = None; front = []; own = []; made = 0; gathered = []; met = []; ticket = 0; waits = false; serves = false; shut = false; spent = true }

  -- the founding pass with the items of another
  abbrev pub gathering : View I F → View I F → View I F
  gathering v w = record v { front = longer v.front w.front; met = shorter v.front w.front; gathered = v.gathered ++ record { number = w.number; items = w.own } ∷ [] }

-- the slots that are out with a seat between two calls
abbrev pub carried : {S : Type 0} → Bool → List (ℕ × Option S)
carried has_turn = cond has_turn ((0, None) ∷ []) []

module _ {S I F : Type 0} where
  -- what contracts see of a seat's pass
  abbrev pub known : Seat (Option S) (View I F) → Known I F
  known seat = record {
    lock = record { table = seat.table_id; fixed = seat.me.0.fixed };
    number = seat.me.0.number;
    front = seat.me.0.front;
    own = seat.me.0.own;
    made = seat.me.0.made;
    gathered = seat.me.0.gathered;
    has_turn = seat.me.0.serves;
  }

  -- the seat of a pass between two calls
  pub record IsAtRest (number : I → ℕ) (n made : ℕ) (seat : Seat (Option S) (View I F)) : Type 0 where
    pub numbered : seat.me.0.number ≡ n
    pub counted : seat.me.0.made ≡ made
    pub waits : seat.me.0.waits ≡ seat.me.0.serves
    pub shut : seat.me.0.shut ≡ false
    pub spent : seat.me.0.spent ≡ false
    pub slot : seat.me.1 ≡ carried seat.me.0.serves
    pub fair : Accounts number seat.me.0.number seat.me.0.own seat.me.0.made seat.me.0.gathered seat.me.0.front
