-- What a pass sees of a store that was made or opened.
use Rattle.std.specs.Prelude.{◌≡◌, ◌≢◌, ℕ, List, [], Option, Result, Ok, Err}
use Rattle.pol_journal.specs.Format.{StandsFor, extent}
use Rattle.pol_journal.specs.declared.kind.Kind.TheVariants.{Catalogue}
pub use Rattle.pol_kept.specs.Opened.{fresh_bodies}
use Rattle.pol_kept.specs.Opening.{LeadsTo}
use Rattle.pol_state.specs.Rows.{empty_state}
use Rattle.pol_shared.specs.Held.{Held, HoldsImages}
use Rattle.pol_shared.specs.Passes.{SeenOf}

-- the founding pass, the only one, over a history without entries
abbrev pub seen_new : {Base Entry : Type 0} → Base → ℕ → SeenOf Base Entry
seen_new base opened = record { base = base; opened = opened; number = 0; made = 1; front = []; failed = 0 }

-- a file was opened: it stands for bodies, of which there is one, that lead to the state at the opening, and the journal
-- keeps them
pub record ReopensAs {D : Type 0} (seen : D → Option (List ℕ)) (may_leave : D → List ℕ → Type 0) (clock : D → ℕ) (left_since : D → ℕ → List ℕ → Type 0) (fault_count : D → ℕ) (file : List ℕ) (held : Held D) : Type 0 where
  pub bodies : List (List ℕ)
  pub some : bodies ≢ []
  pub leads : LeadsTo empty_state bodies held.seen.base
  pub stands : StandsFor Catalogue bodies file
  pub opened : held.seen.opened ≡ extent bodies
  pub images : HoldsImages seen may_leave clock left_since fault_count bodies held

-- the disk of a store that was made or opened, or that is handed back
abbrev pub held_disk : {D E : Type 0} → Result (Held D) (D × E) → D
held_disk (Ok held) = held.journal.disk
held_disk (Err refused) = refused.0
