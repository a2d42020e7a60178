-- Where the journal of a store that was opened ended then.
use Rattle.std.proofs.Common.{◌≡◌, ◌+◌, ◌-◌, ℕ, List, [], ◌++◌, Option, ap, ◌∙◌, arith, inl, inr, append-nil}
use Rattle.pol_journal.specs.Format.{extent}
use Rattle.pol_journal.specs.Journal.{JournalState}
use Rattle.pol_records.specs.Holding.{Holds, Lost}
use Rattle.pol_kept.specs.History.{Log, opened_of, records, size_of}
use Rattle.pol_kept.specs.Opened.{Reopens}

module _ {D : Type 0} (seen : D → Option (List ℕ)) (may_leave : D → List ℕ → Type 0) (clock : D → ℕ) (left_since : D → ℕ → List ℕ → Type 0) (fault_count : D → ℕ) where
  -- the next gate stands behind all bodies
  place-of : (opening written : List (List ℕ)) (lost : List Lost) (journal : JournalState D) → Holds seen may_leave clock left_since fault_count opening written lost journal → journal.gate + 1 ≡ extent (opening ++ written)
  place-of opening written lost journal holds = elim holds.now [
    | inl rest ↦ rest.stands.place
    | inr losing ↦ losing.unsettled.hangs.place
  ]

  pub opened-at : (file : List ℕ) (log : Log D) → log.history ≡ [] → (reopens : Reopens seen may_leave clock left_since fault_count file log) → opened_of log ≡ extent reopens.bodies
  unfolding records
  opened-at file log none reopens =
      let bare : records log.base log.history ≡ [] = ap (records log.base) none in
      let place : log.journal.gate + 1 ≡ extent reopens.bodies =
      place-of reopens.bodies (records log.base log.history) reopens.images.lost log.journal reopens.images.holds
      ∙ ap (λ more. extent (reopens.bodies ++ more)) bare ∙ ap extent (append-nil reopens.bodies) in
      let whole : (log.journal.gate + 1) - size_of [] ≡ log.journal.gate + 1 = omega arith in
      ap (λ more. (log.journal.gate + 1) - size_of more) bare ∙ whole ∙ place
