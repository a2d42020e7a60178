-- How a log goes on where a command is entered, and where its record isn't written.
use Rattle.std.proofs.Common.{◌≡◌, inl, inr, Option, ℕ, ◌+◌, ◌-◌, ◌≤◌, List, [], ◌∷◌, ◌++◌, length, map, refl, sym, ◌∙◌, ap, subst, arith, append_assoc, append-nil}
use Rattle.std.specs.List.{AllByRecursion}
use mathlib.Core.List.{IsPrefix}
use Rattle.pol_commands.specs.declared.command.Command.{Command}
use Rattle.pol_content.specs.declared.change.Change.{Change}
use Rattle.pol_journal.specs.Journal.{JournalState}
use Rattle.pol_journal.specs.declared.opening.Opening.{Opening}
use Rattle.pol_records.specs.Holding.{Holds, Lost, RisesBy, lost_behind}
use Rattle.pol_records.specs.Unwritten.{lost_by}
use Rattle.pol_records.specs.declared.unwritten.Unwritten.{Unwritten}
use Rattle.pol_records.specs.declared.unwritten.Unwritten.TheVariants.{JournalFull, Unknown, DiskFault}
use Rattle.pol_state.specs.Rows.{Rows}
use Rattle.pol_kept.specs.History.{IsFormed, Log, bodies_of, changes_of, records, size_of, state_of}
use Rattle.pol_kept.specs.Images.{IsLostCommand, KeepsImages}
use Rattle.pol_kept.specs.Stages.{GoesOn, IsLeftOut, IsWritten, lost_undone, marks_by, undone_by}
use Rattle.pol_kept.specs.declared.entry.Entry.{Entry}
use Rattle.pol_kept.proofs.FormedLemmas.{formed-push}
use Rattle.pol_kept.proofs.RecordLemmas.{opened-still, records-push, size-append}

abbrev Bodies : Type 0
Bodies = List (List ℕ)

-- a longer history has lost the same commands
prefix_grows : (front history more : List Entry) → IsPrefix front history → IsPrefix front (history ++ more)
prefix_grows front history more is = (is.0 ++ more, sym (append_assoc front is.0 more) ∙ ap (λ (l : List Entry). l ++ more) is.1)

lost_grows : (base : Rows) (history more : List Entry) (one : Lost) → IsLostCommand base history one → IsLostCommand base (history ++ more) one
lost_grows base history more one is = record {
  front = is.front;
  first = prefix_grows is.front history more is.first;
  command = is.command;
  behind = is.behind;
  body = is.body;
  formed = is.formed;
}

all_grow : (base : Rows) (history more : List Entry) (lost : List Lost) → AllByRecursion (IsLostCommand base history) lost → AllByRecursion (IsLostCommand base (history ++ more)) lost
all_grow base history more [] all = tt
all_grow base history more (one ∷ lost) all = (lost_grows base history more one all.0, all_grow base history more lost all.1)

all_push : (P : Lost → Type 0) (lost : List Lost) (one : Lost) → AllByRecursion P lost → P one → AllByRecursion P (lost ++ one ∷ [])
all_push P [] one all last = (last, tt)
all_push P (first ∷ lost) one all last = (all.0, all_push P lost one all.1 last)

-- a count of faults that doesn't fall
rises_still : (many old mid new : ℕ) → mid ≤ new → RisesBy many old mid → RisesBy many old new
rises_still many old mid new more (inl enough) = inl (omega (arith, more, enough))
rises_still many old mid new more (inr last) = inr (omega (arith, more, last))

-- an end that is within what it was to be
end-within : (had more all gate end : ℕ) → had ≤ gate + 1 → end ≡ gate + more → all ≡ had + more → all ≤ end + 1
end-within had more all gate end within end_is all_is = omega arith

module _ {D : Type 0} (seen : D → Option (List ℕ)) (may_leave : D → List ℕ → Type 0) (clock : D → ℕ) (left_since : D → ℕ → List ℕ → Type 0) (fault_count : D → ℕ) where
  abbrev Goes : Log D → Log D → Type 0
  Goes old new = GoesOn seen may_leave clock left_since fault_count old new

  abbrev Held : Bodies → Bodies → List Lost → JournalState D → Type 0
  Held = Holds seen may_leave clock left_since fault_count

  abbrev Keeps : Bodies → Rows → List Entry → JournalState D → Type 0
  Keeps opening base history journal = KeepsImages seen may_leave clock left_since fault_count opening base history journal

  module _ (old : Log D) (number : ℕ) (command : Command) (changes : List Change) (is : changes ≡ changes_of (state_of old) command)
      (within : size_of (records old.base old.history) ≤ old.journal.gate + 1) (journal : JournalState D)
      (counts : fault_count old.journal.disk ≤ fault_count journal.disk) where
    bodies_are : bodies_of changes ≡ bodies_of (changes_of (state_of old) command)
    bodies_are = ap bodies_of is

    -- the command was entered
    module _ (written : IsWritten seen may_leave clock left_since fault_count (bodies_of changes) old.journal journal) where
      abbrev entry : Entry
      entry = record { number = number; command = command }

      abbrev entered : Log D
      entered = record old { history = old.history ++ entry ∷ []; journal = journal }

      longer : records old.base (old.history ++ entry ∷ []) ≡ records old.base old.history ++ bodies_of changes
      longer = records-push old.base old.history entry ∙ ap (λ (bodies : Bodies). records old.base old.history ++ bodies) (sym bodies_are)

      size_is : size_of (records old.base (old.history ++ entry ∷ [])) ≡ size_of (records old.base old.history) + size_of (bodies_of changes)
      size_is = ap size_of longer ∙ size-append (records old.base old.history) (bodies_of changes)

      pub entered-within : size_of (records old.base (old.history ++ entry ∷ [])) ≤ journal.gate + 1
      entered-within =
          end-within (size_of (records old.base old.history)) (size_of (bodies_of changes)) (size_of (records old.base (old.history ++ entry ∷ [])))
          old.journal.gate journal.gate within written.end size_is

      pub entered-holds : (opening : Bodies) (lost : List Lost) → Held opening (records old.base old.history) lost old.journal → Held opening (records old.base (old.history ++ entry ∷ [])) lost journal
      entered-holds opening lost held =
          subst (λ (bodies : Bodies). Held opening bodies lost journal) (sym longer) (written.holds opening (records old.base old.history) lost held)

      entered-images : IsFormed (state_of old) command → (opening : Bodies) → Keeps opening old.base old.history old.journal → Keeps opening old.base (old.history ++ entry ∷ []) journal
      entered-images formed opening keeps = record {
        lost = keeps.lost;
        holds = entered-holds opening keeps.lost keeps.holds;
        commands = all_grow old.base old.history (entry ∷ []) keeps.lost keeps.commands;
        formed = formed-push old.base old.history entry keeps.formed formed;
      }

      pub entered-goes : IsFormed (state_of old) command → Goes old entered
      entered-goes formed = record {
        images = entered-images formed;
        opened = opened-still old.journal.gate (size_of (records old.base old.history)) (size_of (bodies_of changes)) journal.gate
            (size_of (records old.base (old.history ++ entry ∷ []))) within written.end size_is;
        told = written.opened;
        kept = counts;
      }

      pub entered-rises : RisesBy (length old.marks) old.journal.opening.faults (fault_count old.journal.disk) → RisesBy (length old.marks) journal.opening.faults (fault_count journal.disk)
      entered-rises was =
          subst (λ (o : Opening). RisesBy (length old.marks) o.faults (fault_count journal.disk)) (sym written.opened)
          (rises_still (length old.marks) old.journal.opening.faults (fault_count old.journal.disk) (fault_count journal.disk) counts was)

    -- its record wasn't written
    module _ (why : Unwritten) (out : IsLeftOut seen may_leave clock left_since fault_count (bodies_of changes) old.journal journal why) where
      abbrev marked : Log D
      marked = record old { marks = marks_by why number old.marks; journal = journal }

      lost-is : (which : Unwritten) (lost : List Lost) → lost_by which (records old.base old.history) out.body lost ≡ lost_undone (undone_by which) (records old.base old.history) changes lost
      lost-is (JournalFull end wanted) lost = refl
      lost-is Unknown lost = ap (λ (bodies : Bodies). lost ++ map (lost_behind (records old.base old.history)) bodies) (sym out.one)
      lost-is DiskFault lost = refl

      pub marked-holds : (opening : Bodies) (lost : List Lost) → Held opening (records old.base old.history) lost old.journal
          → Held opening (records old.base old.history) (lost_undone (undone_by why) (records old.base old.history) changes lost) journal
      marked-holds opening lost held =
          subst (λ (all : List Lost). Held opening (records old.base old.history) all journal) (lost-is why lost) (out.holds opening (records old.base old.history) lost held)

      lost_too : IsFormed (state_of old) command → (which : Unwritten) (lost : List Lost) → AllByRecursion (IsLostCommand old.base old.history) lost
          → AllByRecursion (IsLostCommand old.base old.history) (lost_by which (records old.base old.history) out.body lost)
      lost_too formed (JournalFull end wanted) lost all = all
      lost_too formed Unknown lost all = all_push (IsLostCommand old.base old.history) lost (lost_behind (records old.base old.history) out.body) all (record {
        front = old.history;
        first = ([], append-nil old.history);
        command = command;
        behind = refl;
        body = sym bodies_are ∙ out.one;
        formed = formed;
      })
      lost_too formed DiskFault lost all = all

      marked-images : IsFormed (state_of old) command → (opening : Bodies) → Keeps opening old.base old.history old.journal → Keeps opening old.base old.history journal
      marked-images formed opening keeps = record {
        lost = lost_by why (records old.base old.history) out.body keeps.lost;
        holds = out.holds opening (records old.base old.history) keeps.lost keeps.holds;
        commands = lost_too formed why keeps.lost keeps.commands;
        formed = keeps.formed;
      }

      pub marked-goes : IsFormed (state_of old) command → Goes old marked
      marked-goes formed = record {
        images = marked-images formed;
        opened = ap (λ gate. (gate + 1) - size_of (records old.base old.history)) out.end;
        told = out.opened;
        kept = counts;
      }
