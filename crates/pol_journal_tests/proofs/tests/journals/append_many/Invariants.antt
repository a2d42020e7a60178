use Rattle.pol_journal.specs.Journal.{IsReady}
use Rattle.pol_journal_tests.proofs.tests.journals.append_many.Given as goal

abbrev pub invariant-loop : goal.invariant-loop
invariant-loop l = IsReady l.journal
