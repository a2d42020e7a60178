use Rattle.pol_readers.proofs.EntriesLemmas.{IsReadTo}
use Rattle.pol_readers.proofs.entries.read_members.Given as goal

abbrev pub invariant-loop-key : goal.invariant-loop-key
invariant-loop-key g l = IsReadTo g.F.Form.shape.read l.members.entries l.entries.items l.key-iterator
