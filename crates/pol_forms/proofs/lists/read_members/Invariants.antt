use Rattle.std.proofs.Common.{◌≡◌, ◌-◌}
use Rattle.pol_forms.specs.Reading.{times}
use Rattle.pol_forms.proofs.ListLemmas.{with_front}
use Rattle.pol_forms.proofs.lists.read_members.Given as goal

abbrev pub invariant-loop : goal.invariant-loop
invariant-loop g l =
    with_front l.members.items (times g.C.Coder.form.read (l.count - l.counter) l.unread) ≡ times g.C.Coder.form.read l.count l.fn.unread
