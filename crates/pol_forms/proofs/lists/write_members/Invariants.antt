use Rattle.std.proofs.Common.{◌≡◌, ◌++◌, take, flat_map}
use Rattle.std.specs.List.{AllByRecursion}
use Rattle.pol_forms.proofs.lists.write_members.Given as goal

abbrev pub invariant-loop-member : goal.invariant-loop-member
invariant-loop-member g l = record {
  bytes : l.written.items ≡ l.fn.written.items ++ flat_map g.C.Coder.form.write (take l.member-index l.members);
  holds : AllByRecursion g.C.Coder.rule (take l.member-index l.members) → AllByRecursion g.C.Coder.form.holds (take l.member-index l.members);
}
