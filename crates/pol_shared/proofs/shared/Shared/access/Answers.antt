use Rattle.pol_shared.proofs.AccessLemmas.{access-changes-nothing}
use Rattle.pol_shared.proofs.shared.Shared.access.Goals as goal

pub unreachable-requires-in-JournalFull : goal.unreachable-requires-in-JournalFull
unreachable-requires-in-JournalFull g c =
    c.in-JournalFull.ensures.steps.some (access-changes-nothing _ c.args.command c.in-Ok.path c.in-Ok.act c.in-Ok.ensures)

pub unreachable-requires-in-Unknown : goal.unreachable-requires-in-Unknown
unreachable-requires-in-Unknown g c =
    c.in-Unknown.ensures.steps.some (access-changes-nothing _ c.args.command c.in-Ok.path c.in-Ok.act c.in-Ok.ensures)

pub unreachable-requires-in-DiskFault : goal.unreachable-requires-in-DiskFault
unreachable-requires-in-DiskFault g c =
    c.in-DiskFault.ensures.steps.some (access-changes-nothing _ c.args.command c.in-Ok.path c.in-Ok.act c.in-Ok.ensures)

pub returns-in-Done-default-None-clause-untouched : goal.returns-in-Done-default-None-clause-untouched
returns-in-Done-default-None-clause-untouched g c =
    c.step.ensures.idle (access-changes-nothing _ c.args.command c.in-Ok.path c.in-Ok.act c.in-Ok.ensures)

pub returns-in-Done-default-Some-clause-untouched : goal.returns-in-Done-default-Some-clause-untouched
returns-in-Done-default-Some-clause-untouched g c =
    c.step.ensures.idle (access-changes-nothing _ c.args.command c.in-Ok.path c.in-Ok.act c.in-Ok.ensures)
