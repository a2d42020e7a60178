use Rattle.std.proofs.Common.{◌≡◌, ◌++◌, filter, map}
use Rattle.pol_content.specs.declared.change.Change.TheVariants.{PutSession}
use Rattle.pol_rules.specs.Live.{is_live}
use Rattle.pol_states.proofs.live.push_sessions.Given as goal

-- with the puts of those that are left it is with the puts of all
abbrev pub invariant-loop-row : goal.invariant-loop-row
invariant-loop-row l =
    let test = is_live l.state.rows in
    l.changes.items ++ map PutSession (filter test l.row-iterator) ≡ l.initial.changes.items ++ map PutSession (filter test l.fn.rows)
