use Rattle.std.proofs.Common.{◌≡◌, ◌++◌, filter, map}
use Rattle.pol_content.specs.declared.change.Change.TheVariants.{PutToken}
use Rattle.pol_rules.specs.Live.{is_unexpired}
use Rattle.pol_states.proofs.live.push_tokens.Given as goal

-- with the puts of those that are left it is with the puts of all
abbrev pub invariant-loop-row : goal.invariant-loop-row
invariant-loop-row l =
    let test = is_unexpired l.state.rows in
    l.changes.items ++ map PutToken (filter test l.row-iterator) ≡ l.initial.changes.items ++ map PutToken (filter test l.fn.rows)
