-- What contracts see of the code's own types, which borrow what a state and a command have.
use Rattle.std.specs.Prelude.{List, map}
use Rattle.pol_commit_actions.specs.Outcome.{CommitTo, CommittedTable}
use Rattle.pol_commit_actions.specs.declared.target.Committed.{Committed}
use Rattle.pol_commit_actions.specs.declared.target.Target.{Target}

-- a commit with its table, and several
abbrev pub commit_to : Target → CommitTo
commit_to target = record { row = target.row.now; commit = target.commit.now }

abbrev pub commits_to : List Target → List CommitTo
commits_to targets = map commit_to targets

-- a table before and after its commit, and several
abbrev pub committed_table : Committed → CommittedTable
committed_table committed = record { before = committed.before.now; after = committed.after }

abbrev pub committed_tables : List Committed → List CommittedTable
committed_tables all = map committed_table all
