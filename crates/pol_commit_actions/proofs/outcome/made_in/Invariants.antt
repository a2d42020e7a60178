use Rattle.pol_commit_actions.proofs.outcome.made_in.Given as goal

abbrev pub ghosts-updated : goal.ghosts-updated
ghosts-updated a = record { name = a.blank.name; parts = a.blank.parts }
