use Rattle.pol_values.proofs.commits.updates_text.Given as goal

abbrev pub ghosts-applied : goal.ghosts-applied
ghosts-applied a = record { name = a.blank.name; parts = a.blank.parts }
