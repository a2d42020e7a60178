-- What the rule of names tells, for the reader of their form.
use Rattle.pol_names.proofs.Refusals.{name_refusal-IsName}

pub ruleset name_rules = (name_refusal-IsName)
