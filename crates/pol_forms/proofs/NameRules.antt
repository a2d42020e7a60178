-- What the rules of names, namespaces and locations tell, for the readers of their forms.
use Rattle.pol_locations.proofs.Segments.{location_refusal-IsLocation}
use Rattle.pol_names.proofs.Levels.{namespace_refusal-IsNamespace}
use Rattle.pol_names.proofs.Refusals.{plain_refusal-IsPlainName}

pub ruleset plain_rules = (plain_refusal-IsPlainName)

pub ruleset namespace_rules = (namespace_refusal-IsNamespace)

pub ruleset location_rules = (location_refusal-IsLocation)
