use Rattle.pol_locations.proofs.Segments.{IsLocation-from_refusal, location_refusal-IsLocation}
use Rattle.pol_locations.proofs.laws.locations_pass.Goals as goal

pub returns : goal.returns
returns c segments = (IsLocation-from_refusal segments, location_refusal-IsLocation segments)
