use Rattle.pol_locations.proofs.Texts.{only_texts, parse_refusal-location_text, segments_of-location_text}
use Rattle.pol_locations.proofs.laws.texts_stand_for_locations.Goals as goal

pub returns-clause-pass : goal.returns-clause-pass
returns-clause-pass c = parse_refusal-location_text

pub returns-clause-read_back : goal.returns-clause-read_back
returns-clause-read_back c = segments_of-location_text

pub returns-clause-only : goal.returns-clause-only
returns-clause-only c = only_texts
