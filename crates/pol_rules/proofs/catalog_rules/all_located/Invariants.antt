use Rattle.std.proofs.Common.{◌≡◌, None, map, take}
use Rattle.pol_locations.specs.Location.{segments_of}
use Rattle.pol_rules.specs.Rules.{bad_texts}
use Rattle.pol_rules.proofs.catalog_rules.all_located.Given as goal

abbrev pub invariant-loop-text : goal.invariant-loop-text
invariant-loop-text l =
    (bad_texts (take l.text-index l.texts) ≡ None) × (l.locations.items ≡ map segments_of (take l.text-index l.texts))
