use Rattle.std.proofs.Common.{◌≡◌, ◌∷◌, take}
use Rattle.std.specs.List.{flat_map}
use Rattle.json.specs.Token.{begin_array}
use Rattle.pol_metaprint.specs.Log.{entry_tokens}
use Rattle.pol_metaprint.proofs.log.write_log.Given as goal

abbrev pub invariant-loop-entry : goal.invariant-loop-entry
invariant-loop-entry l = (l.out.before ≡ l.fn.text.items) × (l.out.tokens ≡ begin_array ∷ flat_map entry_tokens (take l.entry-index l.log))
