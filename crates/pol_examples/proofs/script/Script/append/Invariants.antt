use Rattle.std.proofs.Common.{◌≡◌}
use Rattle.pol_examples.proofs.script.Script.append.Given as goal

abbrev pub invariant-loop-part : goal.invariant-loop-part
invariant-loop-part l = (l.self.input ≡ l.initial.self.input) × (l.self.output ≡ l.initial.self.output)

abbrev pub invariant-loop-token : goal.invariant-loop-token
invariant-loop-token l = (l.self.input ≡ l.initial.self.input) × (l.self.output ≡ l.initial.self.output)
