use Rattle.std.proofs.Common.{arith}
use Rattle.pol_forms.proofs.LawLemmas.{refusal_told, value_told}
use Rattle.pol_forms.proofs.coder.read_whole.Goals as goal

pub returns-clause-value : goal.returns-clause-value
returns-clause-value g c =
    value_told g.C.Coder.form c.args.bytes.now c.read_all.result (λ i. omega (arith, c.type_inv.bytes i)) c.read_all.ensures

pub returns-clause-refused : goal.returns-clause-refused
returns-clause-refused g c = refusal_told g.C.Coder.form c.args.bytes.now c.read_all.result c.read_all.ensures
