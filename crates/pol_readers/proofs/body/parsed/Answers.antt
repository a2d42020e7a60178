use Rattle.std.proofs.lemmas.Bool.{false≢true}
use Rattle.pol_readers.specs.Exactness.{data_read}
use Rattle.pol_readers.proofs.BodyLemmas.{data_refused}
use Rattle.pol_readers.proofs.body.parsed.Goals as goal

pub returns-in-Ok : goal.returns-in-Ok
returns-in-Ok c = data_read _ _ c.in-Ok.ensures.ok.0 c.in-Ok.ensures.ok.1

pub returns-else-is_memory : goal.returns-else-is_memory
returns-else-is_memory c =
    rw c.here.ensures (data_refused _ (c.in-Err.ensures.err (λ memory. false≢true (c.if-is_memory.ensures.1 memory))))
