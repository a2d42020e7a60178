use Rattle.pol_http.proofs.NextLemmas.{tells_whole, tells_continue, tells_partial, tells_open}
use Rattle.pol_http.proofs.next.completed.Goals as goal

pub returns-then-body-bytes : goal.returns-then-body-bytes
returns-then-body-bytes c =
    let front = rw c.in-Whole.is at c.requires in
    tells_whole c.args.bytes.now c.in-Whole.head c.in-Whole.taken c.in-Whole.body front.0 front.1 c.if-body-bytes.true

pub returns-then-head : goal.returns-then-head
returns-then-head c =
    let front = rw c.in-Whole.is at c.requires in
    tells_continue c.args.bytes.now c.in-Whole.head c.in-Whole.taken c.in-Whole.body front.0 front.1 c.if-body-bytes.false c.if-head.true

pub returns-else-head : goal.returns-else-head
returns-else-head c =
    let front = rw c.in-Whole.is at c.requires in
    tells_partial c.args.bytes.now c.in-Whole.head c.in-Whole.taken c.in-Whole.body front.0 front.1 c.if-body-bytes.false c.if-head.false

pub returns-in-Partial : goal.returns-in-Partial
returns-in-Partial c = tells_open c.args.bytes.now (rw c.in-Partial.is at c.requires)
