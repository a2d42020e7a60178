use Rattle.std.proofs.Common.{◌∷◌, subst}
use Rattle.serde_json.specs.View.{view}
use Rattle.serde_json.proofs.Views.{Entry}
use Rattle.pol_readers.proofs.EntriesLemmas.{IsReadTo, read_more, read_all_rise}
use Rattle.pol_readers.proofs.entries.read_members.Goals as goal

pub loop-key-preserved : goal.loop-key-preserved
loop-key-preserved g c =
    let form = g.F.Form.shape.read in
    let all = c.args.members.now.entries in
    let done = c.loop-key.entries.items in
    let e : Entry = (c.in-Some.key.now, c.in-Some.member.now) in
    let rest = c.next.new.self in
    let value = c.in_ok-value.value in
    let so : IsReadTo form all done (e ∷ rest) = subst (IsReadTo form all done) c.in-Some.ensures.steps c.loop-key.invariant in
    let here = c.in_ok-value.ensures (form (view c.in-Some.member.now)) c.read.ensures in
    let read = read_more form all rest e done value so (rw c.as_str.ensures.value at here) in
    rw (c.in_ok-push.ensures.items, c.from.ensures, c.in_ok-clone.ensures.cases) read

pub invariant_of-result : goal.invariant_of-result
invariant_of-result g c =
    let form = g.F.Form.shape.read in
    let all = c.args.members.now.entries in
    let done = c.loop-key.entries.items in
    read_all_rise form all done (subst (IsReadTo form all done) c.in-None.ensures.steps.0 c.loop-key.invariant)
    c.iter-key-items.ensures.ordered
