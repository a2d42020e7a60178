use Rattle.pol_http.proofs.CutLemmas.{cut_more, cut_end, not_whole}
use Rattle.pol_http.proofs.cut.cut_messages.Goals as goal

pub messages-preserved : goal.messages-preserved
messages-preserved c =
    let at = c.in-Whole.ensures.parts.1 in
    rw c.in_ok-push.ensures.items
    (cut_more c.args.bytes.now c.messages.lengths.items c.messages.rest.now c.in-Whole.ensures.parts.0 c.in-Whole.taken
    c.messages.invariant at.reads at.length_is)

pub returns : goal.returns
returns c =
    cut_end c.args.bytes.now c.messages.lengths.items c.messages.rest.now c.messages.invariant
    (not_whole c.messages.rest.now c.next_message.result c.next_message.ensures.whole.1 c.in_default.not-Whole)
