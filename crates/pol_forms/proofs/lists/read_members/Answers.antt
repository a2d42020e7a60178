use Rattle.std.proofs.Common.{rules}
use Rattle.pol_forms.specs.Reading.{times}
use Rattle.pol_forms.proofs.ListLemmas.{ends, goes_on, is_done}
use Rattle.pol_forms.proofs.lists.read_members.Goals as goal

pub loop-preserved : goal.loop-preserved
loop-preserved g c =
    rw c.in_ok-push.ensures.items (goes_on g.C.Coder.form.read c.loop.members.items c.args.count c.loop.counter c.loop.unread c.in_ok-member.member c.read.new.unread (times g.C.Coder.form.read c.args.count c.args.unread.now) c.loop-test.true c.in_ok-member.ensures c.loop.invariant)

pub returns : goal.returns
returns g c =
    is_done g.C.Coder.form.read c.loop.members.items c.args.count c.loop.counter c.loop.unread (times g.C.Coder.form.read c.args.count c.args.unread.now) c.loop-test.false c.loop.invariant

pub returns-in_err-member : goal.returns-in_err-member
returns-in_err-member g c =
    let failed = ends g.C.Coder.form.read c.in_err-member.field-0.0 c.loop.members.items c.args.count c.loop.counter c.loop.unread (times g.C.Coder.form.read c.args.count c.args.unread.now) c.loop-test.true c.in_err-member.ensures c.loop.invariant in
    search rules
