use Rattle.std.proofs.Common.{length, rules}
use Rattle.std.proofs.lemmas.Iterator.Adapters.{YieldsList-from_vec}
use Rattle.std.proofs.lemmas.Iterator.Consumers.{YieldsList-turn}
use Rattle.pol_bodies.proofs.CommitBodyLemmas.{change_formed}
use Rattle.pol_bodies.proofs.commit_bodies.all_changed_in.Goals as goal

pub invariant_of-push : goal.invariant_of-push
invariant_of-push c =
    let turn = YieldsList-turn (YieldsList-from_vec {s = c.into_iter-change-iterator.result} c.args.read (search rules) (search rules)) c.loop-change.yielded c.loop-change.change-iterator c.loop-change.yielded_by c.next.result c.next.new.self c.in-Some.change c.in-Some.is c.next.ensures.steps in
    record { formed = change_formed c.args.read (length c.loop-change.yielded) c.in-Some.change c.requires turn.0 turn.1 }
