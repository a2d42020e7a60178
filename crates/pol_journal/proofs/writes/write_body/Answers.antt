use Rattle.std.proofs.Common.{◌≡◌, ◌+◌, max, [], ◌∷◌, ◌++◌, length, arith, append_assoc}
use Rattle.std.proofs.lemmas.Result.{on_ok_weaker}
use Rattle.std.specs.Int.{w64, to_be_bytes}
use Rattle.pol_journal.specs.Crash.{KeepsFront}
use Rattle.pol_journal.specs.Format.{framed}
use Rattle.pol_journal.proofs.Moments.{one_call, two_runs}
use Rattle.pol_journal.proofs.Steps.{keeps_none, keeps_both, keeps_less, torn_follows_front, told_both, told_next, past_gate}
use Rattle.pol_journal.proofs.writes.write_body.Goals as goal

pub returns-in_err-write_at-clause-crash : goal.returns-in_err-write_at-clause-crash
returns-in_err-write_at-clause-crash g c =
    let d = g.D.Disk in
    let at = c.args.gate + 1 in
    one_call d.clock d.left_since d.may_leave (KeepsFront at) _ _ (keeps_none at) (g.met.D.Disk.only_now c.args.disk.now) c.write_at.ensures.time
    (torn_follows_front at at _ _ _ (omega arith) c.write_at.ensures.crash)

pub returns-clause-written : goal.returns-clause-written
unfolding framed
returns-clause-written g c =
    on_ok_weaker c.write_both.result
    (told_next (c.args.gate + 1) _ (to_be_bytes w64 (length c.args.body.now)) (c.args.body.now ++ 0 ∷ []) _ _ _ _ _ (g.met.D.Disk.tells_size c.args.disk.now) (past_gate _ c.args.gate c.requires.within) (omega arith) (append_assoc (to_be_bytes w64 (length c.args.body.now)) c.args.body.now (0 ∷ []))
    (rw c.to_be_bytes.ensures at c.in_ok-write_at.ensures.written))
    c.write_both.ensures.written

pub returns-clause-reach : goal.returns-clause-reach
returns-clause-reach g c =
    let gate = c.args.gate in
    let count = length c.args.body.now in
    on_ok_weaker c.write_both.result
    (told_both (λ old new. new ≡ max old (gate + 1 + 8)) (λ old new. new ≡ max old (gate + 9 + count + 1)) (λ old new. new ≡ max old (gate + 10 + count)) _ _ _ (λ x y z first second. omega (arith, first, second))
    (rw c.to_be_bytes.ensures at c.in_ok-write_at.ensures.size))
    c.write_both.ensures.size

pub returns-clause-crash : goal.returns-clause-crash
returns-clause-crash g c =
    let d = g.D.Disk in
    let at = c.args.gate + 1 in
    two_runs d.clock d.left_since d.may_leave (KeepsFront at) _ (KeepsFront at) _ _ _ (λ a b keeps. keeps)
    (λ x y z keeps more. keeps_both at x y z keeps (keeps_less at _ y z (omega arith) more))
    (one_call d.clock d.left_since d.may_leave (KeepsFront at) _ _ (keeps_none at) (g.met.D.Disk.only_now c.args.disk.now) c.write_at.ensures.time
    (torn_follows_front at at _ _ _ (omega arith) c.write_at.ensures.crash))
    c.write_both.ensures.crash
