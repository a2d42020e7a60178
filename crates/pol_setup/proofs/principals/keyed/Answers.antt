use Rattle.std.proofs.Common.{arith}
use Rattle.pol_setup.proofs.SetupLemmas.{keyed_more, room_here}
use Rattle.pol_setup.proofs.principals.keyed.Goals as goal

pub with_secret-requires : goal.with_secret-requires
with_secret-requires c =
    room_here c.args.words.now c.args.principals.now c.loop-principal.keyed.items c.loop-principal.drawn c.loop-principal.principal-index c.principal-item.result
    c.loop-principal.invariant c.loop-principal-test.true c.principal-item.is

pub next_place-drawn-requires : goal.next_place-drawn-requires
next_place-drawn-requires c = omega (arith, c.loop-principal.invariant.room)

pub loop-principal-preserved : goal.loop-principal-preserved
loop-principal-preserved c =
    rw (c.in_ok-push.ensures.items, c.next_place-drawn.ensures, c.in_ok-one.ensures)
    (keyed_more c.args.words.now c.args.principals.now c.loop-principal.keyed.items c.loop-principal.drawn c.loop-principal.principal-index c.principal-item.result
    c.loop-principal.invariant c.loop-principal-test.true c.principal-item.is)
