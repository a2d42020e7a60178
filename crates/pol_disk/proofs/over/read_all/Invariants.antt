use Rattle.std.proofs.Common.{◌-◌, ◌≡◌, length}
use Rattle.pol_disk.specs.FileCalls.{OnlyLooks}
use Rattle.pol_disk.proofs.FileLemmas.{HasRead}
use Rattle.pol_disk.proofs.over.read_all.Given as goal

abbrev pub invariant-loop-count : goal.invariant-loop-count
invariant-loop-count g l =
    let f = g.F.FileCalls in
    OnlyLooks f.seen f.size f.may_leave f.clock f.left_since l.fn.file l.file
    × HasRead (f.seen l.fn.file) (f.size l.fn.file) l.at l.count l.fn.buf l.buf
    × (length l.buf ≡ length l.fn.buf)

abbrev pub decreases-loop-count : goal.decreases-loop-count
decreases-loop-count g l = length l.buf - l.count
