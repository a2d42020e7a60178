use Rattle.std.proofs.Common.{◌≡◌, ◌≤◌, ◌+◌, ◌++◌, length}
use Rattle.std.specs.Vec.Iter.{into_iter_items, into_iter_len}
use Rattle.pol_meta.specs.Creation.{numbered, unnumbered}
use Rattle.pol_meta.proofs.create.number.Given as goal

abbrev pub invariant-loop-field : goal.invariant-loop-field
invariant-loop-field l =
    let rest = into_iter_items l.field-iterator in
    (numbered (l.fn.highest + 1) l.fn.fields.items ≡ l.numbered.items ++ numbered l.next rest)
    × (l.next + unnumbered rest ≤ 2147483648)
    × (into_iter_len l.field-iterator ≡ length rest)
