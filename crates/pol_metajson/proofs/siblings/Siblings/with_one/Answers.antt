use Rattle.pol_metajson.proofs.SiblingsLemmas.{names_more}
use Rattle.pol_metajson.proofs.siblings.Siblings.with_one.Goals as goal

pub invariant_of-result : goal.invariant_of-result
invariant_of-result c =
    rw (c.in_ok-push.ensures.items)
    (names_more c.self.inside.depth c.self.inside.columns.items c.args.column c.self.inside.names.keys c.in_ok-names.names.keys c.self.invariant c.in_ok-names.ensures)
