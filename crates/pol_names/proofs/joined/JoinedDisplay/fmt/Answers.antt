use Rattle.std.proofs.Common.{◌≡◌, arith, ◌++◌, ◌∷◌, refl, sym, take}
use Rattle.std.proofs.Output.{has_written_append, has_written_of_eq}
use Rattle.std.proofs.lemmas.List.{take_all}
use Rattle.std.specs.List.{flat_map, join_with_byte}
use Rattle.pol_types.proofs.Joins.{join_with_byte-flat_map}
use Rattle.pol_names.proofs.joined.JoinedDisplay.fmt.Goals as goal

pub returns-clause-writes : goal.returns-clause-writes
returns-clause-writes g c plain ok =
    let first = c.in_ok-write.ensures.writes plain refl in
    let others : take c.loop-name.name-index c.in-Some.others.now ≡ c.in-Some.others.now = take_all _ _ (omega arith) in
    let whole : c.in-Some.first.now ++ flat_map (λ other. c.args.self.now.separator ∷ other) (take c.loop-name.name-index c.in-Some.others.now)
    ≡ join_with_byte c.args.self.now.separator c.args.self.now.names.now =
    rw (others, c.in-Some.ensures.cases.0) (sym (join_with_byte-flat_map _ _ _)) in
    has_written_of_eq _ _ _ _ _ whole (has_written_append _ _ _ _ _ _ first (c.loop-name.invariant first.plain))
