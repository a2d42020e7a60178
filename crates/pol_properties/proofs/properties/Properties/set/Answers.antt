use Rattle.std.proofs.Common.{Result, Ok, Err, OnErr, ap, subst, sym, ◌∙◌}
use Rattle.pol_properties.specs.Properties.{IsAt, IsGap, value_of, with_value}
use Rattle.pol_properties.proofs.CutLemmas.{KeysAscend-insert, KeysAscend-set, value_of-missed, with_value-insert, with_value-place}
use Rattle.pol_properties.proofs.properties.Properties.set.Goals as goal

pub invariant_of-self : goal.invariant_of-self
invariant_of-self c =
    let at = subst (λ pairs. IsAt c.as_str.result.now pairs c.in-Ok.place) (sym c.self.view_is) c.in-Ok.ensures.found in
    KeysAscend-set _ _ _ at c.args.pair c.args.pair (sym c.as_str.ensures) c.self.invariant

pub returns-in-Ok-clause-pairs : goal.returns-in-Ok-clause-pairs
returns-in-Ok-clause-pairs c =
    let at = subst (λ pairs. IsAt c.as_str.result.now pairs c.in-Ok.place) (sym c.self.view_is) c.in-Ok.ensures.found in
    with_value-place _ _ _ at c.args.pair c.args.pair (sym c.as_str.ensures) ∙ ap (with_value c.args.pair) c.self.view_is

pub invariant_of-self-in-Err : goal.invariant_of-self-in-Err
invariant_of-self-in-Err c =
    let gap = subst (λ pairs. IsGap c.as_str.result.now pairs c.in-Err.place) (sym c.self.view_is) c.in-Err.ensures.absent in
    rw c.in_ok-insert-in-Err.ensures.items (KeysAscend-insert _ _ _ gap c.args.pair (sym c.as_str.ensures) c.self.invariant)

pub returns-in_ok-insert-in-Err-clause-pairs : goal.returns-in_ok-insert-in-Err-clause-pairs
returns-in_ok-insert-in-Err-clause-pairs c =
    let gap = subst (λ pairs. IsGap c.as_str.result.now pairs c.in-Err.place) (sym c.self.view_is) c.in-Err.ensures.absent in
    c.in_ok-insert-in-Err.ensures.items ∙ with_value-insert _ _ _ gap c.args.pair (sym c.as_str.ensures) ∙ ap (with_value c.args.pair) c.self.view_is

-- what holds in any case holds at an error
at_err : {T E : Type 0} (result : Result T E) (P : Type 0) → P → OnErr result P
at_err (Ok value) P holds = tt
at_err (Err why) P holds = holds

pub returns-in_err-insert-in-Err-clause-absent : goal.returns-in_err-insert-in-Err-clause-absent
returns-in_err-insert-in-Err-clause-absent c =
    at_err _ _ (ap (λ key. value_of key c.args.self.now) (sym c.as_str.ensures) ∙ value_of-missed _ _ _ c.in-Err.ensures.absent)
