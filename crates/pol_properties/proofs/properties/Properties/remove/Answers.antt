use Rattle.std.proofs.Common.{Some, ap, subst, sym, ◌∙◌}
use Rattle.pol_properties.specs.Properties.{IsAt, value_of, without_key}
use Rattle.pol_properties.proofs.CutLemmas.{KeysAscend-without, value_of-missed, value_of-place, without_key-missed, without_key-place}
use Rattle.pol_properties.proofs.properties.Properties.remove.Goals as goal

pub invariant_of-self : goal.invariant_of-self
invariant_of-self c =
    let at = subst (λ pairs. IsAt c.args.key.now pairs c.in-Ok.place) (sym c.self.view_is) c.in-Ok.ensures.found in
    rw c.remove.ensures.items (KeysAscend-without _ _ _ at c.remove.result c.self.invariant)

pub returns-in-Ok-clause-value : goal.returns-in-Ok-clause-value
returns-in-Ok-clause-value c =
    let at = subst (λ pairs. IsAt c.args.key.now pairs c.in-Ok.place) (sym c.self.view_is) c.in-Ok.ensures.found in
    ap (λ pair. Some pair.value) c.remove.ensures.value ∙ sym (value_of-place _ _ _ at c.remove.result) ∙ ap (value_of c.args.key.now) c.self.view_is

pub returns-in-Ok-clause-pairs : goal.returns-in-Ok-clause-pairs
returns-in-Ok-clause-pairs c =
    let at = subst (λ pairs. IsAt c.args.key.now pairs c.in-Ok.place) (sym c.self.view_is) c.in-Ok.ensures.found in
    c.remove.ensures.items ∙ without_key-place _ _ _ at c.remove.result ∙ ap (without_key c.args.key.now) c.self.view_is

pub returns-in-Err-clause-value : goal.returns-in-Err-clause-value
returns-in-Err-clause-value c = sym (value_of-missed _ _ _ c.in-Err.ensures.absent)

pub returns-in-Err-clause-pairs : goal.returns-in-Err-clause-pairs
returns-in-Err-clause-pairs c = without_key-missed _ _ _ c.in-Err.ensures.absent
