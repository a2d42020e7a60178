use Rattle.std.proofs.Common.{Some, ap, subst, sym, ◌∙◌}
use Rattle.pol_properties.specs.Properties.{IsAt, value_of}
use Rattle.pol_properties.proofs.CutLemmas.{value_of-missed, value_of-place}
use Rattle.pol_properties.proofs.properties.Properties.get.Goals as goal

pub returns-in-Ok : goal.returns-in-Ok
returns-in-Ok c =
    let at = subst (λ pairs. IsAt c.args.key.now pairs c.in-Ok.place) (sym c.self.view_is) c.in-Ok.ensures.found in
    ap (λ pair. Some pair.value) c.index-pair.ensures ∙ sym (value_of-place _ _ _ at c.index-pair.result.now) ∙ ap (value_of c.args.key.now) c.self.view_is

pub returns-in-Err : goal.returns-in-Err
returns-in-Err c = sym (value_of-missed _ _ _ c.in-Err.ensures.absent)
