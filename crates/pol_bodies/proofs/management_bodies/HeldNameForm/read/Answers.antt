use Rattle.std.proofs.Common.{Ok, ap, subst, sym, ◌∙◌}
use Rattle.pol_names.proofs.Refusals.{name_refusal-IsName}
use Rattle.pol_names.specs.Name.{IsName}
use Rattle.pol_readers.specs.Forms.{holds}
use Rattle.pol_bodies.specs.ManagementBodies.{name_text}
use Rattle.pol_bodies.proofs.management_bodies.HeldNameForm.read.Goals as goal

pub returns-in-Ok : goal.returns-in-Ok
unfolding name_text holds
returns-in-Ok c =
    let named = subst IsName c.as_str.ensures c.in-Ok.ensures.named in
    rw (c.in_ok-text.ensures, name_refusal-IsName _ named) (ap Ok (sym (c.new-in-Ok.ensures ∙ c.in-Ok.ensures.value ∙ c.as_str.ensures)))
