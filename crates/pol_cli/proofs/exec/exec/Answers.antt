use Rattle.std.proofs.Common.{[], ◌∷◌, ◌++◌, inl, inr, refl, ap, ◌∙◌}
use Rattle.pol_cli.specs.Reasons.{reason_of, report_of}
use Rattle.pol_cli.specs.declared.reason.Reason.TheVariants.{NoMemory}
use Rattle.pol_cli.proofs.exec.exec.Goals as goal

pub returns-in_default-clause-serves : goal.returns-in_default-clause-serves
returns-in_default-clause-serves g c = inr (refl, refl, c.of.ensures ∙ ap (report_of NoMemory) (c.in_default.ensures.items ∙ c.new-links.ensures.items))

pub returns-clause-serves : goal.returns-clause-serves
returns-clause-serves g c =
    let report_is = c.of-2.ensures ∙ ap (λ reason. report_of reason c.push.new.self.items) c.reason_of-reason.ensures
    ∙ ap (report_of (reason_of c.serve_connection-served.result.ending)) (c.in-Ok-push.ensures.items ∙ ap (λ links. links ++ record { worker = 0; served = c.serve_connection-served.result } ∷ []) (c.in-Ok.ensures.items ∙ c.new-links.ensures.items)) in
    inl (record { served = c.serve_connection-served.result; link = c.serve_connection-served.ensures.serves; report_is = report_is })
