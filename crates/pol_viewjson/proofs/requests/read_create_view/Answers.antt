use Rattle.std.proofs.Common.{Ok, sym, subst}
use Rattle.pol_views.specs.declared.request.CreateView.{CreateView}
use Rattle.pol_viewjson.specs.Requests.{IsFormed}
use Rattle.pol_viewjson.proofs.FormLemmas.{create_formed}
use Rattle.pol_viewjson.proofs.requests.read_create_view.Goals as goal

pub returns-clause-formed : goal.returns-clause-formed
returns-clause-formed c moment time =
    let formed : IsFormed c.in_ok-request.request =
    create_formed c.args.body.now (Ok c.in_ok-request.request) c.in_ok-request.ensures in
    subst (λ (request : CreateView). IsFormed request) (sym c.into_value.ensures) formed moment time
