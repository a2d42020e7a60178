use Rattle.std.specs.Prelude.{IfOk}
use Rattle.std.proofs.Common.{◌≡◌, None, sym, ap, subst, ◌∙◌, rules}
use Rattle.std.specs.Option.{option_copied}
use Rattle.pol_access.specs.declared.securable.Securable.{Securable}
use Rattle.pol_content.specs.Chain.{deepest, view_or}
use Rattle.pol_content.proofs.content.Content.deepest_of_view.Goals as goal

pub returns-in-Some : goal.returns-in-Some
returns-in-Some c names views =
    let part = deepest c.args.catalog c.args.identifier.now.namespace c.args.self.now.rows in
    ap (view_or part) (sym (ap option_copied c.in-Some.is) ∙ c.view_at.ensures.first names views)

pub returns : goal.returns
returns c names views =
    let part = deepest c.args.catalog c.args.identifier.now.namespace c.args.self.now.rows in
    let missing : option_copied c.view_at.result ≡ None = search rules in
    let whole = ap (view_or part) (sym missing ∙ c.view_at.ensures.first names views) in
    subst (λ (all : Securable). IfOk c.deepest.result (λ told. told ≡ all)) whole (c.deepest.ensures names)
