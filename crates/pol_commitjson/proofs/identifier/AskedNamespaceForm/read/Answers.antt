use Rattle.std.proofs.Common.{Ok, ap, subst, sym, ◌∙◌}
use Rattle.pol_names.proofs.Levels.{namespace_refusal-IsNamespace}
use Rattle.pol_names.specs.Namespace.{IsNamespace}
use Rattle.pol_readers.specs.Forms.{holds}
use Rattle.pol_commitjson.specs.Identifiers.{levels}
use Rattle.pol_commitjson.proofs.identifier.AskedNamespaceForm.read.Goals as goal

pub returns-in-Ok : goal.returns-in-Ok
unfolding levels holds
returns-in-Ok c =
    let named = subst IsNamespace c.as_slice.ensures c.in-Ok.ensures.named in
    rw (c.in_ok-levels.ensures, namespace_refusal-IsNamespace _ named) (ap Ok (sym (c.new.ensures ∙ c.in-Ok.ensures.value ∙ c.as_slice.ensures)))
