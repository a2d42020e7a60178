use Rattle.std.proofs.Common.{◌≡◌, ◌-◌, length, take}
use Rattle.pol_content.specs.Chain.{namespace_at, namespaces_out}
use Rattle.pol_content.specs.Content.{NamespaceNamesDiffer}
use Rattle.pol_content.proofs.ChainLemmas.{falling}
use Rattle.pol_content.proofs.content.Content.deepest.Given as goal

-- those that are there are those that are left
abbrev pub invariant-loop-fewer : goal.invariant-loop-fewer
invariant-loop-fewer l =
    NamespaceNamesDiffer l.self.rows.namespaces
    → falling (namespace_at l.catalog l.self.rows) (λ depth. take depth l.levels) (length l.levels - l.fewer) ≡ namespaces_out l.catalog l.levels l.self.rows
