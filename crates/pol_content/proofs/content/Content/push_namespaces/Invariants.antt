use Rattle.std.proofs.Common.{◌≡◌, ◌++◌, ◌-◌, length, take}
use Rattle.pol_content.specs.Chain.{namespace_at, namespaces_out}
use Rattle.pol_content.specs.Content.{NamespaceNamesDiffer}
use Rattle.pol_content.proofs.ChainLemmas.{falling}
use Rattle.pol_content.proofs.content.Content.push_namespaces.Given as goal

-- what was pushed and what is left are all
abbrev pub invariant-loop-fewer : goal.invariant-loop-fewer
invariant-loop-fewer l =
    NamespaceNamesDiffer l.self.rows.namespaces
    → l.chain.items ++ falling (namespace_at l.catalog l.self.rows) (λ depth. take depth l.levels) (length l.levels - l.fewer) ≡ l.fn.chain.items ++ namespaces_out l.catalog l.levels l.self.rows
