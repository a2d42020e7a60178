-- What a caller needs to be issued a storage token.
use Rattle.std.specs.Prelude.{Bool, List, [], ◌∷◌, ℕ, Option}
use Rattle.pol_access.specs.declared.privilege.Privilege.{Privilege}
use Rattle.pol_access.specs.declared.privilege.Privilege.TheVariants.{TableReadData, TableWriteData}
use Rattle.pol_access.specs.declared.securable.Securable.{Securable}
use Rattle.pol_commands.specs.declared.command.Command.{Command}
use Rattle.pol_commands.specs.declared.reply.Refusal.{Refusal}
use Rattle.pol_content.specs.Chain.{deepest, deepest_of_table}
use Rattle.pol_content.specs.declared.rows.CatalogRow.{CatalogRow}
use Rattle.pol_names.specs.declared.identifier.Identifier.{Identifier}
use Rattle.pol_rules.specs.Needs.{caller_may, forbidden}
use Rattle.pol_rules.specs.Rules.{inside, no_catalogue, no_namespace, time_of, unauthenticated}
use Rattle.pol_rules.specs.TableRules.{no_table}
use Rattle.pol_rules.specs.declared.needs.Need.{Need}
use Rattle.pol_state.specs.Rows.{Rows}

-- a privilege, and that to read a table's data
abbrev pub with_data : Privilege → Securable → List Need
with_data privilege on =
    record { privilege = privilege; on = on } ∷ record { privilege = TableReadData; on = on } ∷ []

abbrev pub data_on_path : Rows → Privilege → List (List ℕ) → CatalogRow → List Need
data_on_path s privilege levels catalog = with_data privilege (deepest catalog.id levels s.content)

abbrev pub data_on_table : Rows → Privilege → Identifier → CatalogRow → List Need
data_on_table s privilege identifier catalog =
    with_data privilege (deepest_of_table catalog.id identifier.namespace identifier.name s.content)

-- the rules of an action that hands out a storage token of a table that must be there, and of one in a namespace that
-- must be there, before its own
abbrev pub at_table_data : Rows → Command → Privilege → List ℕ → Identifier → List (Option Refusal) → List (Option Refusal)
at_table_data s command privilege name identifier rules =
    unauthenticated s command ∷ no_catalogue s name ∷ inside s name (λ catalog. forbidden s command (data_on_table s privilege identifier catalog))
    ∷ inside s name (λ catalog. no_namespace s catalog.id identifier.namespace) ∷ inside s name (no_table s identifier) ∷ rules

abbrev pub on_namespace_data : Rows → Command → Privilege → List ℕ → List (List ℕ) → List (Option Refusal) → List (Option Refusal)
on_namespace_data s command privilege name levels rules =
    unauthenticated s command ∷ no_catalogue s name ∷ inside s name (λ catalog. forbidden s command (data_on_path s privilege levels catalog)) ∷ inside s name (λ catalog. no_namespace s catalog.id levels) ∷ rules

-- whether the caller may write the data of the tables of a securable
abbrev pub may_write : Rows → Command → Securable → Bool
may_write s command on = caller_may s (time_of s command) command.caller (record { privilege = TableWriteData; on = on })
