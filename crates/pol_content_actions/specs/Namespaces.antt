-- The actions on namespaces.
use Rattle.std.specs.Prelude.{ℕ, ◌+◌, List, [], ◌∷◌, map, Option, Some, option_map}
use Rattle.pol_access.specs.Access.{grants_on_dropped}
use Rattle.pol_access.specs.declared.privilege.Privilege.TheVariants.{NamespaceCreate, NamespaceDrop, NamespaceList, NamespaceReadProperties, NamespaceWriteProperties}
use Rattle.pol_access.specs.declared.securable.Securable.TheVariants as securable
use Rattle.pol_content.specs.Content.{catalog_named, children, namespace_id, namespace_named}
use Rattle.pol_content.specs.declared.rows.CatalogRow.{CatalogRow}
use Rattle.pol_content.specs.declared.rows.NamespaceRow.{NamespaceRow}
use Rattle.pol_names.specs.Namespace.{parent_of, dotted}
use Rattle.pol_properties.specs.Properties.{keys, missing_keys, pairs_updated, removed_keys}
use Rattle.pol_properties.specs.declared.property.Property.{Property}
use Rattle.pol_tables.specs.Table.{rows_with, rows_without}
use Rattle.pol_rules.specs.Acting.{Acting, done, reading}
use Rattle.pol_rules.specs.Prologues.{namespace_row_at, on_namespace}
use Rattle.pol_rules.specs.Needs.{forbidden, on_parent}
use Rattle.pol_state.specs.Rows.{Rows}
use Rattle.pol_rules.specs.Rules.{given, inside, key_twice, name_taken, namespace_holds, no_catalogue, no_parent, unauthenticated}
use Rattle.pol_commands.specs.declared.command.Command.{Command}
use Rattle.pol_commands.specs.declared.reply.Answer.TheVariants.{NamespacesListed, NamespaceCreated, NamespaceLoaded, NamespaceThere, NamespaceDropped, PropertiesUpdated}

-- listing the namespaces directly below a parent, or those of one level
abbrev pub listed : Rows → Option (List (List ℕ)) → CatalogRow → List (List (List ℕ))
listed s parent catalog = map (λ (row : NamespaceRow). row.levels) (children catalog.id parent s.content)

abbrev pub list_namespaces : Rows → Command → List ℕ → Option (List (List ℕ)) → Acting
list_namespaces s command name parent =
    reading s (unauthenticated s command ∷ no_catalogue s name ∷ inside s name (λ catalog. forbidden s command (on_parent s NamespaceList parent catalog)) ∷ inside s name (λ catalog. no_parent s catalog.id parent) ∷ []) (option_map (λ catalog. NamespacesListed (listed s parent catalog)) (catalog_named name s.content))

-- the rows with a namespace that takes the next id
abbrev pub with_new_namespace : Rows → NamespaceRow → Rows
with_new_namespace s row =
    record s { content = record s.content { namespaces = rows_with namespace_id row s.content.namespaces }; next_id = s.next_id + 1 }

-- creating a namespace
abbrev pub create_namespace : Rows → Command → List ℕ → List (List ℕ) → List Property → Acting
create_namespace s command name levels properties = record {
  rules = unauthenticated s command ∷ no_catalogue s name ∷ inside s name (λ catalog. forbidden s command (on_parent s NamespaceCreate (parent_of levels) catalog)) ∷ inside s name (λ catalog. no_parent s catalog.id (parent_of levels)) ∷ inside s name (λ catalog. name_taken (namespace_named catalog.id levels s.content) (dotted levels)) ∷ [];
  after = done s (catalog_named name s.content) (λ (catalog : CatalogRow). with_new_namespace s (record { id = s.next_id; catalog = catalog.id; levels = levels; properties = properties }));
  answer = Some (NamespaceCreated levels properties);
}

-- showing a namespace
abbrev pub load_namespace : Rows → Command → List ℕ → List (List ℕ) → Acting
load_namespace s command name levels =
    reading s (on_namespace s command NamespaceReadProperties name levels []) (option_map (λ row. NamespaceLoaded row.levels row.properties) (namespace_row_at s name levels))

-- telling whether a namespace is there
abbrev pub head_namespace : Rows → Command → List ℕ → List (List ℕ) → Acting
head_namespace s command name levels = reading s (on_namespace s command NamespaceReadProperties name levels []) (Some NamespaceThere)

-- the rows without a namespace, and the grants on it
abbrev pub without_namespace : Rows → NamespaceRow → Rows
without_namespace s row = record s { access = grants_on_dropped (securable.Namespace row.id) s.access; content = record s.content { namespaces = rows_without namespace_id row.id s.content.namespaces } }

-- dropping a namespace
abbrev pub drop_namespace : Rows → Command → List ℕ → List (List ℕ) → Acting
drop_namespace s command name levels = record {
  rules = on_namespace s command NamespaceDrop name levels (given (namespace_row_at s name levels) (namespace_holds s) ∷ []);
  after = done s (namespace_row_at s name levels) (without_namespace s);
  answer = Some NamespaceDropped;
}

-- the rows with a namespace that is altered
abbrev pub with_altered : Rows → NamespaceRow → Rows
with_altered s row = record s { content = record s.content { namespaces = rows_with namespace_id row s.content.namespaces } }

-- and with one whose properties are removed and set
abbrev pub with_properties : Rows → List (List ℕ) → List Property → NamespaceRow → Rows
with_properties s removals updates row = with_altered s (record row { properties = pairs_updated removals updates row.properties })

-- removing and setting properties of a namespace
abbrev pub update_properties : Rows → Command → List ℕ → List (List ℕ) → List (List ℕ) → List Property → Acting
update_properties s command name levels removals updates = record {
  rules = on_namespace s command NamespaceWriteProperties name levels (key_twice removals updates ∷ []);
  after = done s (namespace_row_at s name levels) (with_properties s removals updates);
  answer = option_map (λ row. PropertiesUpdated (missing_keys removals row.properties) (removed_keys removals row.properties) (keys updates)) (namespace_row_at s name levels);
}
