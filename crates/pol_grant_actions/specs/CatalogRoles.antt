-- The actions on the roles of catalogues.
use Rattle.std.specs.Prelude.{ℕ, ◌+◌, ◌==◌, List, [], ◌∷◌, map, filter, codes, Some, option_map}
use Rattle.pol_access.specs.Access.{catalog_role_dropped, catalog_role_id, catalog_role_name}
use Rattle.pol_access.specs.Names.{catalog_role_named}
use Rattle.pol_access.specs.Order.{by_name}
use Rattle.pol_access.specs.declared.rows.CatalogRoleRow.{CatalogRoleRow}
use Rattle.pol_content.specs.Content.{catalog_named}
use Rattle.pol_content.specs.declared.rows.CatalogRow.{CatalogRow}
use Rattle.pol_tables.specs.Table.{rows_with}
use Rattle.pol_rules.specs.AccessRules.{catalog_role_at, in_catalog, no_catalog_role, reserved}
use Rattle.pol_rules.specs.Acting.{Acting, done, reading}
use Rattle.pol_state.specs.Rows.{Rows}
use Rattle.pol_rules.specs.Rules.{inside, name_taken}
use Rattle.pol_commands.specs.declared.command.Command.{Command}
use Rattle.pol_commands.specs.declared.reply.Answer.TheVariants.{RolesListed, RoleCreated, RoleLoaded, RoleDropped}

-- the names of a catalogue's roles
abbrev pub roles_in : Rows → CatalogRow → List (List ℕ)
roles_in s catalog = map catalog_role_name (by_name catalog_role_name (filter (λ row. row.catalog == catalog.id) s.access.catalog_roles))

-- listing them
abbrev pub list_catalog_roles : Rows → Command → List ℕ → Acting
list_catalog_roles s command catalog =
    reading s (in_catalog s command catalog []) (option_map (λ row. RolesListed (roles_in s row)) (catalog_named catalog s.content))

-- the rows with a catalogue role that takes the next id
abbrev pub with_catalog_role : Rows → CatalogRoleRow → Rows
with_catalog_role s row = record s {
  access = record s.access { catalog_roles = rows_with catalog_role_id row s.access.catalog_roles };
  next_id = s.next_id + 1;
}

abbrev pub with_role_in : Rows → List ℕ → CatalogRow → Rows
with_role_in s name catalog = with_catalog_role s (record { id = s.next_id; catalog = catalog.id; name = name })

-- creating a role of a catalogue
abbrev pub create_catalog_role : Rows → Command → List ℕ → List ℕ → Acting
create_catalog_role s command catalog name = record {
  rules = in_catalog s command catalog (inside s catalog (λ row. name_taken (catalog_role_named row.id name s.access) name) ∷ []);
  after = done s (catalog_named catalog s.content) (with_role_in s name);
  answer = Some RoleCreated;
}

-- showing a role of a catalogue
abbrev pub get_catalog_role : Rows → Command → List ℕ → List ℕ → Acting
get_catalog_role s command catalog name =
    reading s (in_catalog s command catalog (inside s catalog (no_catalog_role s name) ∷ [])) (Some (RoleLoaded name))

-- the rows without a catalogue role, its joins and its grants
abbrev pub without_catalog_role : Rows → CatalogRoleRow → Rows
without_catalog_role s row = record s { access = catalog_role_dropped row.id s.access }

-- dropping a role of a catalogue
abbrev pub drop_catalog_role : Rows → Command → List ℕ → List ℕ → Acting
drop_catalog_role s command catalog name = record {
  rules = in_catalog s command catalog (inside s catalog (no_catalog_role s name) ∷ reserved (codes "catalog_admin") name ∷ []);
  after = done s (catalog_role_at s catalog name) (without_catalog_role s);
  answer = Some RoleDropped;
}
