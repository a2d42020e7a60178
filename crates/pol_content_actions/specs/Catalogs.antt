-- The actions on catalogues.
use Rattle.std.specs.Prelude.{ℕ, ◌+◌, Bool, List, [], ◌∷◌, codes, map, Some, option_map}
use Rattle.pol_access.specs.Access.{catalog_roles_dropped}
use Rattle.pol_access.specs.Names.{principal_role_named}
use Rattle.pol_access.specs.declared.privilege.Privilege.TheVariants.{CatalogReadProperties}
use Rattle.pol_access.specs.declared.rows.PrincipalRoleRow.{PrincipalRoleRow}
use Rattle.pol_content.specs.Content.{catalog_id, catalog_named}
use Rattle.pol_content.specs.Order.{by_name}
use Rattle.pol_content.specs.Ties.{with_admin}
use Rattle.pol_content.specs.declared.rows.CatalogRow.{CatalogRow}
use Rattle.pol_locations.specs.Location.{segments_of}
use Rattle.pol_properties.specs.declared.property.Property.{Property}
use Rattle.pol_tables.specs.Table.{rows_with, rows_without}
use Rattle.pol_rules.specs.AccessRules.{in_realm}
use Rattle.pol_rules.specs.Acting.{Acting, done, reading}
use Rattle.pol_rules.specs.Needs.{forbidden, on_catalog, service}
use Rattle.pol_state.specs.Rows.{Rows}
use Rattle.pol_rules.specs.Rules.{bad_text, bad_texts, catalog_holds, inside, no_catalogue, unauthenticated, unsupported_type, name_taken}
use Rattle.pol_commands.specs.declared.command.Command.{Command}
use Rattle.pol_commands.specs.declared.reply.Answer.TheVariants.{ConfigTold, CatalogsListed, CatalogCreated, CatalogLoaded, CatalogDropped}

-- telling how a client is to speak to a catalogue
abbrev pub get_config : Rows → Command → List ℕ → Acting
get_config s command name = reading s (unauthenticated s command ∷ no_catalogue s name ∷ []) (Some (ConfigTold name))

-- listing all catalogues
abbrev pub list_catalogs : Rows → Command → Acting
list_catalogs s command = reading s (in_realm s command []) (Some (CatalogsListed (by_name s.content.catalogs)))

-- the catalogue that is created, under the next id
abbrev pub new_catalog : Rows → List ℕ → List ℕ → List (List ℕ) → List Property → CatalogRow
new_catalog s name base allowed properties = record {
  id = s.next_id;
  name = name;
  base = segments_of base;
  allowed = map segments_of allowed;
  properties = properties;
}

-- the rows with a catalogue that takes the next id, and its `catalog_admin`, which takes the one after it and is joined
-- to `service_admin`
abbrev pub with_catalog : Rows → CatalogRow → PrincipalRoleRow → Rows
with_catalog s row service = record s {
  access = with_admin row.id service.id s.access;
  content = record s.content { catalogs = rows_with catalog_id row s.content.catalogs };
  next_id = s.next_id + 2;
}

-- creating a catalogue
abbrev pub create_catalog : Rows → Command → List ℕ → List ℕ → List (List ℕ) → List Property → Bool → Acting
create_catalog s command name base allowed properties external =
    let row = new_catalog s name base allowed properties in
    record {
      rules = in_realm s command (name_taken (catalog_named name s.content) name ∷ bad_text base ∷ bad_texts allowed ∷ unsupported_type external ∷ []);
      after = done s (principal_role_named (codes "service_admin") s.access) (with_catalog s row);
      answer = Some (CatalogCreated row);
    }

-- showing a catalogue
abbrev pub get_catalog : Rows → Command → List ℕ → Acting
get_catalog s command name =
    reading s (unauthenticated s command ∷ no_catalogue s name ∷ inside s name (λ catalog. forbidden s command (on_catalog CatalogReadProperties catalog)) ∷ []) (option_map CatalogLoaded (catalog_named name s.content))

-- the rows without a catalogue, its roles, and what names these
abbrev pub without_catalog : Rows → CatalogRow → Rows
without_catalog s row = record s {
  access = catalog_roles_dropped row.id s.access;
  content = record s.content { catalogs = rows_without catalog_id row.id s.content.catalogs };
}

-- dropping a catalogue
abbrev pub drop_catalog : Rows → Command → List ℕ → Acting
drop_catalog s command name = record {
  rules = unauthenticated s command ∷ no_catalogue s name ∷ forbidden s command service ∷ inside s name (catalog_holds s) ∷ [];
  after = done s (catalog_named name s.content) (without_catalog s);
  answer = Some CatalogDropped;
}
