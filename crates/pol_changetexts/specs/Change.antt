-- What is told of changes: the name of the variant, and its row, id or number.
use Rattle.std.specs.Prelude.{ℕ, List, ◌++◌, codes, decimal}
use Rattle.hex.specs.Hex.{encode_lower}
use Rattle.pol_codec.specs.declared.objects.ObjectChange.{ObjectChange}
use Rattle.pol_codec.specs.declared.objects.ObjectChange.TheVariants.{Put, Delete}
use Rattle.pol_content.specs.declared.change.Change.{Change}
use Rattle.pol_content.specs.declared.change.Change.TheVariants.{Time, NextId, NextSerial, PutPrincipal, DropPrincipal, PutPrincipalRole, DropPrincipalRole, PutCatalog, DropCatalog, PutCatalogRole, DropCatalogRole, PutNamespace, DropNamespace, PutTable, DropTable, PutView, DropView, PutMember, DropMember, PutJoin, DropJoin, PutGrant, DropGrant, PutSession, PutToken}
use Rattle.pol_locations.specs.Location.{location_text}
use Rattle.pol_changetexts.specs.Rows.{catalog_role_text, catalog_text, grant_text, join_text, member_text, namespace_text, principal_role_text, principal_text, session_text, table_text, token_text, view_text, ◌&◌}
use Rattle.pol_changetexts.specs.Told.{list_text, named_text}

abbrev pub change_text : Change → List ℕ
change_text (Time time) = named_text (codes "Time") decimal time
change_text (NextId id) = named_text (codes "NextId") decimal id
change_text (NextSerial serial) = named_text (codes "NextSerial") decimal serial
change_text (PutPrincipal row) = named_text (codes "PutPrincipal") principal_text row
change_text (DropPrincipal id) = named_text (codes "DropPrincipal") decimal id
change_text (PutPrincipalRole row) = named_text (codes "PutPrincipalRole") principal_role_text row
change_text (DropPrincipalRole id) = named_text (codes "DropPrincipalRole") decimal id
change_text (PutCatalog row) = named_text (codes "PutCatalog") catalog_text row
change_text (DropCatalog id) = named_text (codes "DropCatalog") decimal id
change_text (PutCatalogRole row) = named_text (codes "PutCatalogRole") catalog_role_text row
change_text (DropCatalogRole id) = named_text (codes "DropCatalogRole") decimal id
change_text (PutNamespace row) = named_text (codes "PutNamespace") namespace_text row
change_text (DropNamespace id) = named_text (codes "DropNamespace") decimal id
change_text (PutTable row) = named_text (codes "PutTable") table_text row
change_text (DropTable id) = named_text (codes "DropTable") decimal id
change_text (PutView row) = named_text (codes "PutView") view_text row
change_text (DropView id) = named_text (codes "DropView") decimal id
change_text (PutMember row) = named_text (codes "PutMember") member_text row
change_text (DropMember row) = named_text (codes "DropMember") member_text row
change_text (PutJoin row) = named_text (codes "PutJoin") join_text row
change_text (DropJoin row) = named_text (codes "DropJoin") join_text row
change_text (PutGrant row) = named_text (codes "PutGrant") grant_text row
change_text (DropGrant row) = named_text (codes "DropGrant") grant_text row
change_text (PutSession row) = named_text (codes "PutSession") session_text row
change_text (PutToken row) = named_text (codes "PutToken") token_text row

-- a list of changes: their number, and they
abbrev pub changes_text : List Change → List ℕ
changes_text changes = list_text (codes "; ") change_text changes

-- a change of objects; the bytes of an object are told in hexadecimal digits
abbrev pub object_change_text : ObjectChange → List ℕ
object_change_text (Put path bytes) = codes "Put" & location_text path & encode_lower bytes
object_change_text (Delete path) = codes "Delete" & location_text path
