-- What metadata and bodies of views are read as has the forms that valid metadata and updates ask for.
use Rattle.std.proofs.Common.{◌≡◌, ◌≤◌, ℕ, List, IfOk, Result, Ok, Err, sym, subst, arith}
use Rattle.std.specs.List.{All}
use Rattle.serde_json.specs.Data.{Data}
use Rattle.pol_commitjson.specs.declared.action.TextAction.{TextAction}
use Rattle.pol_commitjson.specs.declared.action.TextAction.TheVariants as texts
use Rattle.pol_meta.specs.Valid.{IsLong, IsSchema}
use Rattle.pol_metajson.proofs.FormLemmas.{schema_formed}
use Rattle.pol_metajson.proofs.RequestLemmas.{items_hold}
use Rattle.pol_metakeys.specs.declared.keys.TheConstants as meta_key
use Rattle.pol_metaread.proofs.FormLemmas.{is_long, list_holds, schema_holds}
use Rattle.pol_metaread.proofs.OrderLemmas.{IsOrdered, read_ordered}
use Rattle.pol_metaread.specs.Numbered.{numbered_schema}
use Rattle.pol_readers.specs.Exactness.{bodies_exact}
use Rattle.pol_readers.specs.Forms.{body}
use Rattle.pol_readers.specs.Reading.{Gives}
use Rattle.pol_readers.specs.declared.error.ReadError.{ReadError}
use Rattle.pol_views.specs.Creation.{IsViewAskedFor}
use Rattle.pol_views.specs.Forms.{HasViewForm}
use Rattle.pol_views.specs.Valid.{HasViewForms, IsVersionLogEntry, IsViewVersion}
use Rattle.pol_views.specs.declared.log.VersionLogEntry.{VersionLogEntry}
use Rattle.pol_views.specs.declared.metadata.ViewMetadata.{ViewMetadata}
use Rattle.pol_views.specs.declared.request.CreateView.{CreateView}
use Rattle.pol_views.specs.declared.request.ViewCommit.{ViewCommit}
use Rattle.pol_views.specs.declared.update.ViewUpdate.{ViewUpdate}
use Rattle.pol_views.specs.declared.version.UnboundVersion.{UnboundVersion}
use Rattle.pol_views.specs.declared.version.ViewVersion.{ViewVersion}
use Rattle.pol_viewjson.specs.Metadata.{view_metadata}
use Rattle.pol_viewjson.specs.Requests.{IsFormed, create_view, view_commit}
use Rattle.pol_viewjson.specs.Updates.{text_update, update, update_of, version_update}
use Rattle.pol_viewjson.specs.Versions.{unbound_version, version_log_entry, view_version}
use Rattle.pol_viewjson.specs.declared.action.VersionAction.{VersionAction}
use Rattle.pol_viewjson.specs.declared.action.VersionAction.TheVariants as versions
use Rattle.pol_viewjson.specs.declared.action.ViewAction.{ViewAction}
use Rattle.pol_viewjson.specs.declared.action.ViewAction.TheVariants.{Versions, Texts, LeftOut}
use Rattle.pol_viewjson.specs.declared.keys.TheConstants as key

-- versions, and the entries of the log
version_holds : (d : Data) (value : ViewVersion) → IsOrdered d → view_version.stands d value → IsViewVersion value
unfolding view_version
version_holds d value ordered so =
    let given = so.2 in
    let moment = given.2 in
    let columns = moment.2 in
    let parts = columns.2 in
    subst IsViewVersion (sym parts.2)
    (record {
      id = given.1.2.2;
      time = is_long moment.0 moment.1.2.2;
      schema = columns.1.2.2;
    })

log_entry_holds : (d : Data) (value : VersionLogEntry) → IsOrdered d → version_log_entry.stands d value
    → IsVersionLogEntry value
unfolding version_log_entry
log_entry_holds d value ordered so =
    let moment = so.2 in
    let named = moment.2 in
    subst IsVersionLogEntry (sym named.2)
    (record { time = is_long moment.0 moment.1.2.2; version = named.1.2.2 })

-- a whole metadata
exactly : (n : ℕ) → 1 ≤ n → n ≤ 1 → n ≡ 1
exactly n least most = omega (arith, least, most)

metadata_holds : (d : Data) (meta : ViewMetadata) → IsOrdered d → view_metadata.stands d meta → HasViewForms meta
unfolding view_metadata
metadata_holds d meta ordered so =
    let shown = so.2 in
    let format = shown.2 in
    let placed = format.2 in
    let pairs = placed.2 in
    let columns = pairs.2 in
    let log = columns.2 in
    let held = log.2 in
    let named = held.2 in
    subst HasViewForms (sym named.2)
    (record {
      current = shown.1.2.2;
      version = exactly format.0 format.1.2.1 format.1.2.2;
      schemas = list_holds IsSchema numbered_schema.stands schema_holds meta_key.SCHEMAS.now d columns.0 ordered columns.1;
      log = list_holds IsVersionLogEntry version_log_entry.stands log_entry_holds key.VERSION_LOG.now d log.0 ordered log.1;
      versions = list_holds IsViewVersion view_version.stands version_holds key.VERSIONS.now d held.0 ordered held.1;
    })

-- what is read of a text has its forms
pub view_holds : (text : List ℕ) (outcome : Result ViewMetadata ReadError)
    → Gives outcome (body view_metadata.read text) → IfOk outcome HasViewForms
view_holds text (Ok meta) is =
    let so = (bodies_exact view_metadata.exact).sound text meta is in
    metadata_holds so.0 meta (read_ordered text so.0 so.2) so.4
view_holds text (Err error) is = tt

-- a version that is asked for
unbound_formed : (d : Data) (value : UnboundVersion) → unbound_version.stands d value → IsLong value.timestamp_ms
unfolding unbound_version
unbound_formed d value so =
    let moment = so.2.2 in
    let columns = moment.2 in
    let parts = columns.2 in
    subst (λ (other : UnboundVersion). IsLong other.timestamp_ms) (sym parts.2) (is_long moment.0 moment.1.2.2)

-- a body that creates a view
request_formed : (d : Data) (request : CreateView) → create_view.stands d request → IsFormed request
unfolding create_view
request_formed d request so moment time =
    let columns = so.2.2.2 in
    let version = columns.2 in
    let described = version.2 in
    subst (λ (other : CreateView). IsViewAskedFor other.schema other.view_version moment) (sym described.2)
    (record {
      schema_form = schema_formed columns.1.0 columns.0 columns.1.2;
      version_time = unbound_formed version.1.0 version.0 version.1.2;
      time = time;
    })

pub create_formed : (bytes : List ℕ) (outcome : Result CreateView ReadError) → Gives outcome (body create_view.read bytes)
    → IfOk outcome IsFormed
create_formed bytes (Ok request) is =
    let so = (bodies_exact create_view.exact).sound bytes request is in
    request_formed so.0 request so.4
create_formed bytes (Err error) is = tt

-- the updates of a commit
version_update_formed : (which : VersionAction) (d : Data) (value : ViewUpdate) → (version_update which).stands d value
    → HasViewForm value
unfolding version_update
version_update_formed versions.AddSchema d value so = subst HasViewForm (sym so.2) (schema_formed so.1.0 so.0 so.1.2)
version_update_formed versions.AddViewVersion d value so = subst HasViewForm (sym so.2) (unbound_formed so.1.0 so.0 so.1.2)
version_update_formed versions.SetCurrentViewVersion d value so = subst HasViewForm (sym so.2) tt

text_update_formed : (which : TextAction) (d : Data) (value : ViewUpdate) → (text_update which).stands d value
    → HasViewForm value
unfolding text_update
text_update_formed texts.AssignUuid d value so = subst HasViewForm (sym so.2) tt
text_update_formed texts.UpgradeFormatVersion d value so = subst HasViewForm (sym so.2) tt
text_update_formed texts.SetLocation d value so = subst HasViewForm (sym so.2) tt
text_update_formed texts.SetProperties d value so = subst HasViewForm (sym so.2) tt
text_update_formed texts.RemoveProperties d value so = subst HasViewForm (sym so.2) tt

update_of_formed : (which : ViewAction) (d : Data) (value : ViewUpdate) → (update_of which).stands d value → HasViewForm value
unfolding update_of
update_of_formed (Versions which) d value so = version_update_formed which d value so
update_of_formed (Texts which) d value so = text_update_formed which d value so
update_of_formed (LeftOut which) d value so = subst HasViewForm (sym so) tt

update_formed : (d : Data) (value : ViewUpdate) → update.stands d value → HasViewForm value
unfolding update
update_formed d value so = update_of_formed so.2.0 d value so.2.2

updates_formed : (d : Data) (commit : ViewCommit) → view_commit.stands d commit → All HasViewForm commit.updates
unfolding view_commit
updates_formed d commit so =
    let changed = so.2.2 in
    subst (λ (other : ViewCommit). All HasViewForm other.updates) (sym changed.2)
    (items_hold HasViewForm update.stands update_formed changed.1.2.0 changed.0 changed.1.2.2)

pub commit_formed : (bytes : List ℕ) (outcome : Result ViewCommit ReadError) → Gives outcome (body view_commit.read bytes)
    → IfOk outcome (λ (commit : ViewCommit). All HasViewForm commit.updates)
commit_formed bytes (Ok commit) is =
    let so = (bodies_exact view_commit.exact).sound bytes commit is in
    updates_formed so.0 commit so.4
commit_formed bytes (Err error) is = tt
