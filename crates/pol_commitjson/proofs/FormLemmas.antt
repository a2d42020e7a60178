-- What commits are read as has the forms that laws of updates ask for.
use Rattle.std.proofs.Common.{ℕ, List, Result, Ok, Err, IfOk, sym, subst}
use Rattle.std.specs.List.{All}
use Rattle.serde_json.specs.Data.{Data}
use Rattle.pol_meta.specs.Valid.{IsSortField, IsUnboundField}
use Rattle.pol_meta.specs.declared.partition.UnboundField.{UnboundField}
use Rattle.pol_meta.specs.declared.partition.UnboundSpec.{UnboundSpec}
use Rattle.pol_meta.specs.declared.sort.UnboundOrder.{UnboundOrder}
use Rattle.pol_readers.specs.Exactness.{bodies_exact}
use Rattle.pol_readers.specs.Forms.{body}
use Rattle.pol_readers.specs.Reading.{Gives}
use Rattle.pol_readers.specs.declared.error.ReadError.{ReadError}
use Rattle.pol_metajson.specs.Order.{sort_field, unbound_order}
use Rattle.pol_metajson.specs.Partition.{unbound_field, unbound_spec}
use Rattle.pol_metajson.proofs.FormLemmas.{schema_formed}
use Rattle.pol_metajson.proofs.RequestLemmas.{partition_field_formed}
use Rattle.pol_metakeys.specs.declared.keys.TheConstants.{FIELDS}
use Rattle.pol_metaread.proofs.FormLemmas.{list_holds, reference_holds, snapshot_holds, sort_field_holds}
use Rattle.pol_metaread.proofs.OrderLemmas.{IsOrdered, held_ordered, read_ordered}
use Rattle.pol_updates.specs.Forms.{HasForm}
use Rattle.pol_updates.specs.declared.change.TableChange.{TableChange}
use Rattle.pol_updates.specs.declared.change.TableCommit.{TableCommit}
use Rattle.pol_updates.specs.declared.update.Update.{Update}
use Rattle.pol_commitjson.specs.Commits.{AreFormed, IsChangeFormed, IsFormed, table_change, table_commit, transaction}
use Rattle.pol_commitjson.specs.Updates.{order_update, schema_update, snapshot_update, spec_update, text_update, update, update_of}
use Rattle.pol_commitjson.specs.declared.action.Action.{Action}
use Rattle.pol_commitjson.specs.declared.action.Action.TheVariants.{Schemas, Specs, Orders, Snapshots, Texts, LeftOut}
use Rattle.pol_commitjson.specs.declared.action.OrderAction.{OrderAction}
use Rattle.pol_commitjson.specs.declared.action.OrderAction.TheVariants as orders
use Rattle.pol_commitjson.specs.declared.action.SchemaAction.{SchemaAction}
use Rattle.pol_commitjson.specs.declared.action.SchemaAction.TheVariants as schemas
use Rattle.pol_commitjson.specs.declared.action.SnapshotAction.{SnapshotAction}
use Rattle.pol_commitjson.specs.declared.action.SnapshotAction.TheVariants as snapshots
use Rattle.pol_commitjson.specs.declared.action.SpecAction.{SpecAction}
use Rattle.pol_commitjson.specs.declared.action.SpecAction.TheVariants as specs
use Rattle.pol_commitjson.specs.declared.action.TextAction.{TextAction}
use Rattle.pol_commitjson.specs.declared.action.TextAction.TheVariants as texts
use Rattle.pol_commitjson.specs.declared.keys.TheConstants as key

-- partition specs and sort orders
unbound_field_holds : (d : Data) (value : UnboundField) → IsOrdered d → unbound_field.stands d value
    → IsUnboundField value
unbound_field_holds d value ordered so = partition_field_formed d value so

spec_holds : (d : Data) (value : UnboundSpec) → IsOrdered d → unbound_spec.stands d value
    → All IsUnboundField value.fields
unfolding unbound_spec
spec_holds d value ordered so =
    subst (λ (other : UnboundSpec). All IsUnboundField other.fields) (sym so.2.2.2)
    (list_holds IsUnboundField unbound_field.stands unbound_field_holds FIELDS.now d so.2.2.0 ordered so.2.2.1)

order_holds : (d : Data) (value : UnboundOrder) → IsOrdered d → unbound_order.stands d value
    → All IsSortField value.fields
unfolding unbound_order
order_holds d value ordered so =
    subst (λ (other : UnboundOrder). All IsSortField other.fields) (sym so.2.2.2)
    (list_holds IsSortField sort_field.stands sort_field_holds FIELDS.now d so.2.2.0 ordered so.2.2.1)

-- updates, each by its action
schema_update_holds : (which : SchemaAction) (d : Data) (value : Update) → (schema_update which).stands d value
    → HasForm value
unfolding schema_update
schema_update_holds schemas.Add d value so = subst HasForm (sym so.2) (schema_formed so.1.0 so.0 so.1.2)
schema_update_holds schemas.SetCurrent d value so = subst HasForm (sym so.2) tt
schema_update_holds schemas.Remove d value so = subst HasForm (sym so.2) tt

spec_update_holds : (which : SpecAction) (d : Data) (value : Update) → IsOrdered d
    → (spec_update which).stands d value → HasForm value
unfolding spec_update
spec_update_holds specs.Add d value ordered so =
    subst HasForm (sym so.2) (spec_holds so.1.0 so.0 (held_ordered key.SPEC.now d so.1.0 ordered so.1.1) so.1.2)
spec_update_holds specs.SetDefault d value ordered so = subst HasForm (sym so.2) tt
spec_update_holds specs.Remove d value ordered so = subst HasForm (sym so.2) tt

order_update_holds : (which : OrderAction) (d : Data) (value : Update) → IsOrdered d
    → (order_update which).stands d value → HasForm value
unfolding order_update
order_update_holds orders.Add d value ordered so =
    subst HasForm (sym so.2) (order_holds so.1.0 so.0 (held_ordered key.SORT_ORDER.now d so.1.0 ordered so.1.1) so.1.2)
order_update_holds orders.SetDefault d value ordered so = subst HasForm (sym so.2) tt

snapshot_update_holds : (which : SnapshotAction) (d : Data) (value : Update) → IsOrdered d
    → (snapshot_update which).stands d value → HasForm value
unfolding snapshot_update
snapshot_update_holds snapshots.Add d value ordered so =
    subst HasForm (sym so.2) (snapshot_holds so.1.0 so.0 (held_ordered key.SNAPSHOT.now d so.1.0 ordered so.1.1) so.1.2)
snapshot_update_holds snapshots.SetRef d value ordered so =
    subst HasForm (sym so.2.2) (reference_holds so.0 d so.2.0 so.2.1)
snapshot_update_holds snapshots.Remove d value ordered so = subst HasForm (sym so.2) tt
snapshot_update_holds snapshots.RemoveRef d value ordered so = subst HasForm (sym so.2) tt

text_update_holds : (which : TextAction) (d : Data) (value : Update) → (text_update which).stands d value
    → HasForm value
unfolding text_update
text_update_holds texts.AssignUuid d value so = subst HasForm (sym so.2) tt
text_update_holds texts.UpgradeFormatVersion d value so = subst HasForm (sym so.2) tt
text_update_holds texts.SetLocation d value so = subst HasForm (sym so.2) tt
text_update_holds texts.SetProperties d value so = subst HasForm (sym so.2) tt
text_update_holds texts.RemoveProperties d value so = subst HasForm (sym so.2) tt

update_of_holds : (which : Action) (d : Data) (value : Update) → IsOrdered d
    → (update_of which).stands d value → HasForm value
unfolding update_of
update_of_holds (Schemas which) d value ordered so = schema_update_holds which d value so
update_of_holds (Specs which) d value ordered so = spec_update_holds which d value ordered so
update_of_holds (Orders which) d value ordered so = order_update_holds which d value ordered so
update_of_holds (Snapshots which) d value ordered so = snapshot_update_holds which d value ordered so
update_of_holds (Texts which) d value ordered so = text_update_holds which d value so
update_of_holds (LeftOut which) d value ordered so = subst HasForm (sym so) tt

update_holds : (d : Data) (value : Update) → IsOrdered d → update.stands d value → HasForm value
unfolding update
update_holds d value ordered so = update_of_holds so.2.0 d value ordered so.2.2

-- commits to one table and to several
commit_holds : (d : Data) (commit : TableCommit) → IsOrdered d → table_commit.stands d commit → IsFormed commit
unfolding table_commit
commit_holds d commit ordered so =
    subst IsFormed (sym so.2.2.2)
    (list_holds HasForm update.stands update_holds key.UPDATES.now d so.2.2.0 ordered so.2.2.1)

change_holds : (d : Data) (change : TableChange) → IsOrdered d → table_change.stands d change → IsChangeFormed change
unfolding table_change
change_holds d change ordered so =
    subst IsChangeFormed (sym so.2.2.2.2)
    (list_holds HasForm update.stands update_holds key.UPDATES.now d so.2.2.2.0 ordered so.2.2.2.1)

transaction_holds : (d : Data) (changes : List TableChange) → IsOrdered d → transaction.stands d changes
    → AreFormed changes
unfolding transaction
transaction_holds d changes ordered so =
    subst AreFormed (sym so.2.2)
    (list_holds IsChangeFormed table_change.stands change_holds key.TABLE_CHANGES.now d so.2.0 ordered so.2.1)

-- what is read of a body has its forms
pub commit_formed : (bytes : List ℕ) (outcome : Result TableCommit ReadError)
    → Gives outcome (body table_commit.read bytes) → IfOk outcome IsFormed
commit_formed bytes (Ok commit) is =
    let so = (bodies_exact table_commit.exact).sound bytes commit is in
    commit_holds so.0 commit (read_ordered bytes so.0 so.2) so.4
commit_formed bytes (Err error) is = tt

pub transaction_formed : (bytes : List ℕ) (outcome : Result (List TableChange) ReadError)
    → Gives outcome (body transaction.read bytes) → IfOk outcome AreFormed
transaction_formed bytes (Ok changes) is =
    let so = (bodies_exact transaction.exact).sound bytes changes is in
    transaction_holds so.0 changes (read_ordered bytes so.0 so.2) so.4
transaction_formed bytes (Err error) is = tt
