-- Printed snapshots, references and logs are read as the same.
use Rattle.std.proofs.Common.{◌≡◌, ℕ, List, [], ◌∷◌, map, codes, Option, Some, None, option_map, All, refl, sym, ap, subst, arith, inl, inr}
use Rattle.std.specs.Cmp.Lexicographic.{slice_cmp}
use Rattle.std.specs.List.Sorted.{IsStrictlySortedBy}
use Rattle.std.specs.Ordering.{nat_cmp}
use Rattle.serde_json.specs.Data.{Data, Members, object, string}
use Rattle.serde_json.specs.Find.{get}
use Rattle.pol_properties.specs.Properties.{KeysAscend}
use Rattle.pol_meta.specs.Valid.{IsId, IsKept, IsLong, IsMetadataLogEntry, IsNamedRef, IsOperation, IsSnapshot, IsSnapshotLogEntry}
use Rattle.pol_meta.specs.declared.log.MetadataLogEntry.{MetadataLogEntry}
use Rattle.pol_meta.specs.declared.log.SnapshotLogEntry.{SnapshotLogEntry}
use Rattle.pol_meta.specs.declared.reference.NamedRef.{NamedRef}
use Rattle.pol_meta.specs.declared.reference.RefKind.{RefKind}
use Rattle.pol_meta.specs.declared.reference.RefKind.TheVariants.{Branch, Tag}
use Rattle.pol_meta.specs.declared.reference.SnapshotRef.{SnapshotRef}
use Rattle.pol_meta.specs.declared.snapshot.Snapshot.{Snapshot}
use Rattle.pol_readers.specs.Forms.{one_of, text}
use Rattle.pol_readers.specs.Shape.{Shape}
use Rattle.pol_metajson.specs.Ids.{id}
use Rattle.pol_metaread.proofs.PairLemmas.{listing, text_under}
use Rattle.pol_metaread.specs.Ids.{kept, long}
use Rattle.pol_metaread.specs.Snapshot.{made, metadata_log_entry, operation, ref_kind, reference, refs, snapshot, snapshot_log_entry}
use Rattle.pol_metakeys.specs.declared.keys.TheConstants as key
use Rattle.pol_metaprint.specs.Json.{metadata_log_entry_json, number_json, pairs_json, reference_json, refs_json, snapshot_json, snapshot_log_entry_json}
use Rattle.pol_metaprint.specs.Texts.{ref_kind_text}
use Rattle.pol_metalaws.proofs.ObjectLemmas as objects

pub metadata_log_entry_read : (entry : MetadataLogEntry) → IsMetadataLogEntry entry
    → metadata_log_entry.stands (metadata_log_entry_json entry) entry
unfolding metadata_log_entry metadata_log_entry_json
metadata_log_entry_read entry valid = (
  tt,
  (_, refl),
  (
    entry.metadata_file,
    (_, refl, refl),
    (entry.timestamp_ms, (_, refl, objects.long entry.timestamp_ms valid), refl),
  ),
)

pub snapshot_log_entry_read : (entry : SnapshotLogEntry) → IsSnapshotLogEntry entry
    → snapshot_log_entry.stands (snapshot_log_entry_json entry) entry
unfolding snapshot_log_entry snapshot_log_entry_json
snapshot_log_entry_read entry valid = (
  tt,
  (_, refl),
  (
    entry.snapshot_id,
    (_, refl, objects.long entry.snapshot_id valid.snapshot),
    (entry.timestamp_ms, (_, refl, objects.long entry.timestamp_ms valid.time), refl),
  ),
)

-- one of the texts about a snapshot says how it was made
IsRead : {A : Type 0} → Shape A → Data → Type 0
IsRead {A} shape d = (value : A) × shape.stands d value

operation_read : (word : List ℕ) → IsOperation word → IsRead operation (string word)
unfolding operation one_of text IsRead
operation_read word (inl is) = subst (λ other. IsRead operation (string other)) (sym is)
    (_, operation.exact.sound (string (codes "append")) _ refl)
operation_read word (inr (inl is)) = subst (λ other. IsRead operation (string other)) (sym is)
    (_, operation.exact.sound (string (codes "replace")) _ refl)
operation_read word (inr (inr (inl is))) = subst (λ other. IsRead operation (string other)) (sym is)
    (_, operation.exact.sound (string (codes "overwrite")) _ refl)
operation_read word (inr (inr (inr is))) = subst (λ other. IsRead operation (string other)) (sym is)
    (_, operation.exact.sound (string (codes "delete")) _ refl)

made_read : (s : Snapshot) → IsSnapshot s → KeysAscend s.summary → IsRead made (pairs_json s.summary)
unfolding made IsRead
made_read s valid rise =
    let told = valid.operation in
    let found = operation_read told.0 told.2 in
    let there : get key.OPERATION.now (pairs_json s.summary) ≡ Some (string told.0) =
    rw (objects.pairs_put s.summary rise, text_under (codes "operation") s.summary, told.1) refl in
    (_, (found.0, (string told.0, there, found.1), refl))

-- the members of a snapshot, whichever of the numbers that may be absent are there
record Gets (s : Snapshot) : Type 0 where
  id : get key.SNAPSHOT_ID.now (snapshot_json s) ≡ Some (number_json s.snapshot_id)
  parent : get key.PARENT_SNAPSHOT_ID.now (snapshot_json s) ≡ option_map number_json s.parent_snapshot_id
  sequence : get key.SEQUENCE_NUMBER.now (snapshot_json s) ≡ Some (number_json s.sequence_number)
  moment : get key.TIMESTAMP_MS.now (snapshot_json s) ≡ Some (number_json s.timestamp_ms)
  files : get key.MANIFEST_LIST.now (snapshot_json s) ≡ Some (string s.manifest_list)
  summary : get key.SUMMARY.now (snapshot_json s) ≡ Some (pairs_json s.summary)
  schema : get key.SCHEMA_ID.now (snapshot_json s) ≡ option_map number_json s.schema_id

snapshot_gets : (s : Snapshot) (parent schema : Option ℕ) → s.parent_snapshot_id ≡ parent → s.schema_id ≡ schema
    → Gets s
unfolding snapshot_json
snapshot_gets s None None first second = record {
  id = rw (first, second) refl;
  parent = rw (first, second) refl;
  sequence = rw (first, second) refl;
  moment = rw (first, second) refl;
  files = rw (first, second) refl;
  summary = rw (first, second) refl;
  schema = rw (first, second) refl;
}
snapshot_gets s (Some n) None first second = record {
  id = rw (first, second) refl;
  parent = rw (first, second) refl;
  sequence = rw (first, second) refl;
  moment = rw (first, second) refl;
  files = rw (first, second) refl;
  summary = rw (first, second) refl;
  schema = rw (first, second) refl;
}
snapshot_gets s None (Some m) first second = record {
  id = rw (first, second) refl;
  parent = rw (first, second) refl;
  sequence = rw (first, second) refl;
  moment = rw (first, second) refl;
  files = rw (first, second) refl;
  summary = rw (first, second) refl;
  schema = rw (first, second) refl;
}
snapshot_gets s (Some n) (Some m) first second = record {
  id = rw (first, second) refl;
  parent = rw (first, second) refl;
  sequence = rw (first, second) refl;
  moment = rw (first, second) refl;
  files = rw (first, second) refl;
  summary = rw (first, second) refl;
  schema = rw (first, second) refl;
}

an_object : (s : Snapshot) → (ms : Members) × (snapshot_json s ≡ object ms)
unfolding snapshot_json
an_object s = (_, refl)

-- a snapshot with the map of texts that its type keeps
pub record IsKeptSnapshot (s : Snapshot) : Type 0 where
  pub form : IsSnapshot s
  pub summary : KeysAscend s.summary

pub snapshot_read : (s : Snapshot) → IsKeptSnapshot s → snapshot.stands (snapshot_json s) s
unfolding snapshot IsRead
snapshot_read s valid =
    let form = valid.form in
    let gets = snapshot_gets s s.parent_snapshot_id s.schema_id refl refl in
    let found = made_read s form valid.summary in (
      tt,
      an_object s,
      (
        s.snapshot_id,
        (_, gets.id, objects.long s.snapshot_id form.id),
        (
          s.parent_snapshot_id,
          objects.may_hold long.stands IsLong objects.long _ s.parent_snapshot_id gets.parent form.parent,
          (
            s.sequence_number,
            (_, gets.sequence, objects.long s.sequence_number form.sequence),
            (
              s.timestamp_ms,
              (_, gets.moment, objects.long s.timestamp_ms form.time),
              (
                s.manifest_list,
                (_, gets.files, refl),
                (
                  s.summary,
                  (_, gets.summary, objects.pairs_read s.summary valid.summary),
                  (
                    found.0,
                    (_, gets.summary, found.1),
                    (
                      s.schema_id,
                      objects.may_hold id.stands IsId (objects.up_to 2147483647) _ s.schema_id
                          gets.schema form.schema,
                      refl,
                    ),
                  ),
                ),
              ),
            ),
          ),
        ),
      ),
    )

-- the members of a reference, whichever of the numbers that may be absent are there
RefGets : SnapshotRef → Type 0
RefGets r =
    (get key.TYPE.now (reference_json r) ≡ Some (string (ref_kind_text r.kind)))
    × (get key.SNAPSHOT_ID.now (reference_json r) ≡ Some (number_json r.snapshot_id))
    × (get key.MAX_REF_AGE_MS.now (reference_json r) ≡ option_map number_json r.max_ref_age_ms)
    × (get key.MAX_SNAPSHOT_AGE_MS.now (reference_json r) ≡ option_map number_json r.max_snapshot_age_ms)
    × (get key.MIN_SNAPSHOTS_TO_KEEP.now (reference_json r) ≡ option_map number_json r.min_snapshots_to_keep)

reference_gets : (r : SnapshotRef) (age snapshot_age count : Option ℕ) → r.max_ref_age_ms ≡ age
    → r.max_snapshot_age_ms ≡ snapshot_age → r.min_snapshots_to_keep ≡ count → RefGets r
unfolding RefGets reference_json
reference_gets r None None None a b c = rw (a, b, c) (refl, refl, refl, refl, refl)
reference_gets r None None (Some n) a b c = rw (a, b, c) (refl, refl, refl, refl, refl)
reference_gets r None (Some m) None a b c = rw (a, b, c) (refl, refl, refl, refl, refl)
reference_gets r None (Some m) (Some n) a b c = rw (a, b, c) (refl, refl, refl, refl, refl)
reference_gets r (Some l) None None a b c = rw (a, b, c) (refl, refl, refl, refl, refl)
reference_gets r (Some l) None (Some n) a b c = rw (a, b, c) (refl, refl, refl, refl, refl)
reference_gets r (Some l) (Some m) None a b c = rw (a, b, c) (refl, refl, refl, refl, refl)
reference_gets r (Some l) (Some m) (Some n) a b c = rw (a, b, c) (refl, refl, refl, refl, refl)

ref_kind_read : (found : RefKind) → ref_kind.stands (string (ref_kind_text found)) found
unfolding ref_kind one_of text
ref_kind_read Branch = ref_kind.exact.sound (string (ref_kind_text Branch)) Branch refl
ref_kind_read Tag = ref_kind.exact.sound (string (ref_kind_text Tag)) Tag refl

an_object_of_reference : (r : SnapshotRef) → (ms : Members) × (reference_json r ≡ object ms)
unfolding reference_json
an_object_of_reference r = (_, refl)

kept_read : (n : ℕ) → IsKept n → kept.stands (number_json n) n
kept_read n valid = objects.within 1 9223372036854775807 n valid.least (omega (arith, valid.most))

reference_read : (named : NamedRef) → IsNamedRef named
    → reference.stands (reference_json named.reference) named.reference
unfolding reference RefGets
reference_read named valid =
    let r = named.reference in
    let gets = reference_gets r r.max_ref_age_ms r.max_snapshot_age_ms r.min_snapshots_to_keep refl refl refl in (
      tt,
      an_object_of_reference r,
      (
        r.kind,
        (_, gets.0, ref_kind_read r.kind),
        (
          r.snapshot_id,
          (_, gets.1, objects.long r.snapshot_id valid.snapshot),
          (
            r.max_ref_age_ms,
            objects.may_hold kept.stands IsKept kept_read _ r.max_ref_age_ms gets.2 valid.age,
            (
              r.max_snapshot_age_ms,
              objects.may_hold kept.stands IsKept kept_read _ r.max_snapshot_age_ms gets.3 valid.snapshot_age,
              (
                r.min_snapshots_to_keep,
                objects.may_hold kept.stands IsKept kept_read _ r.min_snapshots_to_keep
                    gets.4 valid.snapshots,
                refl,
              ),
            ),
          ),
        ),
      ),
    )

same_refs : (named : List NamedRef)
    → map (λ (entry : List ℕ × SnapshotRef). record { name = entry.0; reference = entry.1 })
    (map (λ (one : NamedRef). (one.name, one.reference)) named) ≡ named
same_refs [] = refl
same_refs (one ∷ named) = ap (λ rest. one ∷ rest) (same_refs named)

pub refs_read : (named : List NamedRef) → All IsNamedRef named
    → IsStrictlySortedBy (λ left right. slice_cmp nat_cmp left.name right.name) named
    → refs.stands (refs_json named) named
unfolding refs refs_json
refs_read named valid rise = (
  map (λ (one : NamedRef). (one.name, one.reference)) named,
  (
    listing (λ (one : NamedRef). one.name) (λ one. reference_json one.reference) named,
    ap object (objects.put_all (λ (one : NamedRef). one.name) (λ one. reference_json one.reference) named rise),
    objects.entries_read (λ (one : NamedRef). one.name) (λ one. reference_json one.reference) (λ one. one.reference)
        reference.stands IsNamedRef reference_read named valid,
  ),
  sym (same_refs named),
)
