-- The text of a metadata's JSON is made of its pieces.
use Rattle.std.proofs.Common.{◌≡◌, ℕ, List, [], ◌∷◌, ◌++◌, map, true, Option, None, Some, decimal, refl, sym, ap, ◌∙◌, append_assoc}
use Rattle.std.specs.List.{flat_map}
use Rattle.json.specs.Print.{print}
use Rattle.json.specs.Token.{Token, begin_array, begin_object, end_array, end_object, key, number, string}
use Rattle.json.specs.Tree.{items_tokens}
use Rattle.serde_json.specs.Data.{member, no_members, object}
use Rattle.serde_json.specs.View.{items_of}
use Rattle.serde_json.specs.Written.{compact_text, items_outline, members_text}
use Rattle.serde_json.proofs.Texts.{print-outline}
use Rattle.pol_json_texts.specs.Objects.{are_some, joined, named_text, opened_text}
use Rattle.pol_json_texts.proofs.ObjectLemmas.{joined_text}
use Rattle.pol_meta.specs.declared.log.MetadataLogEntry.{MetadataLogEntry}
use Rattle.pol_meta.specs.declared.metadata.TableMetadata.{TableMetadata}
use Rattle.pol_metakeys.specs.declared.keys.TheConstants.{METADATA_FILE, METADATA_LOG, TIMESTAMP_MS}
use Rattle.pol_metaprint.specs.Json.{list_json, metadata_log_entry_json}
use Rattle.pol_metaprint.specs.Log.{entry_tokens}
use Rattle.pol_metaprint.specs.Metadata.{put_back, put_current, put_front, put_numbers, put_shapes, put_snapshots, put_table, table_json}

-- what is written of an entry, token by token
pub entry_written : (tokens : List Token) (entry : MetadataLogEntry) → (((((tokens ++ begin_object ∷ []) ++ key METADATA_FILE.now ∷ []) ++ string entry.metadata_file ∷ []) ++ key TIMESTAMP_MS.now ∷ []) ++ number (decimal entry.timestamp_ms) ∷ []) ++ end_object ∷ [] ≡ tokens ++ entry_tokens entry
unfolding metadata_log_entry_json
entry_written tokens entry = simp append_assoc

-- the tokens of a list are those of its items, one after the other, and its end
listed : (log : List MetadataLogEntry) → items_tokens (items_outline (items_of (map metadata_log_entry_json log))) ≡ flat_map entry_tokens log ++ end_array ∷ []
listed [] = refl
listed (entry ∷ log) = ap (λ tokens. entry_tokens entry ++ tokens) (listed log) ∙ sym (append_assoc (entry_tokens entry) _ _)

pub log_text : (log : List MetadataLogEntry) → print (begin_array ∷ (flat_map entry_tokens log ++ end_array ∷ [])) ≡ compact_text (list_json metadata_log_entry_json log)
log_text log = ap (λ tokens. print (begin_array ∷ tokens)) (sym (listed log)) ∙ print-outline (list_json metadata_log_entry_json log)

-- pieces are put one behind the other
three : (a b c d e : List ℕ) → (((a ++ b) ++ c) ++ d) ++ e ≡ a ++ (b ++ (c ++ (d ++ e)))
three a b c d e = append_assoc ((a ++ b) ++ c) d e ∙ append_assoc (a ++ b) c (d ++ e) ∙ append_assoc a b (c ++ (d ++ e))

-- a metadata is what stands in front of its log, the log, and what stands behind it
parts_at : (meta : TableMetadata) (current : Option ℕ) → current ≡ meta.current_snapshot_id → (table_json meta ≡ object (joined (put_front meta no_members) (member METADATA_LOG.now (list_json metadata_log_entry_json meta.metadata_log) (put_back meta no_members)))) × (are_some (put_front meta no_members) ≡ true)
unfolding table_json put_current put_numbers put_shapes put_snapshots put_table
parts_at meta None is = rw (sym is) (refl, refl)
parts_at meta (Some id) is = rw (sym is) (refl, refl)

pub table_text : (text : List ℕ) (meta : TableMetadata) → (((text ++ opened_text (put_front meta no_members)) ++ named_text true METADATA_LOG.now) ++ compact_text (list_json metadata_log_entry_json meta.metadata_log)) ++ members_text true (put_back meta no_members) ≡ text ++ compact_text (table_json meta)
table_text text meta =
    let parts = parts_at meta meta.current_snapshot_id refl in
    let log = list_json metadata_log_entry_json meta.metadata_log in
    let front = opened_text (put_front meta no_members) in
    let back = members_text true (put_back meta no_members) in
    let whole = ap compact_text parts.0 ∙ joined_text (put_front meta no_members) METADATA_LOG.now log (put_back meta no_members)
    ∙ ap (λ later. front ++ (named_text later METADATA_LOG.now ++ (compact_text log ++ back))) parts.1 in
    three text front (named_text true METADATA_LOG.now) (compact_text log) back ∙ ap (λ more. text ++ more) (sym whole)
