-- An id among others, whichever of two equal ones is told first.
use Rattle.std.proofs.Common.{◌≡◌, ◌<◌, ◌+◌, ℕ, Bool, nat_eq, List, [], ◌∷◌, ◌++◌, length, map, take, get_or, refl, sym, ap, ◌∙◌}
use Rattle.std.specs.List.{list_all, list_any}
use Rattle.std.proofs.lemmas.Cmp.{nat_eq_equiv}
use Rattle.std.proofs.lemmas.List.{take_more}
use Rattle.pol_meta.specs.Columns.{has_field}
use Rattle.pol_meta.specs.Valid.{schema_ids, snapshot_ids}
use Rattle.pol_meta.specs.declared.column.Column.{Column}
use Rattle.pol_meta.specs.declared.metadata.TableMetadata.{TableMetadata}
use Rattle.pol_meta.specs.declared.reference.NamedRef.{NamedRef}
use Rattle.pol_meta.specs.declared.schema.Schema.{Schema}
use Rattle.pol_metacodec.specs.Whole.{is_among, names_snapshot}

pub among_others : (ids : List ℕ) (id : ℕ) → list_any (λ other. nat_eq other id) ids ≡ is_among ids id
among_others [] id = refl
among_others (other ∷ ids) id = rw (nat_eq_equiv.symm other id, among_others ids id) refl

same_all : {A : Type 0} (p q : A → Bool) (xs : List A) → ((x : A) → p x ≡ q x) → list_all p xs ≡ list_all q xs
same_all p q [] same = refl
same_all p q (x ∷ xs) same = rw (same x, same_all p q xs same) refl

-- a reference names a snapshot where its id is among those of the set
pub named_snapshots : (keys : List ℕ) (meta : TableMetadata) (refs : List NamedRef) → ((id : ℕ) → list_any (nat_eq id) keys ≡ is_among (snapshot_ids meta.snapshots) id)
    → list_all (λ named. list_any (nat_eq named.reference.snapshot_id) keys) refs ≡ list_all (names_snapshot meta) refs
named_snapshots keys meta refs same =
    same_all (λ named. list_any (nat_eq named.reference.snapshot_id) keys) (names_snapshot meta) refs (λ named. same named.reference.snapshot_id)

pub fields_among : (keys : List ℕ) (columns : List Column) (ids : List ℕ) → ((id : ℕ) → list_any (nat_eq id) keys ≡ has_field columns id)
    → list_all (λ id. list_any (nat_eq id) keys) ids ≡ list_all (has_field columns) ids
fields_among keys columns ids same = same_all (λ id. list_any (nat_eq id) keys) (has_field columns) ids same

-- the ids of the schemas so far, and that of the next
map_both : {A : Type 0} (f : A → ℕ) (xs ys : List A) → map f (xs ++ ys) ≡ map f xs ++ map f ys
map_both f [] ys = refl
map_both f (x ∷ xs) ys = rw (map_both f xs ys) refl

pub ids_more : (schemas : List Schema) (i : ℕ) (schema : Schema) → i < length schemas → schema ≡ get_or schemas i schema
    → schema_ids (take (i + 1) schemas) ≡ schema_ids (take i schemas) ++ schema.schema_id ∷ []
ids_more schemas i schema within is =
    ap schema_ids (take_more schemas i schema within)
    ∙ map_both (λ (one : Schema). one.schema_id) (take i schemas) (get_or schemas i schema ∷ [])
    ∙ ap (λ (one : Schema). schema_ids (take i schemas) ++ one.schema_id ∷ []) (sym is)
