pub mod ColumnLemmas
pub mod MetadataLemmas
pub mod ObjectLemmas
pub mod PartLemmas
pub mod SchemaLemmas
pub mod SnapshotLemmas
pub mod TextLemmas
pub mod TreeLemmas
