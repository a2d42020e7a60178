pub mod JsonLemmas
pub mod ManagementJsonLemmas
mod TableJsonLemmas
pub mod TokenLemmas
