pub mod Accessed
pub mod Held
pub mod Opened
pub mod Passes
pub mod Permits
pub mod Seen
pub mod Stepped
pub use Rattle.pol_kept.specs.History
pub use Rattle.pol_kept.specs.Machine
pub use Rattle.pol_kept.specs.Opening
pub use Rattle.pol_kept.specs.declared.entry.Entry
pub use Rattle.pol_kept.specs.declared.stepped.Stepped as KeptStepped
