pub mod History
pub mod Images
pub mod Opened
pub mod Stages
pub mod Stepped
pub use Rattle.pol_machine.specs.Machine
pub use Rattle.pol_opening.specs.Opening
