pub use Rattle.pol_shared.proofs.SeenLemmas
