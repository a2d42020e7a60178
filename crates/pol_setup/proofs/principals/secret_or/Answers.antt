use Rattle.std.proofs.Common.{refl}
use Rattle.pol_setup.proofs.principals.secret_or.Goals as goal

pub drawn_at-requires : goal.drawn_at-requires
drawn_at-requires c = c.requires (rw c.in-None.is refl)
