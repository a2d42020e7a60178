use Rattle.std.proofs.Common.{◌≤◌, ℕ, length, sym, subst}
use Rattle.pol_columncodec.proofs.InnerLemmas.{inner_within}
use Rattle.pol_columncodec.proofs.inner.parted.Goals as goal

pub split_at-requires : goal.split_at-requires
split_at-requires c =
    subst (λ (n : ℕ). n ≤ length c.args.columns.now) (sym c.deeper_ones.ensures) (inner_within c.args.depth c.args.columns.now)
