use Rattle.std.proofs.lemmas.List.{get_or_default}
use Rattle.pol_metalaws.proofs.held.has_sixteen.Goals as goal

pub returns : goal.returns
returns c = record {
  count = c.told-bytes;
  bytes = λ k d inside. rw (get_or_default c.args.bytes.now k d 0 inside) (c.fits-bytes k);
}
