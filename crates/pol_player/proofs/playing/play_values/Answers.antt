use Rattle.pol_player.proofs.playing.play_values.Goals as goal

pub returns : goal.returns
returns c = record {
  agree = rw c.as_slice.ensures.value at c.in_ok-difference.ensures.agree;
  differ = rw c.as_slice.ensures.value at c.in_ok-difference.ensures.differs;
}
