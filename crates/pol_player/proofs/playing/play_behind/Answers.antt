use Rattle.std.proofs.Common.{rules}
use Rattle.pol_player.proofs.playing.play_behind.Goals as goal

pub returns : goal.returns
returns g c = record {
  files = c.in_ok-files.files;
  begin = search rules;
  played = search rules;
}
