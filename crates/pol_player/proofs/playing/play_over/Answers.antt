use Rattle.std.proofs.Common.{rules}
use Rattle.pol_player.specs.Playing.{memory_ends}
use Rattle.pol_player.proofs.playing.play_over.Goals as goal

pub returns-in-Ok : goal.returns-in-Ok
returns-in-Ok g c = record {
  after = memory_ends g.W.Draw.words g.W.Draw.faults c.run_devices-report.result.1.link;
  report = c.run_devices-report.result.0;
  output = c.run_devices-report.result.1.link.sink.bytes;
  disks = record { catalogue = c.in_ok-devices.devices.catalogue; objects = c.in_ok-devices.devices.objects };
  disks_left = record {
    catalogue = c.run_devices-report.result.1.catalogue;
    objects = c.run_devices-report.result.1.objects;
  };
  begins = search rules;
  ran = search rules;
  given = search rules;
  left_is = search rules;
  compared = search rules;
}
