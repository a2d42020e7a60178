use Rattle.std.proofs.Common.{ap}
use Rattle.pol_player.specs.Playing.{memory_ends}
use Rattle.pol_player.proofs.playing.run_devices.Goals as goal

pub returns : goal.returns
returns g c = record {
  usage = λ nothing.
      let told = c.run.ensures.usage nothing in (
        told.0,
        ap (λ devices. memory_ends g.W.Draw.words g.W.Draw.faults devices.link) told.1,
        ap (λ devices. record { catalogue = devices.catalogue; objects = devices.objects }) told.1,
      );
  exec_fresh = c.run.ensures.exec_fresh;
  apart = λ secret means.
      let told = c.run.ensures.apart secret means in
      λ i. record { catalogue = told.0 i; objects = told.1 i };
  exec = c.run.ensures.exec;
  init = c.run.ensures.init;
  untouched = λ plan means is none.
      ap (λ link. memory_ends g.W.Draw.words g.W.Draw.faults link) (c.run.ensures.untouched plan means is none);
  cause = c.run.ensures.cause;
  complete = c.run.ensures.complete;
  status = c.run.ensures.status;
  faulty = c.run.ensures.faulty;
}
