use Rattle.pol_shared_objects.proofs.objects.Objects.open.Goals as goal

pub returns-in-Ok-clause-opened : goal.returns-in-Ok-clause-opened
returns-in-Ok-clause-opened g c file told =
    let reopens = c.in-Ok.ensures.opened file told in
    record {
      bodies = reopens.bodies;
      leads = reopens.leads;
      stands = reopens.stands;
      opened = reopens.ended;
      images = reopens.images;
    }
