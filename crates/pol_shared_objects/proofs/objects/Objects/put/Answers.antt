use Rattle.pol_shared_objects.proofs.objects.Objects.put.Goals as goal

pub returns-clause-lost : goal.returns-clause-lost
returns-clause-lost g c opening lost held = rw (← c.into_path-path.ensures, ← c.in-Ok.ensures) (c.act.ensures.lost opening lost held)
