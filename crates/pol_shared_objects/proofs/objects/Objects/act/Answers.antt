use Rattle.pol_shared_objects.proofs.objects.Objects.act.Goals as goal

pub returns-clause-lost : goal.returns-clause-lost
returns-clause-lost g c opening lost held = rw (← c.self.view_is) (c.act.ensures.lost opening lost (rw (← c.self.view_is) at held))
