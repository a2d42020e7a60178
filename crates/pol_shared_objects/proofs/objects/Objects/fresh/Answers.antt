use Rattle.std.proofs.Common.{◌≡◌, [], length, refl, ◌∙◌}
use Rattle.pol_journal.specs.Format.{extent}
use Rattle.pol_shared_objects.proofs.objects.Objects.fresh.Goals as goal

-- a journal without records
extent-none : 65 ≡ extent []
unfolding extent
extent-none = refl

pub returns-in-Ok-clause-made : goal.returns-in-Ok-clause-made
returns-in-Ok-clause-made g c =
    let told = c.in-Ok.ensures in
    λ i. record {
      base = told.base i;
      opened = (told.opened ∙ extent-none) i;
      number = 0;
      made = 1;
      front = told.new.history i;
      failed = length (told.new.marks i);
    }
