use Rattle.std.proofs.Common.{List, ℕ, ap, ◌∙◌}
use Rattle.std.proofs.lemmas.Result.{IfOk-weaker}
use Rattle.pol_journal.specs.Format.{area_of}
use Rattle.pol_kept.proofs.OpenedLemmas.{fresh-body}
use Rattle.pol_kept.proofs.opening.first_record.Goals as goal

pub returns-clause-record : goal.returns-clause-record
returns-clause-record c secret fresh =
    IfOk-weaker c.opening_record.result _ _
    (λ area is. is ∙ ap (λ (bodies : List (List ℕ)). area_of bodies) (fresh-body secret c.args.state.now.rows c.as_slice.result.now c.as_slice-2.result.now fresh
    (c.as_slice.ensures.value ∙ c.in_ok-changes.ensures) (c.as_slice-2.ensures.value ∙ c.in-Ok.ensures.bytes)))
    c.opening_record.ensures
