use Rattle.std.proofs.Common.{◌≡◌, ◌==◌, ◌≤◌, take, length}
use Rattle.std.specs.List.{slice_split}
use Rattle.form_urlencoded.specs.Form.{space}
use Rattle.pol_routes.specs.declared.token_form.TheConstants.{SCOPE_LIMIT}
use Rattle.pol_routes.proofs.token_form.scope_words.Given as goal

abbrev pub invariant-loop-word : goal.invariant-loop-word
invariant-loop-word l =
    (l.words.items ≡ take (length l.yielded) (slice_split (λ byte. byte == space) l.scope))
    × (length l.yielded ≤ SCOPE_LIMIT)
