use Rattle.std.proofs.Common.{Err, ap}
use Rattle.pol_http.proofs.FrontLemmas.{refused_crowded, refused_error}
use Rattle.pol_http.proofs.head.crowded.Goals as goal

pub returns-in-Ok-Complete : goal.returns-in-Ok-Complete
returns-in-Ok-Complete c =
    let whole = rw c.in-Ok-Complete.field-0-is at c.in-Ok-Complete.ensures.complete in
    refused_crowded c.args.bytes.now _ _ c.in-Ok-Complete.field-0-0 c.front_of.ensures c.requires whole

pub returns-in-Err : goal.returns-in-Err
returns-in-Err c =
    let said = c.in-Err.ensures in
    refused_error c.args.bytes.now c.in-Err.field-0 (λ other. rw (← c.front_of.ensures) (said.invalid other))
    (λ is. rw (← c.front_of.ensures) (said.too_many (ap Err is)))
