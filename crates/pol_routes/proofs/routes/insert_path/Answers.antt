use Rattle.std.proofs.Common.{Ok}
use Rattle.pol_routes.proofs.RouteLemmas.{inserted, left_out}
use Rattle.pol_routes.proofs.routes.insert_path.Goals as goal

pub returns-in-Ok : goal.returns-in-Ok
returns-in-Ok c = inserted _ c.args.place c.args.router.now c.insert.new.self (Ok c.in-Ok.field-0) c.in-Ok.ensures (λ is. cc)

pub returns-in-Err : goal.returns-in-Err
returns-in-Err c = left_out _ c.args.place c.args.router.now c.insert.new.self c.in-Err.error c.after_refusal.result c.in-Err.ensures c.after_refusal.ensures
