use Rattle.std.proofs.Common.{◌≡◌, false, [], Some, refl, ap, inl, inr}
use Rattle.pol_http.specs.declared.answer.TheConstants.{INSUFFICIENT_STORAGE}
use Rattle.pol_server.specs.Serving.{Finishes, Says, Standing, standing, told_text}
use Rattle.pol_server.specs.declared.served.Ending.{Ending}
use Rattle.pol_server.specs.declared.served.Ending.TheVariants.{NoMemory, WriteFault}
use Rattle.pol_server.proofs.GoesLemmas.{Stays}
use Rattle.pol_server.proofs.MovesLemmas.{asking-some, moves-wanting}
use Rattle.pol_server.proofs.connection.Connection.end_without_memory.Goals as goal

-- a link whose buffer is empty, and that says that memory is wanting
finishes : (a b : Standing) (ending : Ending) → Says a.ends b.ends INSUFFICIENT_STORAGE.now (Some NoMemory) (Some ending) → Stays a b
    → b.buffer ≡ [] → a.told ≡ false → Finishes ending a b
finishes a b ending says stays empty untold =
    moves-wanting a b (Some ending) says stays (inr ((λ asking. asking-some b.buffer asking empty), ap told_text untold))

pub returns-in-Ok-clause-finishes : goal.returns-in-Ok-clause-finishes
returns-in-Ok-clause-finishes g c = λ seen.
    let ends = g.L.Linked.ends in
    let gives = c.in-Ok.ensures in
    let says : Says (ends c.args.link.now) (ends c.give_all.new.link) INSUFFICIENT_STORAGE.now (Some NoMemory) (Some NoMemory) = record {
      given = gives.given;
      missing = gives.missing;
      same = gives.same;
      kept = gives.kept;
      bytes_are = gives.bytes_are;
      gives = gives.gives;
      outcome = inl (refl, gives.complete);
    } in
    finishes (standing (ends c.args.link.now) seen c.args.self.now) (standing (ends c.give_all.new.link) seen c.args.self.now) NoMemory
    says (record { seen = refl; places = refl; buffer = refl; budget = refl }) c.requires.empty c.requires.told

pub returns-in-Err-clause-finishes : goal.returns-in-Err-clause-finishes
returns-in-Err-clause-finishes g c = λ seen.
    let ends = g.L.Linked.ends in
    let gives = c.in-Err.ensures in
    let says : Says (ends c.args.link.now) (ends c.give_all.new.link) INSUFFICIENT_STORAGE.now (Some NoMemory) (Some WriteFault) = record {
      given = gives.given;
      missing = gives.missing;
      same = gives.same;
      kept = gives.kept;
      bytes_are = gives.bytes_are;
      gives = gives.gives;
      outcome = inr (refl, gives.caused);
    } in
    finishes (standing (ends c.args.link.now) seen c.args.self.now) (standing (ends c.give_all.new.link) seen c.args.self.now) WriteFault
    says (record { seen = refl; places = refl; buffer = refl; budget = refl }) c.requires.empty c.requires.told
