use Rattle.pol_requests.specs.Table.{entry_of}
use Rattle.pol_answers.proofs.JsonLemmas.{endpoint_added, endpoint_left_out}
use Rattle.pol_answers.proofs.json.add_endpoint.Goals as goal

pub returns-in_default : goal.returns-in_default
returns-in_default c = endpoint_left_out c.args.texts.now.items (entry_of c.args.row.now) c.in_default.ensures

pub returns : goal.returns
returns c =
    endpoint_added c.args.texts.now.items c.push.new.self.items (entry_of c.args.row.now) c.in-Some.rest.now c.in_ok-endpoint_text.field-0
    c.in-Some.ensures c.in_ok-endpoint_text.ensures c.in_ok-push.ensures.items
