use Rattle.std.proofs.Common.{subst}
use Rattle.pol_http.specs.Message.{IsRefusedAs}
use Rattle.pol_server.specs.Stores.{seen_of}
use Rattle.pol_server.proofs.MovesLemmas.{reads-on}
use Rattle.pol_server.proofs.connection.Connection.advance.Goals as goal

pub returns-then-is_lacking-clause-moves : goal.returns-then-is_lacking-clause-moves
returns-then-is_lacking-clause-moves g c =
    reads-on (g.L.Linked.ends c.args.link.now) (g.L.Linked.ends c.read.new.link) c.args.self.now c.read.new.self (seen_of c.args.stores.now) c.read.ensures

pub refuse-requires-clause-refused : goal.refuse-requires-clause-refused
refuse-requires-clause-refused g c =
    subst (λ bytes. IsRefusedAs bytes c.in-Refused.why) c.as_slice.ensures ((c.next_message.ensures.refused c.in-Refused.why).0 c.in-Refused.is)
