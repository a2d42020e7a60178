use Rattle.std.proofs.Common.{◌∙◌, ap, codes}
use Rattle.std.specs.Str.{bytes_eq}
use Rattle.pol_server.specs.Stores.{seen_of}
use Rattle.pol_server.proofs.HandleLemmas.{handles-unplanned}
use Rattle.pol_server.proofs.message.handle.Goals as goal

pub returns-in-Err-clause-handles : goal.returns-in-Err-clause-handles
returns-in-Err-clause-handles g c = λ message at.
    handles-unplanned (g.L.Linked.ends c.args.link.now) (seen_of c.args.stores.now) message c.in-Err.why c.framing_of-framing.result.close c.framing_of-framing.result.head_only c.unplanned.result.place _
    (c.in-Err.ensures.plan message at)
    (c.framing_of-framing.ensures.close ∙ at.head_is.closes)
    (c.framing_of-framing.ensures.head_only ∙ ap (λ method. bytes_eq method (codes "HEAD")) at.head_is.method)
    c.unplanned.ensures
