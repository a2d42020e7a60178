use Rattle.std.proofs.Common.{◌∙◌}
use Rattle.pol_http.proofs.HeadLemmas.{closes-at, asks-at}
use Rattle.pol_http.proofs.head.described.Goals as goal

pub returns-clause-parts : goal.returns-clause-parts
returns-clause-parts c = λ h at announced.
    let spans = c.args.spans in
    record {
      method = at.method;
      target = at.path;
      minor = at.version;
      fields = at.fields;
      closes = c.closes-closes.ensures ∙ closes-at _ spans.version h at.fields at.version;
      asks = c.asks-asks.ensures ∙ asks-at _ spans.version c.args.body h at.fields at.version announced;
    }
