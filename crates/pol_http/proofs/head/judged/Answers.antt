use Rattle.std.proofs.Common.{drop, arith, sym, ◌∙◌}
use Rattle.pol_http.proofs.HeadLemmas.{announces}
use Rattle.pol_http.proofs.head.judged.Goals as goal

pub returns-in-Ok : goal.returns-in-Ok
returns-in-Ok c =
    let spans = c.args.spans in
    let h = c.requires.head.0 in
    let at = c.requires.head.1 in
    let same = announces {h = h} c.requires.short (omega arith) c.requires.within at in
    let announced = sym same ∙ sym c.body_length.ensures ∙ c.in-Ok.is in (
      h,
      record {
        reads = at.reads;
        length_is = at.len;
        within = c.requires.within.section.len_fits;
        announces = announced;
        parts = c.described.ensures.parts h at announced;
        ranges = c.described.ensures.ranges;
      },
    )

pub returns-in-Err : goal.returns-in-Err
returns-in-Err c =
    let spans = c.args.spans in
    let h = c.requires.head.0 in
    let at = c.requires.head.1 in
    let same = announces {h = h} c.requires.short (omega arith) c.requires.within at in
    (h, drop spans.len c.args.front.now, at.reads, sym same ∙ sym c.body_length.ensures ∙ c.in-Err.is)
