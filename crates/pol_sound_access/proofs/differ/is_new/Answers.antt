use Rattle.std.proofs.Common.{not, ap, sym, ◌++◌, ◌∷◌, [], ◌∙◌}
use Rattle.pol_tables.specs.Facts.{holds}
use Rattle.pol_sound_access.proofs.DifferLemmas.{holds-keys, insert-new, untrue}
use Rattle.pol_sound_access.proofs.differ.is_new.Goals as goal

pub returns-clause-test : goal.returns-clause-test
returns-clause-test g c =
    c.in_ok-insert.ensures.added
    ∙ ap not (holds-keys g.K.Fact.coded _ g.met.K.Exact.compares_exactly g.met.K.Eq.laws c.in_ok-key.key c.args.seen.now.keys)
    ∙ ap (λ key. not (holds g.K.Fact.coded key c.args.seen.now.keys)) c.in_ok-key.ensures

pub returns-clause-seen : goal.returns-clause-seen
returns-clause-seen g c new =
    c.in_ok-insert.ensures.keys
    ∙ insert-new g.K.Fact.coded _ g.met.K.Exact.compares_exactly g.met.K.Eq.laws c.in_ok-key.key c.args.seen.now.keys (untrue _ (sym c.in_ok-insert.ensures.added ∙ new))
    ∙ ap (λ key. c.args.seen.now.keys ++ key ∷ []) c.in_ok-key.ensures
