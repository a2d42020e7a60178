use Rattle.std.proofs.Common.{◌≡◌}
use Rattle.std.specs.Prelude.{IfOk}
use Rattle.pol_words.specs.Words.{MeansNothing}
use Rattle.pol_cli.specs.Places.{no_places}
use Rattle.pol_cli.proofs.GivenLemmas.{read-line}
use Rattle.pol_cli.proofs.places.places_given.Goals as goal

pub returns-in-Ok-clause-unnamed : goal.returns-in-Ok-clause-unnamed
returns-in-Ok-clause-unnamed c =
    read-line c.args.given c.in-Ok.words (λ words. MeansNothing words → IfOk c.places_of-places.result (λ places. places ≡ no_places)) c.in-Ok.ensures.words c.places_of-places.ensures.unnamed
