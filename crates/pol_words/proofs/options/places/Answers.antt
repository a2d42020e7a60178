use Rattle.std.proofs.Common.{[], ◌∷◌}
use Rattle.pol_words.specs.declared.names.TheConstants.{CATALOGUE, OBJECTS}
use Rattle.pol_words.proofs.LineLemmas.{catalogue-not-objects}
use Rattle.pol_words.proofs.OrderLemmas.{lacking, too-many, values-given}
use Rattle.pol_words.proofs.options.places.Goals as goal

pub returns-then-not-are_options : goal.returns-then-not-are_options
returns-then-not-are_options c =
    too-many c.args.words.now (CATALOGUE.now ∷ OBJECTS.now ∷ []) c.if-not-are_options.ensures

pub returns-in_default : goal.returns-in_default
returns-in_default c = lacking c.args.words.now CATALOGUE.now [] (OBJECTS.now ∷ []) c.in_default.ensures

pub returns-in_default-value_of : goal.returns-in_default-value_of
returns-in_default-value_of c =
    lacking c.args.words.now OBJECTS.now (CATALOGUE.now ∷ []) [] c.in_default-value_of.ensures

pub returns : goal.returns
returns c =
    values-given c.args.words.now (CATALOGUE.now ∷ OBJECTS.now ∷ []) (c.in-Some.catalogue.now ∷ c.in-Some-value_of.objects.now ∷ []) ((catalogue-not-objects, tt), (tt, tt)) c.if-not-are_options.ensures (c.in-Some.ensures, (c.in-Some-value_of.ensures, tt))
