-- The files that a line names.
use Rattle.std.specs.Prelude.{[]}
use Rattle.pol_words.specs.declared.plan.Plan.{Plan}
use Rattle.pol_words.specs.declared.plan.Plan.TheVariants.{Exec, ExecFresh, Init}
use Rattle.pol_cli.specs.declared.places.Places.{Places}

abbrev pub no_places : Places
no_places = record { catalogue = []; objects = [] }

-- the files that a plan names
abbrev pub places_of : Plan → Places
places_of (ExecFresh secret) = no_places
places_of (Exec catalogue objects) = record { catalogue = catalogue; objects = objects }
places_of (Init catalogue objects) = record { catalogue = catalogue; objects = objects }
