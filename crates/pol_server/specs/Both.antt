-- What is seen of the catalogue and of the objects, and where requests stand in both.
use Rattle.std.specs.Prelude.{ℕ, List, [], ◌∷◌}
use Rattle.std.specs.List.{flat_map}
use Rattle.pol_shared_objects.specs.Seen.{GoesOnAlone, HasSeen, Seen}
use Rattle.pol_shared_objects.specs.SeenObjects.{HasSeenObjects, ObjectsGoOnAlone, SeenObjects}
use Rattle.pol_server.specs.declared.served.Place.{Place}
use Rattle.pol_server.specs.declared.served.Place.TheVariants.{Catalogue, Object, NoEntry}

-- what a pass of each store has seen
pub record SeenBoth : Type 0 where
  pub catalogue : Seen
  pub objects : SeenObjects

-- the places of the catalogue's history among these
abbrev pub catalogue_place : Place → List ℕ
catalogue_place (Catalogue place) = place ∷ []
catalogue_place (Object access entry) = access ∷ []
catalogue_place NoEntry = []

abbrev pub catalogue_places : List Place → List ℕ
catalogue_places places = flat_map catalogue_place places

-- and those of the objects' history
abbrev pub object_place : Place → List ℕ
object_place (Catalogue place) = []
object_place (Object access entry) = entry ∷ []
object_place NoEntry = []

abbrev pub object_places : List Place → List ℕ
object_places places = flat_map object_place places

-- more was seen of both: what was seen goes on, and the passes' own entries behind that stand at the places of these
-- requests
pub record HasSeenBoth (old new : SeenBoth) (places : List Place) : Type 0 where
  pub catalogue : HasSeen old.catalogue new.catalogue (catalogue_places places)
  pub objects : HasSeenObjects old.objects new.objects (object_places places)

-- nobody else entered anything in either
pub record BothGoOnAlone (old new : SeenBoth) : Type 0 where
  pub catalogue : GoesOnAlone old.catalogue.number old.catalogue.front new.catalogue.front
  pub objects : ObjectsGoOnAlone old.objects.number old.objects.front new.objects.front
