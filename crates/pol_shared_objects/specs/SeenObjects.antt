-- What a pass has seen of the objects, as `pol_shared: Seen` says it of the catalogue.
use Rattle.std.specs.Prelude.{ℕ, List}
use Rattle.pol_objects.specs.declared.object_state.ObjectState.{ObjectState}
use Rattle.pol_object_store.specs.declared.entry.ObjectEntry.{ObjectEntry}
use Rattle.pol_shared.specs.Passes.{AreMade, GoesOnBy, HasSeenOf, SeenOf, StaysOf}

-- the number of the pass that an action came by
abbrev pub object_entry_number : ObjectEntry → ℕ
object_entry_number entry = entry.number

abbrev pub SeenObjects : Type 0
SeenObjects = SeenOf ObjectState ObjectEntry

abbrev pub HasSeenObjects : SeenObjects → SeenObjects → List ℕ → Type 0
HasSeenObjects old new places = HasSeenOf object_entry_number old new places

abbrev pub ObjectsStay : SeenObjects → SeenObjects → Type 0
ObjectsStay old new = StaysOf object_entry_number old new

abbrev pub AreOfObjectPasses : ℕ → List ObjectEntry → Type 0
AreOfObjectPasses made history = AreMade object_entry_number made history

abbrev pub ObjectsGoOnAlone : ℕ → List ObjectEntry → List ObjectEntry → Type 0
ObjectsGoOnAlone number front history = GoesOnBy object_entry_number number front history
