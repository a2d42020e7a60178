-- What is seen of both stores, and then more.
use Rattle.std.proofs.Common.{◌≡◌, ◌≤◌, ℕ, List, [], ◌++◌, sym, ap, subst, ◌∙◌, arith, length, length-append}
use Rattle.std.proofs.lemmas.Grind.{flat_map-append}
use Rattle.pol_object_store.specs.declared.entry.ObjectEntry.{ObjectEntry}
use Rattle.pol_shared_objects.specs.Passes.{HasSeenOf, SeenOf}
use Rattle.pol_shared_objects.specs.Seen.{HasSeen, entry_number}
use Rattle.pol_shared_objects.specs.Entry.{Entry}
use Rattle.pol_shared_objects.proofs.SeenLemmas.{seen-same, seen-trans}
use Rattle.pol_shared_objects.specs.SeenObjects.{HasSeenObjects, object_entry_number}
use Rattle.pol_server.specs.Both.{HasSeenBoth, catalogue_place, catalogue_places, object_place, object_places, SeenBoth}
use Rattle.pol_server.specs.declared.served.Place.{Place}

-- nothing more was seen
pub both-same : (seen : SeenBoth) → HasSeenBoth seen seen []
both-same seen = record {
  catalogue = seen-same entry_number seen.catalogue;
  objects = seen-same object_entry_number seen.objects;
}

-- more was seen, and then more again
pub both-trans : (a b c : SeenBoth) (places more : List Place) → HasSeenBoth a b places → HasSeenBoth b c more → HasSeenBoth a c (places ++ more)
both-trans a b c places more first second = record {
  catalogue = subst (HasSeen a.catalogue c.catalogue) (sym (flat_map-append catalogue_place places more))
      (seen-trans entry_number a.catalogue b.catalogue c.catalogue (catalogue_places places) (catalogue_places more) first.catalogue second.catalogue);
  objects = subst (HasSeenObjects a.objects c.objects) (sym (flat_map-append object_place places more))
      (seen-trans object_entry_number a.objects b.objects c.objects (object_places places) (object_places more) first.objects second.objects);
}

-- what a pass has seen, with more behind it and this count of failed calls
abbrev pub grown-by : {Base Entry : Type 0} → SeenOf Base Entry → List Entry → ℕ → SeenOf Base Entry
grown-by seen more failed = record seen { front = seen.front ++ more; failed = failed }

-- both stores, with more behind what was seen of them and these counts
abbrev pub both-grown : SeenBoth → List Entry → List ObjectEntry → ℕ → ℕ → SeenBoth
both-grown seen more later failed lost = record { catalogue = grown-by seen.catalogue more failed; objects = grown-by seen.objects later lost }

grows : {Base Entry : Type 0} (number_of : Entry → ℕ) (old new : SeenOf Base Entry) (places : List ℕ) (seen : HasSeenOf number_of old new places) → new ≡ grown-by old seen.front.0 new.failed
grows number_of old new places seen = seen.same ∙ ap (λ front. record old { front = front; failed = new.failed }) seen.front.1

-- what was seen goes on
pub both-grow : (old new : SeenBoth) (places : List Place) (seen : HasSeenBoth old new places)
    → new ≡ both-grown old seen.catalogue.front.0 seen.objects.front.0 new.catalogue.failed new.objects.failed
both-grow old new places seen =
    let catalogue = grows entry_number old.catalogue new.catalogue (catalogue_places places) seen.catalogue in
    let objects = grows object_entry_number old.objects new.objects (object_places places) seen.objects in
    λ i. record { catalogue = catalogue i; objects = objects i }

-- what a pass has seen grows no shorter
pub seen-longer : {Base Entry : Type 0} (number_of : Entry → ℕ) (old new : SeenOf Base Entry) (places : List ℕ) → HasSeenOf number_of old new places → length old.front ≤ length new.front
seen-longer number_of old new places seen = omega (arith, ap length seen.front.1, length-append old.front seen.front.0)
