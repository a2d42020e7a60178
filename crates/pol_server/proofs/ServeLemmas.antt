-- A link from its start to its end.
use Rattle.std.proofs.Common.{◌≡◌, ◌<◌, ◌≤◌, ◌+◌, ℕ, true, false, List, [], ◌++◌, map, length, Some, None, Option, refl, sym, ap, subst, ◌∙◌, inl, inr, arith, append-nil}
use Rattle.std.specs.Io.KnownBytes.{IsAtEnd}
use Rattle.std.proofs.KnownBytes.{Appends-nil}
use Rattle.pol_wire.specs.Faults.{Rises}
use Rattle.pol_server.specs.Ends.{Ends}
use Rattle.pol_server.specs.Both.{SeenBoth, HasSeenBoth}
use Rattle.pol_server.specs.Link.{EndsBy, ServesLink, taken_bound}
use Rattle.pol_server.specs.Turn.{Turn, place_of}
use Rattle.pol_server.specs.declared.served.Served.{Served}
use Rattle.pol_server.specs.declared.served.Ending.TheVariants.{Ended, Cut, Closed, ReadFault, WriteFault, Spent, NoMemory}
use Rattle.pol_server.specs.Serving.{FitsEnding, told_text, Continues, Finishes, IsEndingOf, IsStopped, IsToldAsked, KeepsStop, Standing, standing}
use Rattle.pol_server.specs.declared.connection.Connection.{Connection}
use Rattle.pol_server.specs.declared.connection.Stop.{Stop}
use Rattle.pol_server.specs.declared.connection.Stop.TheVariants as stop
use Rattle.pol_server.specs.declared.served.Ending.{Ending}
use Rattle.pol_server.proofs.EndsLemmas.{rises-earlier}
use Rattle.pol_server.proofs.GoesLemmas.{continues-trans, goes-given}

-- what holds between two calls of the source or two messages, since the start
pub record IsServed (before now : Ends) (first seen : SeenBoth) (start connection : Connection) : Type 0 where
  pub goes : Continues (standing before first start) (standing now seen connection)
  pub told : IsToldAsked connection.told connection.buffer.items
  pub stopped : IsStopped connection.stop before now connection.budget

-- a stop since a later moment is one since an earlier moment
stopped-earlier : (why : Option Stop) (before now new : Ends) (budget : ℕ) → before.source_faults ≤ now.source_faults → IsStopped why now new budget → IsStopped why before new budget
stopped-earlier None before now new budget within is = tt
stopped-earlier (Some stop.AtEnd) before now new budget within is = is
stopped-earlier (Some stop.Failed) before now new budget within is =
    (rises-earlier before.source_faults now.source_faults new.source_faults within is.0, is.1)
stopped-earlier (Some stop.Spent) before now new budget within is = is
stopped-earlier (Some stop.NoMemory) before now new budget within is = tt

-- a stop stays while the source is not called
stopped-unread : (why : Option Stop) (before now new : Ends) (budget : ℕ) → new.left ≡ now.left → new.source_faults ≡ now.source_faults → IsStopped why before now budget → IsStopped why before new budget
stopped-unread None before now new budget left faults is = tt
stopped-unread (Some stop.AtEnd) before now new budget left faults is = (subst IsAtEnd (sym left) is.0, is.1)
stopped-unread (Some stop.Failed) before now new budget left faults is =
    (subst (Rises before.source_faults) (sym faults) is.0, is.1)
stopped-unread (Some stop.Spent) before now new budget left faults is = is
stopped-unread (Some stop.NoMemory) before now new budget left faults is = tt

-- a stop is kept
pub stopped-on : (before now new : Ends) (old connection : Connection) → before.source_faults ≤ now.source_faults → IsStopped old.stop before now old.budget → KeepsStop now new old connection
    → IsStopped connection.stop before new connection.budget
stopped-on before now new old connection within is (inl unread) =
    subst (λ why. IsStopped why before new connection.budget) (sym unread.stop)
    (subst (λ budget. IsStopped old.stop before new budget) (sym unread.budget) (stopped-unread old.stop before now new old.budget unread.left unread.source_faults is))
stopped-on before now new old connection within is (inr stopped) = stopped-earlier connection.stop before now new connection.budget within stopped.1

-- before anything is done
pub continues-start : (a : Standing) → Continues a a
continues-start a = record {
  turns = [];
  taken = [];
  out = [];
  goes = goes-given a a [] (record { seen = refl; places = refl; buffer = refl; budget = refl }) refl (Appends-nil a.ends.given) (omega arith);
  said = append-nil (told_text a.told);
  open_ = tt;
}

pub served-start : (before : Ends) (first : SeenBoth) (start : Connection) → start.stop ≡ None → start.told ≡ false → IsServed before before first first start start
served-start before first start none untold = record {
  goes = continues-start (standing before first start);
  told = λ told. let contrary : false ≡ true = sym untold ∙ told in cc;
  stopped = subst (λ why. IsStopped why before before start.budget) (sym none) tt;
}

-- one call of the source or one message more
pub served-on : (before now new : Ends) (first seen after : SeenBoth) (start connection next : Connection) → IsServed before now first seen start connection
    → Continues (standing now seen connection) (standing new after next) → IsToldAsked next.told next.buffer.items → KeepsStop now new connection next
    → IsServed before new first after start next
served-on before now new first seen after start connection next served goes told stops = record {
  goes = continues-trans (standing before first start) (standing now seen connection) (standing new after next) served.goes goes;
  told = told;
  stopped = stopped-on before now new connection next served.goes.goes.source_faults served.stopped stops;
}

-- how the link ended, by what has caused it
ends-by : (ending : Ending) (why : Option Stop) (before after : Ends) (turns : List Turn) (budget taken : ℕ) (rest text : List ℕ)
    → FitsEnding ending turns rest text → IsEndingOf why ending → IsStopped why before after budget → budget + taken ≡ taken_bound → (ending ≡ WriteFault → Rises before.sink_faults after.sink_faults)
    → EndsBy ending before after turns taken rest text
ends-by Ended why before after turns budget taken rest text fits is stopped spent caused =
    let at_end : IsAtEnd after.left × (0 < budget) = subst (λ why. IsStopped why before after budget) is stopped in
    (fits.0, at_end.0, fits.1, fits.2, omega (arith, at_end.1, spent))
ends-by Cut why before after turns budget taken rest text fits is stopped spent caused =
    let at_end : IsAtEnd after.left × (0 < budget) = subst (λ why. IsStopped why before after budget) is stopped in
    (fits.0, at_end.0, fits.1, fits.2, omega (arith, at_end.1, spent))
ends-by Closed why before after turns budget taken rest text fits is stopped spent caused = fits
ends-by ReadFault why before after turns budget taken rest text fits is stopped spent caused =
    let failed : Rises before.source_faults after.source_faults × (0 < budget) = subst (λ why. IsStopped why before after budget) is stopped in
    (fits.0, failed.0, fits.1, omega (arith, failed.1, spent))
ends-by WriteFault why before after turns budget taken rest text fits is stopped spent caused = (caused refl, fits)
ends-by Spent why before after turns budget taken rest text fits is stopped spent caused =
    let none : budget ≡ 0 = subst (λ why. IsStopped why before after budget) is stopped in
    (fits.0, omega (arith, none, spent), fits.1)
ends-by NoMemory why before after turns budget taken rest text fits is stopped spent caused = fits

-- the whole link
pub serves : (before after : Ends) (first last : SeenBoth) (start connection : Connection) (served : Served)
    → Finishes served.ending (standing before first start) (standing after last connection)
    → start.buffer.items ≡ [] → start.places.items ≡ [] → start.budget ≡ taken_bound → start.told ≡ false
    → IsEndingOf connection.stop served.ending → IsStopped connection.stop before after connection.budget → served.places ≡ connection.places.items
    → ServesLink before after first last served
serves before after first last start connection served finishes empty unplaced whole_budget untold ending stopped places_are =
    let goes = finishes.goes in
    let places : served.places ≡ map place_of finishes.turns = places_are ∙ goes.places ∙ ap (λ front. front ++ map place_of finishes.turns) unplaced in
    record {
      turns = finishes.turns;
      taken = finishes.taken;
      rest = connection.buffer.items;
      text = finishes.text;
      given = finishes.out;
      missing = finishes.missing;
      takes = goes.bytes;
      within = omega (arith, goes.budget, whole_budget);
      whole = goes.whole;
      cut = sym (ap (λ front. front ++ finishes.taken) empty) ∙ goes.cut;
      moments = goes.moments;
      words = goes.words;
      draws = goes.draws;
      places = places;
      stores = subst (HasSeenBoth first last) (sym places) goes.stores;
      answered = goes.answered;
      ordered = goes.ordered;
      marked = goes.marked;
      gives = goes.output;
      output = sym (ap (λ told. told_text told ++ (finishes.out ++ finishes.missing)) untold) ∙ finishes.said;
      complete = finishes.complete;
      left_out = finishes.left_out;
      ends = ends-by served.ending connection.stop before after finishes.turns connection.budget (length finishes.taken) connection.buffer.items finishes.text finishes.fits ending stopped (goes.budget ∙ whole_budget) finishes.caused;
    }
