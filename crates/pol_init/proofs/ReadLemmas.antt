-- What came of what was read.
use Rattle.std.proofs.Common.{ℕ, [], ◌∷◌, Result, Ok, Err}
use Rattle.std.specs.Prelude.{IfErr, IfOk}
use Rattle.pol_declaration.specs.declared.declaration.Declaration.{Declaration}
use Rattle.pol_wire.specs.Streams.{IsShifted}
use Rattle.pol_init.specs.Prepared.{Declares, Inputs, IsNotPrepared, IsUnmade, MakesDrawn, Prepares}
use Rattle.pol_init.specs.declared.prepared.NotPrepared.{NotPrepared}
use Rattle.pol_init.specs.declared.prepared.NotPrepared.TheVariants.{BadDeclaration, DrawFault, OutOfMemory, ReadFault, Refused}
use Rattle.pol_init.specs.declared.prepared.Prepared.{Prepared}

module _ (before after : Inputs) where
  module _ (d : Declaration) (moment : ℕ) (declares : Declares before.left after.left d) (at : IsShifted before.moments after.moments (moment ∷ [])) where
    -- all was made of what was read
    pub all-prepared : (result : Result Prepared NotPrepared) → IfOk result (MakesDrawn before.words after.words d moment) → IfOk result (Prepares before after)
    all-prepared (Ok made) is = record {
      read = record {
        declaration = d;
        declares = declares;
        moment = moment;
        at = at;
        words = is.words;
        draws = is.draws;
      };
      ready = is.ready;
    }
    all-prepared (Err why) is = tt

    unmade-prepared : (why : NotPrepared) → IsUnmade before.words after.words before.draw_faults after.draw_faults d moment why → IsNotPrepared before after why
    unmade-prepared ReadFault is = absurd is
    unmade-prepared (BadDeclaration fault) is = absurd is
    unmade-prepared DrawFault is = record { declaration = d; declares = declares; moment = moment; at = at; fewer = is.0; caused = is.1 }
    unmade-prepared (Refused index why) is = record {
      read = record {
        declaration = d;
        declares = declares;
        moment = moment;
        at = at;
        words = is.words;
        draws = is.draws;
      };
      refused = is.refused;
    }
    unmade-prepared OutOfMemory is = tt

    -- or nothing was
    pub none-prepared : (result : Result Prepared NotPrepared) → IfErr result (IsUnmade before.words after.words before.draw_faults after.draw_faults d moment) → IfErr result (IsNotPrepared before after)
    none-prepared (Ok made) is = tt
    none-prepared (Err why) is = unmade-prepared why is
