use Rattle.std.proofs.Common.{◌≡◌, ℕ, false, true, List, Option, None, Some, refl}
use Rattle.uuid.specs.Text.{parsed}
use Rattle.pol_metaread.proofs.metadata.uuid_of.Goals as goal

none_there : (found : Option (List ℕ)) → (((uuid : List ℕ) × (found ≡ Some uuid)) → false ≡ true) → None ≡ found
none_there None nothing = refl
none_there (Some uuid) nothing =
    let found : false ≡ true = nothing (uuid, refl) in
    absurd (cc)

pub returns-in-Err : goal.returns-in-Err
returns-in-Err c = none_there (parsed c.args.text.now) c.in-Err.ensures.ok.1
