use Rattle.std.proofs.Common.{◌≡◌, ℕ, Bool, Option, None, Some, Err, refl, sym, ◌∙◌}
use Rattle.std.specs.Option.{option_map}
use Rattle.pol_http.specs.Fields.{framed}
use Rattle.pol_http.specs.declared.head.HeadRefused.TheVariants.{BadHead}
use Rattle.pol_http.proofs.fields.body_length.Goals as goal

refused : (coded : Bool) (framing : ℕ → ℕ × Bool) (said : Option ℕ) → None ≡ option_map framing said
    → Err BadHead ≡ framed coded said
refused coded framing None none = refl
refused coded framing (Some n) none = absurd (cc)

pub returns-in_default : goal.returns-in_default
returns-in_default c = refused _ _ _ (sym c.in_default.is ∙ c.framing.ensures)
