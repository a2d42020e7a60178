-- Types by how many others may stand in one another in them.
use Rattle.std.proofs.Common.{◌≡◌, ◌<◌, ℕ, zero, suc, ◌-◌, true, false, is_some, List, refl, arith}
use Rattle.serde_json.specs.Data.{Data}
use Rattle.serde_json.specs.Find.{as_str}
use Rattle.pol_metajson.specs.Schema.{kind_form, nested_form, plain_form}

-- where none may, and where a text stands, it is one without columns
pub kind_none : (depth : ℕ) (seen : List ℕ) (d : Data) → (kind_form 0 depth seen).read d ≡ plain_form.read d
unfolding kind_form
kind_none depth seen d = refl

pub kind_text : (left depth : ℕ) (seen : List ℕ) (d : Data) → is_some (as_str d) ≡ true → (kind_form left depth seen).read d ≡ plain_form.read d
unfolding kind_form
kind_text zero depth seen d text = refl
kind_text (suc left) depth seen d text = rw text refl

-- else it has columns in it
pub kind_nested : (left depth : ℕ) (seen : List ℕ) (d : Data) → 0 < left → is_some (as_str d) ≡ false → (kind_form left depth seen).read d ≡ (nested_form (kind_form (left - 1)) depth seen).read d
unfolding kind_form
kind_nested zero depth seen d some other = absurd (omega arith)
kind_nested (suc left) depth seen d some other =
    let same : suc left - 1 ≡ left = omega arith in
    rw (other, same) refl

pub ruleset kinds = (kind_none, kind_text, kind_nested)
