-- What a field sees of an object's members.
use Rattle.std.proofs.Common.{◌≡◌, ◌≢◌, ℕ, List, refl}
use Rattle.serde_json.specs.Data.{Data, object, Members, put}
use Rattle.serde_json.proofs.Views.{get_member-put, get_member-put_other}
use Rattle.pol_readers.specs.declared.path.Step.TheVariants.{Key}
use Rattle.pol_readers.specs.Reading.{Reading, under}
use Rattle.pol_readers.specs.Forms.{field, optional}

pub last_counts : {A : Type 0} (part : Data → Reading A) (key : List ℕ) (d : Data) (ms : Members) → field key part (object (put key d ms)) ≡ under (Key key) (part d)
unfolding field
last_counts part key d ms = rw (get_member-put key d ms) refl

pub others_ignored : {A : Type 0} (part : Data → Reading A) (key other : List ℕ) (d : Data) (ms : Members) → key ≢ other
    → (field key part (object (put other d ms)) ≡ field key part (object ms)) × (optional key part (object (put other d ms)) ≡ optional key part (object ms))
unfolding field optional
others_ignored part key other d ms apart =
    (rw (get_member-put_other key other d ms apart) refl, rw (get_member-put_other key other d ms apart) refl)
