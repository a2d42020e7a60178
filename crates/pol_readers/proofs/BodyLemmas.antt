-- The value that a body is.
use Rattle.std.proofs.Common.{◌≡◌, ◌≢◌, ℕ, List, [], Bool, true, false, Option, Some, None, Err, IsUtf8, refl, cond}
use Rattle.std.specs.Str.{is_utf8}
use Rattle.std.proofs.lemmas.Str.{IsUtf8-from_is_utf8}
use Rattle.serde_json.specs.Data.{Data, null, boolean, number, string, array, object, Members}
use Rattle.serde_json.specs.Read.{read}
use Rattle.pol_readers.specs.Exactness.{data_held}
use Rattle.pol_readers.specs.Reading.{Reading, ◌>>=◌, bad, found}
use Rattle.pol_readers.specs.Forms.{data_of, is_object, holds, body}

refused_at : (bytes : List ℕ) (b : Bool) → is_utf8 bytes ≡ b → (IsUtf8 bytes → read bytes ≡ None) → found (cond b (read bytes) None) ≡ Err []
refused_at bytes true is unread = rw (unread (IsUtf8-from_is_utf8 bytes is)) refl
refused_at bytes false is unread = refl

pub data_refused : (bytes : List ℕ) → (IsUtf8 bytes → read bytes ≡ None) → found (data_of bytes) ≡ Err []
data_refused bytes unread = refused_at bytes (is_utf8 bytes) refl unread

-- a body that is no object
not_an_object : {A : Type 0} (part : Data → Reading A) (o : Option Data) → ((ms : Members) → o ≢ Some (object ms)) → (found o >>= (λ d. is_object d >>= (λ nothing. part d))) ≡ bad
unfolding is_object holds
not_an_object part None other = refl
not_an_object part (Some (object ms)) other = absurd (other ms refl)
not_an_object part (Some null) other = refl
not_an_object part (Some (boolean b)) other = refl
not_an_object part (Some (number n)) other = refl
not_an_object part (Some (string s)) other = refl
not_an_object part (Some (array ds)) other = refl

pub others_bad : {A : Type 0} (part : Data → Reading A) (bytes : List ℕ) → ((ms : Members) → IsUtf8 bytes → read bytes ≢ Some (object ms)) → body part bytes ≡ bad
unfolding body
others_bad part bytes other =
    not_an_object part (data_of bytes) (λ ms is. let so = data_held bytes (object ms) is in other ms so.0 so.1)
