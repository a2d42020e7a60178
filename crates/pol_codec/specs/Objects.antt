-- The form of a change of objects.
use Rattle.std.specs.Prelude.{◌≡◌, ℕ, List, [], ◌∷◌, ◌++◌, Some, refl}
use Rattle.pol_codec.specs.declared.objects.ObjectChange.{ObjectChange}
use Rattle.pol_codec.specs.declared.objects.ObjectChange.TheVariants.{Put, Delete}
use Rattle.pol_forms.specs.Enums.{Written, Variant, written_as, enum, enum_read, made_read_back, case_of}
use Rattle.pol_forms.specs.Form.{Form}
use Rattle.pol_forms.specs.Forms.{byte_string, ◌&◌}
use Rattle.pol_forms.specs.Names.{location}

-- what is written of a change: 0, the path and the bytes, or 1 and the path
abbrev object_written : ObjectChange → Written
object_written (Put path bytes) = written_as 0 (location & byte_string) (path, bytes)
object_written (Delete path) = written_as 1 location path

abbrev put : List (List ℕ) × List ℕ → ObjectChange
put fields = Put fields.0 fields.1

abbrev object_variants : List (Variant object_written)
object_variants = case_of 0 put (location & byte_string) (λ fields. refl) ∷ case_of 1 Delete location (λ path. refl) ∷ []

pub object_read_back : (value : ObjectChange) (rest : List ℕ) → (object_written value).holds → enum_read object_variants ((object_written value).bytes ++ rest) ≡ Some (value, rest)
object_read_back (Put path bytes) rest held = made_read_back put (location & byte_string) (path, bytes) rest held
object_read_back (Delete path) rest held = made_read_back Delete location path rest held

unfoldable pub object_change : Form ObjectChange
object_change = enum object_written object_variants object_read_back
