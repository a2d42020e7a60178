-- The words of transforms (Iceberg table spec, Partition Transforms).
use Rattle.std.specs.Prelude.{ℕ, List, [], ◌∷◌, codes, Option, option_map}
use Rattle.std.specs.Option.{option_or}
use Rattle.pol_readers.specs.Forms.{meaning}
use Rattle.pol_meta.specs.declared.transform.Transform.{Transform}
use Rattle.pol_meta.specs.declared.transform.Transform.TheVariants.{Identity, Void, Year, Month, Day, Hour, Bucket, Truncate}
use Rattle.pol_readers.specs.Shape.{Shape, text_of}
use Rattle.pol_metajson.specs.Brackets.{sized}

-- those without a number
abbrev pub plain_transforms : List (List ℕ × Transform)
plain_transforms =
    (codes "identity", Identity) ∷ (codes "void", Void) ∷ (codes "year", Year) ∷ (codes "month", Month)
    ∷ (codes "day", Day) ∷ (codes "hour", Hour) ∷ []

abbrev pub plain_transform : List ℕ → Option Transform
plain_transform word = meaning plain_transforms word

-- those with a number
abbrev pub sized_transform : List ℕ → Option Transform
sized_transform word =
    option_or (option_map Bucket (sized (codes "bucket[") word)) (option_map Truncate (sized (codes "truncate[") word))

unfoldable pub transform_of : List ℕ → Option Transform
transform_of word = option_or (plain_transform word) (sized_transform word)

unfoldable pub transform : Shape Transform
transform = text_of transform_of
