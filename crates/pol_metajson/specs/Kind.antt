-- The words of types that have no columns in them (Iceberg table spec, Primitive Types).
use Rattle.std.specs.Prelude.{ℕ, ◌+◌, ◌==◌, List, [], ◌∷◌, codes, drop, take, position, unwrap_or, Option, option_map, option_and_then}
use Rattle.std.specs.Option.{option_or}
use Rattle.pol_readers.specs.Forms.{meaning}
use Rattle.pol_meta.specs.declared.column.Kind.{Kind}
use Rattle.pol_meta.specs.declared.column.Kind.TheVariants as kind
use Rattle.pol_metajson.specs.Brackets.{behind, between, sized}
use Rattle.pol_metajson.specs.Numeral.{numeral}

-- times, texts, uuids and bytes
abbrev pub timed_kinds : List (List ℕ × Kind)
timed_kinds =
    (codes "time", kind.Time) ∷ (codes "timestamp", kind.Timestamp) ∷ (codes "timestamptz", kind.Timestamptz)
    ∷ (codes "string", kind.String) ∷ (codes "uuid", kind.Uuid) ∷ (codes "binary", kind.Binary) ∷ []

abbrev pub timed_kind : List ℕ → Option Kind
timed_kind word = meaning timed_kinds word

-- truth values, numbers and dates
abbrev pub plain_kinds : List (List ℕ × Kind)
plain_kinds =
    (codes "boolean", kind.Boolean) ∷ (codes "int", kind.Int) ∷ (codes "long", kind.Long)
    ∷ (codes "float", kind.Float) ∷ (codes "double", kind.Double) ∷ (codes "date", kind.Date) ∷ []

abbrev pub plain_kind : List ℕ → Option Kind
plain_kind word = meaning plain_kinds word

-- bytes without one space at their head
abbrev pub without_space : List ℕ → List ℕ
without_space bytes = unwrap_or (behind (codes " ") bytes) bytes

-- a decimal whose precision and scale stand at both sides of the comma at a place
abbrev pub decimal_at : List ℕ → ℕ → Option Kind
decimal_at inner place =
    option_and_then (λ precision. option_map (kind.Decimal precision) (numeral 0 precision (without_space (drop (place + 1) inner))))
    (numeral 1 38 (take place inner))

-- the place of the first comma
abbrev pub comma_of : List ℕ → Option ℕ
comma_of bytes = position (λ byte. byte == 0x2C) bytes

-- a decimal of a precision from 1 to 38 and a scale from 0 to the precision, with one space between the two or none
abbrev pub decimal_of : List ℕ → Option Kind
decimal_of word =
    option_and_then (λ inner. option_and_then (decimal_at inner) (comma_of inner))
    (between (codes "decimal(") (codes ")") word)

unfoldable pub kind_of : List ℕ → Option Kind
kind_of word = option_or (option_or (option_or (plain_kind word) (timed_kind word)) (option_map kind.Fixed (sized (codes "fixed[") word))) (decimal_of word)
