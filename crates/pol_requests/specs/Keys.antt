-- Keys of JSON that stand both in bodies of requests and in answers.
use Rattle.std.specs.Prelude.{ℕ, List, codes}

-- the key of a catalogue's base
abbrev pub base_key : List ℕ
base_key = codes "default-base-location"
