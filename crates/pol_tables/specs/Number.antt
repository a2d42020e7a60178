-- Numbers of names.
use Rattle.std.specs.Prelude.{ℕ, List}
use Rattle.std.specs.Hash.DefaultHasher as sip
use Rattle.std.specs.List.{fold}

-- the number that std's hasher makes of the bytes that a name feeds it
unfoldable pub number_of : List (List ℕ) → ℕ
number_of feed = sip.finish (fold sip.write sip.initial feed)
