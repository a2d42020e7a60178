-- How a refusal of a location is printed.
use Rattle.std.specs.Prelude.{ℕ, List, codes}
use Rattle.pol_locations.specs.declared.refused.LocationRefused.{LocationRefused}
use Rattle.pol_locations.specs.declared.refused.LocationRefused.TheVariants.{BadScheme, EmptySegment, DotSegment, ControlByte, TooLong, OutOfMemory}

-- the word by which a message names the refusal
abbrev pub word_of : LocationRefused → List ℕ
word_of BadScheme = codes "BadScheme"
word_of EmptySegment = codes "EmptySegment"
word_of DotSegment = codes "DotSegment"
word_of ControlByte = codes "ControlByte"
word_of TooLong = codes "TooLong"
word_of OutOfMemory = codes "OutOfMemory"
