-- The bytes of a journal and what they stand for.
use Rattle.std.specs.Prelude.{ℕ, ◌≡◌, ◌≢◌, ◌+◌, ◌<◌, ◌≤◌, ◌⊎◌, Bool, true, false, List, [], ◌∷◌, ◌++◌, length, take, replicate, codes}
use Rattle.std.specs.List.{flat_map, sum_by}
use Rattle.std.specs.Int.{w64, to_be_bytes, from_be_bytes}
use Rattle.pol_journal.specs.declared.kind.Kind.{Kind}
use Rattle.pol_journal.specs.declared.kind.Kind.TheVariants.{Catalogue, Objects}

-- the name that a journal of this kind begins with
abbrev pub name_of : Kind → List ℕ
name_of Catalogue = codes "POLJRN01"
name_of Objects = codes "POLOBJ01"

-- the header: the name, and 56 zero bytes that are kept for later
unfoldable pub header_of : Kind → List ℕ
header_of kind = name_of kind ++ replicate 56 0

-- what stands behind the gate of a record: the body's length as eight bytes, most significant first, and the body
unfoldable pub framed : List ℕ → List ℕ
framed body = to_be_bytes w64 (length body) ++ body

-- a record: an open gate, the length and the body
abbrev pub record_of : List ℕ → List ℕ
record_of body = 1 ∷ framed body

-- the records of these bodies
unfoldable pub records_of : List (List ℕ) → List ℕ
records_of bodies = flat_map record_of bodies

-- what follows the header of a journal of these bodies as it is written: the records and a closed gate
abbrev pub area_of : List (List ℕ) → List ℕ
area_of bodies = records_of bodies ++ 0 ∷ []

-- the place behind the closed gate of a journal of these bodies
unfoldable pub extent : List (List ℕ) → ℕ
extent bodies = 65 + sum_by (λ body. 9 + length body) bodies

-- bytes stand for a list of bodies: header, records with open gates, a closed gate, which is any byte but 0x01, and
-- then anything
pub record StandsFor (kind : Kind) (bodies : List (List ℕ)) (file : List ℕ) : Type 0 where
  pub gate : ℕ
  pub rest : List ℕ
  pub closed : gate ≢ 1
  pub bytes : file ≡ header_of kind ++ (records_of bodies ++ gate ∷ rest)

-- bytes have a header of this kind and a byte behind it
pub record HasHeader (kind : Kind) (file : List ℕ) : Type 0 where
  pub long : 65 ≤ length file
  pub header : take 64 file ≡ header_of kind

-- bytes are no journal of a kind: fewer than 65, or another header
abbrev pub IsNoJournal : Kind → List ℕ → Type 0
IsNoJournal kind file = (length file < 65) ⊎ (take 64 file ≢ header_of kind)

-- a test of bytes for such a header
abbrev pub JudgesHeader : Bool → Kind → List ℕ → Type 0
JudgesHeader true kind file = HasHeader kind file
JudgesHeader false kind file = IsNoJournal kind file

-- bytes are no journal, or stand for these bodies
abbrev pub IsNoneOrStandsFor : Kind → List (List ℕ) → List ℕ → Type 0
IsNoneOrStandsFor kind bodies file = IsNoJournal kind file ⊎ StandsFor kind bodies file

-- bytes stand for these bodies, or for them and one more
abbrev pub IsBeforeOrAfter : Kind → List (List ℕ) → List ℕ → List ℕ → Type 0
IsBeforeOrAfter kind bodies body file = StandsFor kind bodies file ⊎ StandsFor kind (bodies ++ body ∷ []) file

-- the records of these bodies stand here, then a gate that may be any byte, and behind it one more body and a closed
-- gate
pub record IsStaged (kind : Kind) (bodies : List (List ℕ)) (body : List ℕ) (file : List ℕ) : Type 0 where
  pub gate : ℕ
  pub rest : List ℕ
  pub bytes : file ≡ header_of kind ++ (records_of bodies ++ gate ∷ (framed body ++ 0 ∷ rest))

-- the records of these bodies were read, up to the gate at this place, in bytes that are long enough for a journal
pub record IsReadTo (kind : Kind) (bodies : List (List ℕ)) (gate : ℕ) (file : List ℕ) : Type 0 where
  pub long : 65 ≤ length file
  pub tail : List ℕ
  pub bytes : file ≡ header_of kind ++ (records_of bodies ++ tail)
  pub place : gate + 1 ≡ extent bodies

-- a closed gate stands here
abbrev pub IsClosed : List ℕ → Type 0
IsClosed [] = ⊥
IsClosed (gate ∷ rest) = gate ≢ 1

-- a record of a body of this length stands here
pub record IsRecordOf (count : ℕ) (tail : List ℕ) : Type 0 where
  pub rest : List ℕ
  pub bytes : tail ≡ 1 ∷ to_be_bytes w64 count ++ rest
  pub within : count ≤ length rest

-- a record of this body stands here
pub record IsRecord (body tail : List ℕ) : Type 0 where
  pub rest : List ℕ
  pub bytes : tail ≡ record_of body ++ rest

-- no record and no closed gate stands here: the gate byte is missing, or it is open and the record runs past the end
abbrev pub IsBroken : List ℕ → Type 0
IsBroken [] = Unit {0}
IsBroken (gate ∷ rest) = (gate ≡ 1) × ((length rest < 8) ⊎ (length rest < 8 + from_be_bytes w64 (take 8 rest)))

-- the record whose gate should stand at this place is bad
pub record IsBadAt (kind : Kind) (at : ℕ) (file : List ℕ) : Type 0 where
  pub bodies : List (List ℕ)
  pub read : IsReadTo kind bodies at file
  pub broken : IsBroken read.tail
