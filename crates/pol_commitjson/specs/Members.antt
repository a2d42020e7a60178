-- How an update names a schema, spec or order.
use Rattle.std.specs.Prelude.{ℕ}
use Rattle.pol_drafts.specs.declared.member.MemberId.{MemberId}
use Rattle.pol_drafts.specs.declared.member.MemberId.TheVariants.{LastAdded, Id}
use Rattle.pol_metajson.specs.Ids.{id}
use Rattle.pol_readers.specs.Shape.{Shape, ◌>>=◌, done, or_minus_one}
use Rattle.pol_readers.specs.declared.minus_one.OrMinusOne.{OrMinusOne}
use Rattle.pol_readers.specs.declared.minus_one.OrMinusOne.TheVariants.{MinusOne, Other}

-- -1 names the last that was added
abbrev pub member_of : OrMinusOne ℕ → MemberId
member_of MinusOne = LastAdded
member_of (Other number) = Id number

unfoldable pub member : Shape MemberId
member = do
  given ← or_minus_one id
  done (member_of given)
