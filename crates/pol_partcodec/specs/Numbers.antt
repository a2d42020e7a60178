-- The forms of ids and other numbers of a metadata: those of numbers of 32 or 64 bits, within bounds.
use Rattle.std.specs.Prelude.{◌≡◌, ◌≤◌, ℕ, Bool, true, ◌&&◌, nat_le}
use Rattle.std.proofs.lemmas.Bool.{and_from, and_parts, le-leb, leb-true}
use Rattle.pol_forms.specs.Form.{Form}
use Rattle.pol_forms.specs.Forms.{number, ruled, short_number}

-- a number within bounds
pub record IsBetween (least most number : ℕ) : Type 0 where
  pub above : least ≤ number
  pub below : number ≤ most

abbrev pub is_between : ℕ → ℕ → ℕ → Bool
is_between least most number = nat_le least number && nat_le number most

pub between-told : (least most number : ℕ) → is_between least most number ≡ true → IsBetween least most number
between-told least most number passes =
    let both = and_parts (nat_le least number) (nat_le number most) passes in
    record { above = leb-true least number both.0; below = leb-true number most both.1 }

pub told-between : (least most number : ℕ) → IsBetween least most number → is_between least most number ≡ true
told-between least most number right =
    and_from (nat_le least number) (nat_le number most) (le-leb least number right.above) (le-leb number most right.below)

-- a number of 32 bits within bounds
unfoldable pub short_between : ℕ → ℕ → Form ℕ
short_between least most = ruled short_number (IsBetween least most) (is_between least most)
    (λ number held passes. between-told least most number passes) (told-between least most)

-- one of 64 bits
unfoldable pub between : ℕ → ℕ → Form ℕ
between least most = ruled number (IsBetween least most) (is_between least most)
    (λ number held passes. between-told least most number passes) (told-between least most)

-- ids of schemas, specs and orders
abbrev pub id : Form ℕ
id = short_between 0 2147483647

-- ids of columns
abbrev pub column_id : Form ℕ
column_id = short_between 0 2147483447

-- ids of partition fields
abbrev pub field_id : Form ℕ
field_id = short_between 1000 2147483647

-- the last one that was given, or the one below all of them
abbrev pub last_field_id : Form ℕ
last_field_id = short_between 999 2147483647

-- numbers of buckets, widths and lengths
abbrev pub size : Form ℕ
size = short_between 1 2147483647

-- digits of a decimal
abbrev pub precision : Form ℕ
precision = short_between 1 38

-- the version of the format
abbrev pub version : Form ℕ
version = short_between 2 2

-- ids of snapshots, sequence numbers and times
abbrev pub long : Form ℕ
long = between 0 9223372036854775807

-- what is to be kept of a reference
abbrev pub kept : Form ℕ
kept = between 1 9223372036854775807
