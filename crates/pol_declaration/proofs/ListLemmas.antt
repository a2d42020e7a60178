-- Lists that are read member by member.
use Rattle.std.proofs.Common.{List, ◌++◌, Ok, Err}
use Rattle.pol_declaration.specs.Reading.{Reading}

-- what was read so far, and what is read after it
abbrev pub after : {A : Type 0} → List A → Reading (List A) → Reading (List A)
after done (Ok values) = Ok (done ++ values)
after done (Err fault) = Err fault
