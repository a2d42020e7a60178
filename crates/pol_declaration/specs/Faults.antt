-- The texts of faults.
use Rattle.std.specs.Prelude.{ℕ, List, ◌++◌, codes}
use Rattle.pol_readers.specs.Path.{path_text}
use Rattle.pol_declaration.specs.declared.fault.DeclarationRefused.{DeclarationRefused}
use Rattle.pol_declaration.specs.declared.fault.DeclarationRefused.TheVariants.{BadDeclaration, OutOfMemory}
use Rattle.pol_declaration.specs.declared.fault.Fault.{Fault}
use Rattle.pol_declaration.specs.declared.fault.Fault.TheVariants.{TooLong, NotUtf8, NotToml, At}
use Rattle.pol_declaration.specs.declared.fault.Why.{Why}
use Rattle.pol_declaration.specs.declared.fault.Why.TheVariants.{Missing, Unlisted, NotText, NotList, NotTable, NotPlain, NoPrivilege, NotGrantable}

abbrev pub why_text : Why → List ℕ
why_text Missing = codes "missing"
why_text Unlisted = codes "not a key of this table"
why_text NotText = codes "not a string"
why_text NotList = codes "not an array"
why_text NotTable = codes "not a table"
why_text NotPlain = codes "not a name"
why_text NoPrivilege = codes "not a privilege"
why_text NotGrantable = codes "not to be granted on a catalogue"

-- a fault: what is wrong with the text, or a path and what is wrong there
abbrev pub fault_text : Fault → List ℕ
fault_text TooLong = codes "longer than 1048576 bytes"
fault_text NotUtf8 = codes "not UTF-8"
fault_text NotToml = codes "not TOML"
fault_text (At path why) = path_text path ++ codes ": " ++ why_text why

-- why a text isn't read
abbrev pub refused_text : DeclarationRefused → List ℕ
refused_text (BadDeclaration fault) = codes "BadDeclaration: " ++ fault_text fault
refused_text OutOfMemory = codes "out of memory"
