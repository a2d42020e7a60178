-- What is told of a run when the program ends.
use Rattle.std.specs.Prelude.{◌≡◌, ◌⊎◌, ℕ, Bool, true, false, List, [], ◌++◌, Option, codes, decimal}
use Rattle.std.specs.Io.KnownBytes.{Appends}
use Rattle.pol_answers.specs.Refusals.{message_of}
use Rattle.pol_commands.specs.declared.reply.Refusal.{Refusal}
use Rattle.pol_declaration.specs.Faults.{fault_text}
use Rattle.pol_wire.specs.Faults.{Rises}
use Rattle.pol_cli.specs.declared.reason.Reason.{Reason}
use Rattle.pol_cli.specs.declared.reason.Reason.TheVariants.{Done, ReadFault, WriteFault, Usage, NotAJournal, BadRecord, JournalThere, DiskFault, NoMemory, BadDeclaration, Refused, InputCut, DrawFault, Spent}

-- whose file it is: of which store
abbrev pub store_name : Bool → List ℕ
store_name true = codes "objects'"
store_name false = codes "catalogue's"

-- what is told of a command of the declaration that is refused
abbrev pub refused_text : ℕ → Refusal → List ℕ
refused_text index why = codes "the declaration's command " ++ (decimal index ++ (codes " is refused: " ++ message_of why))

-- what is told of a reason
abbrev pub reason_text : Reason → List ℕ
reason_text Done = codes "done"
reason_text ReadFault = codes "the input can't be read"
reason_text WriteFault = codes "the output can't be written"
reason_text Usage = codes "the words are no command line"
reason_text (NotAJournal objects) = codes "the " ++ store_name objects ++ codes " file is no journal"
reason_text (BadRecord objects at) = codes "the " ++ store_name objects ++ codes " file has a bad record at " ++ decimal at
reason_text (JournalThere objects) = codes "the " ++ store_name objects ++ codes " file isn't empty"
reason_text (DiskFault objects) = codes "the " ++ store_name objects ++ codes " file failed"
reason_text NoMemory = codes "memory is wanting"
reason_text (BadDeclaration fault) = codes "the declaration: " ++ fault_text fault
reason_text (Refused index why) = refused_text index why
reason_text InputCut = codes "the input ended inside a message"
reason_text DrawFault = codes "no random word can be drawn"
reason_text Spent = codes "2^40 bytes were taken"

-- the line that tells why a run failed: the program's name, the reason and a line end
abbrev pub failed_line : Reason → List ℕ
failed_line reason = codes "polaris: " ++ reason_text reason ++ codes "\n"

-- the line on standard error: none where the run did what its words ask for
abbrev pub line_of : Reason → List ℕ
line_of Done = []
line_of ReadFault = failed_line ReadFault
line_of WriteFault = failed_line WriteFault
line_of Usage = failed_line Usage
line_of (NotAJournal objects) = failed_line (NotAJournal objects)
line_of (BadRecord objects at) = failed_line (BadRecord objects at)
line_of (JournalThere objects) = failed_line (JournalThere objects)
line_of (DiskFault objects) = failed_line (DiskFault objects)
line_of NoMemory = failed_line NoMemory
line_of (BadDeclaration fault) = failed_line (BadDeclaration fault)
line_of (Refused index why) = failed_line (Refused index why)
line_of InputCut = failed_line InputCut
line_of DrawFault = failed_line DrawFault
line_of Spent = failed_line Spent

-- a sink was given a text and its count of faults stays, or its front and then the count rose
pub record GivesText (old new : Option (List ℕ)) (old_faults new_faults : ℕ) (text : List ℕ) : Type 0 where
  pub given : List ℕ
  pub missing : List ℕ
  pub text_is : text ≡ given ++ missing
  pub gives : Appends old new given
  pub caused : ((missing ≡ []) × (new_faults ≡ old_faults)) ⊎ Rises old_faults new_faults
