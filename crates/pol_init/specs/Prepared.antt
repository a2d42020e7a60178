-- What `init` reads, and what it has before it calls a disk.
use Rattle.std.specs.Prelude.{◌≡◌, ℕ, List, [], ◌∷◌, length, Option, Ok, Err, ⊤}
use Rattle.pol_changecodec.specs.Change.{changes}
use Rattle.pol_commands.specs.declared.command.Command.{Command}
use Rattle.pol_commands.specs.declared.reply.Refusal.{Refusal}
use Rattle.pol_declaration.specs.Declaration.{declared}
use Rattle.pol_declaration.specs.declared.declaration.Declaration.{Declaration}
use Rattle.pol_declaration.specs.declared.fault.DeclarationRefused.{DeclarationRefused}
use Rattle.pol_declaration.specs.declared.fault.DeclarationRefused.TheVariants as declaration_refused
use Rattle.pol_declaration.specs.declared.fault.Fault.{Fault}
use Rattle.pol_forms.specs.Form.{IsFormOf}
use Rattle.pol_journal.specs.Format.{area_of}
use Rattle.pol_setup.specs.Setup.{commands, lines, words_needed}
use Rattle.pol_setup.specs.declared.commands.Setup.{Setup}
use Rattle.pol_state.specs.Changes.{changes_between}
use Rattle.pol_state.specs.Rows.{Rows, empty_state, fresh_state}
use Rattle.pol_state.specs.Sound.{IsSound}
use Rattle.pol_wire.specs.Faults.{Rises}
use Rattle.pol_wire.specs.Streams.{IsShifted}
use Rattle.pol_init.specs.Drawing.{DrawsAll, DrawsFewer}
use Rattle.pol_init.specs.FirstRecord.{IsFormWhereValid, body_of}
use Rattle.pol_init.specs.Output.{output_text}
use Rattle.pol_init.specs.Reading.{TakesSome, TakesText}
use Rattle.pol_init.specs.SetUp.{AllPass, IsRefusedAt, state_set_up}
use Rattle.pol_init.specs.declared.drawing.Undrawn.{Undrawn}
use Rattle.pol_init.specs.declared.drawing.Undrawn.TheVariants as undrawn_why
use Rattle.pol_init.specs.declared.prepared.NotPrepared.{NotPrepared}
use Rattle.pol_init.specs.declared.prepared.NotPrepared.TheVariants.{ReadFault, BadDeclaration, DrawFault, Refused, OutOfMemory}
use Rattle.pol_init.specs.declared.prepared.Prepared.{Prepared}
use Rattle.pol_init.specs.declared.reading.Unread.{Unread}
use Rattle.pol_init.specs.declared.reading.Unread.TheVariants as unread_why
use Rattle.pol_init.specs.declared.setup.SetupRefused.{SetupRefused}
use Rattle.pol_init.specs.declared.setup.SetupRefused.TheVariants as setup_refused

-- what the source, the clock and the draw tell
pub record Inputs : Type 0 where
  pub left : Option (List ℕ)
  pub moments : Option (ℕ → ℕ)
  pub words : Option (ℕ → ℕ)
  pub source_faults : ℕ
  pub draw_faults : ℕ

abbrev pub inputs_of : {S C W : Type 0} → (S → Option (List ℕ)) → (S → ℕ) → (C → Option (ℕ → ℕ)) → (W → Option (ℕ → ℕ)) → (W → ℕ) → S → C → W → Inputs
inputs_of left source_faults moments words draw_faults source clock draw = record {
  left = left source;
  moments = moments clock;
  words = words draw;
  source_faults = source_faults source;
  draw_faults = draw_faults draw;
}

-- the state that a declaration sets up
abbrev pub state_declared : Declaration → ℕ → List ℕ → Rows
state_declared d moment words = state_set_up d.root_secret (commands d moment words)

-- what there is before a disk is called: each command passed, and the state that was set up is sound; the first record
-- has all changes that lead from the empty state to it; and the output tells the drawn secrets and the number of
-- commands
pub record IsReady (d : Declaration) (moment : ℕ) (words : List ℕ) (made : Prepared) : Type 0 where
  pub passed : AllPass (fresh_state d.root_secret) (commands d moment words)
  pub sound : IsSound (state_declared d moment words)
  pub body : List ℕ
  pub form : IsFormOf changes (changes_between empty_state (state_declared d moment words)) body
  pub first : made.first ≡ area_of (body ∷ [])
  pub output : made.output ≡ output_text (lines d words) (length (commands d moment words))

-- a text was taken, and it declares this
pub record Declares (before after : Option (List ℕ)) (d : Declaration) : Type 0 where
  pub text : List ℕ
  pub takes : TakesText before after text
  pub reads : declared text ≡ Ok d

-- a text was taken, and it is no declaration
pub record IsBad (before after : Option (List ℕ)) (fault : Fault) : Type 0 where
  pub text : List ℕ
  pub takes : TakesText before after text
  pub bad : declared text ≡ Err fault

-- a declaration was taken, then the clock was read, and then the words of its secrets were drawn
pub record HasRead (before after : Inputs) : Type 0 where
  pub declaration : Declaration
  pub declares : Declares before.left after.left declaration
  pub moment : ℕ
  pub at : IsShifted before.moments after.moments (moment ∷ [])
  pub words : List ℕ
  pub draws : DrawsAll before.words after.words (words_needed declaration) words

-- what was made of what was read
pub record Prepares (before after : Inputs) (made : Prepared) : Type 0 where
  pub read : HasRead before after
  pub ready : IsReady read.declaration read.moment read.words made

-- a command of what was read is the first that is refused
pub record RefusesAt (before after : Inputs) (index : ℕ) (why : Refusal) : Type 0 where
  pub read : HasRead before after
  pub refused : IsRefusedAt (fresh_state read.declaration.root_secret) (commands read.declaration read.moment read.words) index why

-- a declaration was taken and the clock was read, and then the draw failed
pub record DrawFails (before after : Inputs) : Type 0 where
  pub declaration : Declaration
  pub declares : Declares before.left after.left declaration
  pub moment : ℕ
  pub at : IsShifted before.moments after.moments (moment ∷ [])
  pub fewer : DrawsFewer before.words after.words (words_needed declaration)
  pub caused : Rises before.draw_faults after.draw_faults

-- why nothing was made, and what was read before
abbrev pub IsNotPrepared : Inputs → Inputs → NotPrepared → Type 0
IsNotPrepared before after ReadFault =
    Rises before.source_faults after.source_faults × (after ≡ record before { left = after.left; source_faults = after.source_faults })
IsNotPrepared before after (BadDeclaration fault) =
    IsBad before.left after.left fault × (after ≡ record before { left = after.left })
IsNotPrepared before after DrawFault = DrawFails before after
IsNotPrepared before after (Refused index why) = RefusesAt before after index why
IsNotPrepared before after OutOfMemory = ⊤

-- words were drawn
abbrev pub DrawsSome : Option (ℕ → ℕ) → Option (ℕ → ℕ) → Type 0
DrawsSome before after = (drawn : List ℕ) × IsShifted before after drawn

-- what was read, whatever came of it: bytes, then moments, then words
pub record Moves (before after : Inputs) : Type 0 where
  pub takes : TakesSome before.left after.left
  pub moments : List ℕ
  pub reads : IsShifted before.moments after.moments moments
  pub draws : DrawsSome before.words after.words

-- why no declaration was taken
abbrev pub IsUndeclared : Option (List ℕ) → Option (List ℕ) → ℕ → ℕ → NotPrepared → Type 0
IsUndeclared before after old new ReadFault = Rises old new
IsUndeclared before after old new (BadDeclaration fault) = IsBad before after fault × (new ≡ old)
IsUndeclared before after old new DrawFault = ⊥
IsUndeclared before after old new (Refused index why) = ⊥
IsUndeclared before after old new OutOfMemory = ⊤

-- why commands from the fresh state of this secret on made nothing: the first that is refused, or memory was wanting
abbrev pub IsUnset : List ℕ → List Command → NotPrepared → Type 0
IsUnset secret commands ReadFault = ⊥
IsUnset secret commands (BadDeclaration fault) = ⊥
IsUnset secret commands DrawFault = ⊥
IsUnset secret commands (Refused index why) = IsRefusedAt (fresh_state secret) commands index why
IsUnset secret commands OutOfMemory = ⊤

-- what was made of commands from the fresh state of this secret on
pub record IsMadeOf (secret : List ℕ) (setup : Setup) (made : Prepared) : Type 0 where
  pub passed : AllPass (fresh_state secret) setup.commands
  pub sound : IsSound (state_set_up secret setup.commands)
  pub first : made.first ≡ area_of (body_of (state_set_up secret setup.commands) ∷ [])
  pub form : IsFormWhereValid (state_set_up secret setup.commands)
  pub output : made.output ≡ output_text setup.lines (length setup.commands)

-- words were drawn, and all was made with them
pub record MakesDrawn (before after : Option (ℕ → ℕ)) (d : Declaration) (moment : ℕ) (made : Prepared) : Type 0 where
  pub words : List ℕ
  pub draws : DrawsAll before after (words_needed d) words
  pub ready : IsReady d moment words made

-- words were drawn, and a command is refused with them
pub record RefusesDrawn (before after : Option (ℕ → ℕ)) (d : Declaration) (moment index : ℕ) (why : Refusal) : Type 0 where
  pub words : List ℕ
  pub draws : DrawsAll before after (words_needed d) words
  pub refused : IsRefusedAt (fresh_state d.root_secret) (commands d moment words) index why

-- why nothing was made of a declaration
abbrev pub IsUnmade : Option (ℕ → ℕ) → Option (ℕ → ℕ) → ℕ → ℕ → Declaration → ℕ → NotPrepared → Type 0
IsUnmade before after old new d moment ReadFault = ⊥
IsUnmade before after old new d moment (BadDeclaration fault) = ⊥
IsUnmade before after old new d moment DrawFault = DrawsFewer before after (words_needed d) × Rises old new
IsUnmade before after old new d moment (Refused index why) = RefusesDrawn before after d moment index why
IsUnmade before after old new d moment OutOfMemory = ⊤

-- each reason as one of `init`
abbrev pub unread : Unread → NotPrepared
unread unread_why.ReadFault = ReadFault
unread unread_why.OutOfMemory = OutOfMemory

abbrev pub undeclared : DeclarationRefused → NotPrepared
undeclared (declaration_refused.BadDeclaration fault) = BadDeclaration fault
undeclared declaration_refused.OutOfMemory = OutOfMemory

abbrev pub undrawn : Undrawn → NotPrepared
undrawn undrawn_why.DrawFault = DrawFault
undrawn undrawn_why.OutOfMemory = OutOfMemory

abbrev pub unset : SetupRefused → NotPrepared
unset (setup_refused.Refused index why) = Refused index why
unset setup_refused.OutOfMemory = OutOfMemory
