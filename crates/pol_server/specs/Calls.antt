-- What several calls of the ends of a link come to.
use Rattle.std.specs.Prelude.{◌≡◌, ◌<◌, ◌≤◌, ◌+◌, ◌-◌, ◌^◌, ℕ, List, [], ◌++◌, length, Result, MatchResult, OnOk, OnErr}
use Rattle.std.specs.Io.KnownBytes.{Appends}
use Rattle.pol_commands.specs.declared.command.Words4.{Words4}
use Rattle.pol_wire.specs.Faults.{Rises}
use Rattle.pol_wire.specs.Streams.{IsShifted}
use Rattle.pol_server.specs.Ends.{Ends}
use Rattle.pol_server.specs.Turn.{four_words}

-- all bytes of a text were given, or the sink failed behind the first of them
pub record GivesAll {E : Type 0} (old new : Ends) (bytes : List ℕ) (result : Result Unit E) : Type 0 where
  pub given : List ℕ
  pub missing : List ℕ
  pub same : new ≡ record old { given = new.given; sink_faults = new.sink_faults }
  pub kept : old.sink_faults ≤ new.sink_faults
  pub bytes_are : bytes ≡ given ++ missing
  pub gives : Appends old.given new.given given
  pub complete : OnOk result (missing ≡ [])
  pub caused : OnErr result (Rises old.sink_faults new.sink_faults)

-- so many words were drawn, or fewer and then a draw failed
pub record DrawsWords {E : Type 0} (old new : Ends) (count : ℕ) (result : Result Words4 E) : Type 0 where
  pub words : List ℕ
  pub same : new ≡ record old { words = new.words; draw_faults = new.draw_faults }
  pub shifted : IsShifted old.words new.words words
  pub kept : old.draw_faults ≤ new.draw_faults
  pub drawn : MatchResult result (λ four. (length words ≡ count) × (four ≡ four_words words))
      (λ _. (length words < count) × (new.draw_faults < 2 ^ 64 - 1 → old.draw_faults + 1 ≤ new.draw_faults))
