-- What came of an example that was played.
use Rattle.std.specs.Prelude.{◌≡◌, ◌≢◌, ◌↔◌, ℕ, List, [], Option, Some, None, All, IfSome, length}
use Rattle.pol_cli.specs.Run.{IsExec, RunsExec, RunsInit}
use Rattle.pol_disk.specs.Content.{IsImage}
use Rattle.pol_disk.specs.MemoryDisk.{LeftSince, MemoryState}
use Rattle.pol_examples.specs.Comparing.{Agrees, AreHeld}
use Rattle.pol_examples.specs.declared.example.Example.{Example}
use Rattle.pol_examples.specs.declared.settings.Settings.{Settings}
use Rattle.pol_cli.specs.Serving.{RunsLink}
use Rattle.pol_server.specs.Ends.{Ends}
use Rattle.pol_cli.specs.Causes.{HasCause, IsDecided, IsUnfailing}
use Rattle.pol_cli.specs.Disks.{Both, Tells, both_told, tells_of}
use Rattle.pol_cli.specs.Reasons.{report_of, status_of}
use Rattle.pol_cli.specs.Told.{reason_text}
use Rattle.pol_cli.specs.declared.reason.Reason.TheVariants.{Usage}
use Rattle.pol_cli.specs.declared.report.Report.{Report}
use Rattle.pol_values.specs.Values.{Differs, IsAsWanted}
use Rattle.pol_values.specs.declared.difference.Difference.{Difference}
use Rattle.pol_wire.specs.CountingDraw.{counted_words, first_count}
use Rattle.pol_wire.specs.MemoryClock.{ClockState, first_clock, moments_of}
use Rattle.pol_wire.specs.MemoryDraw.{first_draw, words_left}
use Rattle.pol_wire.specs.MemorySink.{SinkState}
use Rattle.pol_wire.specs.MemorySource.{SourceState, left_of}
use Rattle.pol_wire.specs.declared.link.Link.{Link}
use Rattle.pol_words.specs.Words.{Means, MeansNothing}
use Rattle.pol_words.specs.declared.plan.Plan.{Plan}
use Rattle.pol_words.specs.declared.plan.Plan.TheVariants.{Exec, ExecFresh, Init}
use Rattle.pol_player.specs.Disks.{BothBegin, BothFirst}
use Rattle.pol_player.specs.declared.disks.Disks.{Disks}
use Rattle.pol_player.specs.declared.disks.Files.{Files}

-- what a disk in memory tells
abbrev pub memory_tells : Tells MemoryState
memory_tells = tells_of (λ d. Some d.content.seen) (λ d. Some (length d.content.seen)) (λ d. IsImage d.content) (λ d. length d.past) LeftSince (λ d. d.calls.faults)

-- what both disks tell of a run
abbrev pub disks_told : Disks → Disks → Both
disks_told disks left = both_told memory_tells memory_tells disks.catalogue left.catalogue disks.objects left.objects

-- the program was run with a line of words over a link and both disks, and reported this
pub record Ran (words : List (List ℕ)) (before after : Ends) (disks left : Disks) (report : Report) : Type 0 where
  pub usage : MeansNothing words → (report ≡ report_of Usage []) × (after ≡ before) × (left ≡ disks)
  pub exec_fresh : (secret : List ℕ) → Means words (ExecFresh secret) → RunsLink secret before after report
  pub apart : (secret : List ℕ) → Means words (ExecFresh secret) → left ≡ disks
  pub exec : (catalogue objects : List ℕ) → Means words (Exec catalogue objects)
      → RunsExec memory_tells memory_tells disks.catalogue left.catalogue disks.objects left.objects before after report
  pub init : (catalogue objects : List ℕ) → Means words (Init catalogue objects)
      → RunsInit memory_tells memory_tells disks.catalogue left.catalogue disks.objects left.objects before after report
  pub untouched : (plan : Plan) → Means words plan → IsExec plan → report.served ≡ [] → after ≡ before
  pub cause : HasCause before after (disks_told disks left) report.reason
  pub complete : IsUnfailing before after (disks_told disks left) → IsDecided report.reason
  pub status : report.status ≡ status_of report.reason
  pub faulty : report.reason ≡ Usage → MeansNothing words

-- the words that an example's draw gives
abbrev pub drawn_of : Option (List ℕ) → List ℕ → Option (ℕ → ℕ)
drawn_of None failing = Some (counted_words (first_count failing))
drawn_of (Some words) failing = Some (words_left (first_draw words failing))

-- what the ends of a link in memory tell
abbrev pub memory_ends : {W : Type 0} → (W → Option (ℕ → ℕ)) → (W → ℕ) → Link SourceState SinkState ClockState W → Ends
memory_ends words faults link = record {
  left = Some (left_of link.source);
  given = Some link.sink.bytes;
  moments = Some (moments_of link.clock);
  words = words link.words;
  source_faults = link.source.calls.faults;
  sink_faults = link.sink.calls.faults;
  draw_faults = faults link.words;
}

-- the ends of the link before an example is played
abbrev pub ends_before : List ℕ → List ℕ → Option (ℕ → ℕ) → ℕ → Ends
ends_before input moments words faults = record {
  left = Some input;
  given = Some [];
  moments = Some (moments_of (first_clock moments));
  words = words;
  source_faults = 0;
  sink_faults = 0;
  draw_faults = faults;
}

-- a run begins with these ends, and with both disks over these files
pub record BeginsAs (settings : Settings) (files : Files) (before ends : Ends) (disks : Disks) : Type 0 where
  pub ends_are : ends ≡ before
  pub disks_are : BothFirst settings files disks

-- what came of a run is what an example wants: its output and its end, and what both disks hold then
pub record IsAsSaid (example : Example) (output : List ℕ) (status : ℕ) (reason catalogue objects : List ℕ) : Type 0 where
  pub came : Agrees example output status reason
  pub held : AreHeld example.holds catalogue objects

-- A run of the program over these ends and files gave an output and a report, and left both disks so. What came differs
-- from what an example wants exactly where there is a difference
pub record IsPlayedOver (example : Example) (before : Ends) (files : Files) (left : Option Disks) (difference : Option Difference) : Type 0 where
  pub after : Ends
  pub report : Report
  pub output : List ℕ
  pub disks : Disks
  pub disks_left : Disks
  pub begins : BothFirst example.settings files disks
  pub ran : Ran example.settings.words before after disks disks_left report
  pub given : after.given ≡ Some output
  pub left_is : left ≡ Some disks_left
  pub compared : (difference ≡ None)
      ↔ IsAsSaid example output report.status (reason_text report.reason) disks_left.catalogue.content.seen disks_left.objects.content.seen

-- an example was played by a run
abbrev pub IsPlayed : Example → Files → Option Disks → Option Difference → Type 0
IsPlayed example = IsPlayedOver example (ends_before example.script.input.items example.settings.moments.items
    (drawn_of example.settings.drawn example.settings.draws.items) 0)

-- an example was played by a run over the disks as the run above it left them
pub record IsRun (example : Example) (above left : Option Disks) (difference : Option Difference) : Type 0 where
  pub files : Files
  pub begin : BothBegin example.settings above files
  pub played : IsPlayed example files left difference

-- each of an example's values is told to be what is wanted where there is no difference, and one of them is another
-- where there is one
pub record AreTold (example : Example) (difference : Option Difference) : Type 0 where
  pub agree : difference ≡ None → All IsAsWanted example.values.items
  pub differ : IfSome difference (λ shown. Differs example.values.items shown.line)

-- what came of an example: by a run where it has no values, and by its values otherwise, which leave the disks
pub record IsOutcome (example : Example) (above left : Option Disks) (difference : Option Difference) : Type 0 where
  pub run : example.values.items ≡ [] → IsRun example above left difference
  pub values : example.values.items ≢ [] → AreTold example difference
  pub stay : example.values.items ≢ [] → left ≡ above
