-- What a run of `exec` reports of the one link that it serves.
use Rattle.std.specs.Prelude.{◌≡◌, ◌⊎◌, ℕ, List, [], ◌∷◌}
use Rattle.pol_journal.specs.Format.{extent}
use Rattle.pol_server.specs.Opened.{fresh_bodies, seen_new}
use Rattle.pol_server.specs.Both.{BothGoOnAlone, SeenBoth}
use Rattle.pol_server.specs.Ends.{Ends}
use Rattle.pol_server.specs.Link.{ServesLink}
use Rattle.pol_server.specs.declared.served.Served.{Served}
use Rattle.pol_object_store.specs.ObjectHistory.{no_objects}
use Rattle.pol_cli.specs.Reasons.{reason_of, report_of}
use Rattle.pol_cli.specs.declared.reason.Reason.TheVariants.{NoMemory}
use Rattle.pol_cli.specs.declared.report.Report.{Report}
use Rattle.pol_state.specs.Rows.{fresh_state}

-- the link was served by the founding passes, and is reported by how it ended
pub record IsServed (old : SeenBoth) (before after : Ends) (new : SeenBoth) (report : Report) : Type 0 where
  pub served : Served
  pub link : ServesLink before after old new served
  pub report_is : report ≡ report_of (reason_of served.ending) (record { worker = 0; served = served } ∷ [])

-- the link was served, or memory was wanting before it was called
abbrev pub Serves : SeenBoth → Ends → Ends → SeenBoth → Report → Type 0
Serves old before after new report =
    IsServed old before after new report ⊎ ((after ≡ before) × (new ≡ old) × (report ≡ report_of NoMemory []))

-- what the founding passes, the only ones, have seen of a fresh catalogue of this root secret and of no objects
abbrev pub seen_fresh : List ℕ → SeenBoth
seen_fresh secret = record {
  catalogue = seen_new (fresh_state secret) (extent (fresh_bodies secret));
  objects = seen_new no_objects (extent []);
}

-- no call was failed by a disk, so that no request is answered Unknown or DiskFault
pub record HasNoMarks (seen : SeenBoth) : Type 0 where
  pub catalogue : seen.catalogue.failed ≡ 0
  pub objects : seen.objects.failed ≡ 0

-- what a run over a fresh catalogue of this root secret and no objects reports, and does to its link. Nobody else
-- enters anything, and its own disks, which keep nothing, never fail
pub record RunsLink (secret : List ℕ) (before after : Ends) (report : Report) : Type 0 where
  pub new : SeenBoth
  pub serves : Serves (seen_fresh secret) before after new report
  pub alone : BothGoOnAlone (seen_fresh secret) new
  pub unmarked : HasNoMarks new
