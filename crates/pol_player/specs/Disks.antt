-- What the disks of an example hold at its start.
use Rattle.std.specs.Prelude.{◌≡◌, ℕ, List, [], Option, Some, None, option_map}
use Rattle.pol_disk.specs.Content.{IsImage}
use Rattle.pol_disk.specs.MemoryDisk.{MemoryState, first_disk}
use Rattle.pol_examples.specs.declared.files.Start.{Start}
use Rattle.pol_examples.specs.declared.files.Start.TheVariants.{Said, Kept, Crashed}
use Rattle.pol_examples.specs.declared.settings.Settings.{Settings}
use Rattle.pol_player.specs.declared.disks.Disks.{Disks}
use Rattle.pol_player.specs.declared.disks.Files.{Files}

-- The bytes that a disk begins with: those that are said, those that a read gave of what the run above left, or what a
-- crash may leave of it. Where no run stands above, there are none
abbrev pub BeginsWith : Start → Option MemoryState → List ℕ → Type 0
BeginsWith (Said said) above bytes = bytes ≡ said.items
BeginsWith Kept None bytes = bytes ≡ []
BeginsWith Kept (Some disk) bytes = bytes ≡ disk.content.seen
BeginsWith (Crashed image) None bytes = bytes ≡ []
BeginsWith (Crashed image) (Some disk) bytes = IsImage disk.content bytes

-- both disks begin so
pub record BothBegin (settings : Settings) (above : Option Disks) (files : Files) : Type 0 where
  pub catalogue : BeginsWith settings.catalogue.start (option_map (λ disks. disks.catalogue) above) files.catalogue.items
  pub objects : BeginsWith settings.objects.start (option_map (λ disks. disks.objects) above) files.objects.items

-- both disks before a run over these bytes
pub record BothFirst (settings : Settings) (files : Files) (disks : Disks) : Type 0 where
  pub catalogue : disks.catalogue ≡ first_disk files.catalogue.items settings.catalogue.failing.items
  pub objects : disks.objects ≡ first_disk files.objects.items settings.objects.failing.items
