-- A disk in memory.
use Rattle.std.specs.Prelude.{ℕ, ◌≡◌, ◌⊎◌, true, List, [], ◌∷◌, ◌++◌, length, get_or, drop}
use mathlib.Core.Logic.{inl, inr}
use Rattle.pol_wire.specs.Calls.{CallLog, first_log, log_after}
use Rattle.pol_disk.specs.Content.{ContentState, IsImage, settled}

-- what it holds, what it held at each earlier moment, and the calls
pub record MemoryState : Type 0 where
  pub content : ContentState
  pub past : List ContentState
  pub calls : CallLog

-- what a crash at one of these moments may leave
abbrev pub WasImage : List ContentState → List ℕ → Type 0
WasImage [] image = ⊥
WasImage (content ∷ past) image = IsImage content image ⊎ WasImage past image

-- what a crash at a moment from this one on may have left
abbrev pub LeftSince : MemoryState → ℕ → List ℕ → Type 0
LeftSince disk t image = IsImage disk.content image ⊎ WasImage (drop t disk.past) image

-- before the first call
abbrev pub first_disk : List ℕ → List ℕ → MemoryState
first_disk bytes failing = record { content = settled bytes; past = []; calls = first_log failing }

-- what it held at a moment
abbrev pub content_at : MemoryState → ℕ → ContentState
content_at disk t = get_or disk.past t disk.content

-- one moment later, with this content
abbrev pub later_with : ContentState → MemoryState → MemoryState
later_with content disk = record disk { content = content; past = disk.past ++ disk.content ∷ [] }

-- after a call that failed: one moment later with this content and one fault more, or, for want of memory, nothing
-- but the calls has changed
abbrev pub IsRefused : ContentState → MemoryState → MemoryState → Type 0
IsRefused content old new =
    (new ≡ record (later_with content old) { calls = log_after old.calls true }) ⊎ (new ≡ record old { calls = new.calls })

none_was : (past : List ContentState) (image : List ℕ) → WasImage (drop (length past) past) image → ⊥
none_was [] image was = was
none_was (content ∷ past) image was = none_was past image was

-- since this moment there is no other
pub only_this : (disk : MemoryState) (image : List ℕ) → LeftSince disk (length disk.past) image → IsImage disk.content image
only_this disk image (inl here) = here
only_this disk image (inr was) = absurd (none_was disk.past image was)
