-- Bodies as requests read them.
use Rattle.std.specs.Prelude.{◌≡◌, Result, Ok, Err}
use Rattle.pol_readers.specs.declared.error.ReadError.{ReadError}
use Rattle.pol_readers.specs.declared.error.ReadError.TheVariants as read
use Rattle.pol_readers.specs.Path.{path_text}
use Rattle.pol_readers.specs.Reading.{Reading}
use Rattle.pol_requests.specs.Refused.{IsRefused}
use Rattle.pol_requests.specs.declared.refused.RouteRefused.{RouteRefused}
use Rattle.pol_requests.specs.declared.refused.RouteRefused.TheVariants.{Unreadable}
use Rattle.pol_requests.specs.declared.refused.Unplanned.{Unplanned}
use Rattle.pol_requests.specs.declared.refused.Unplanned.TheVariants.{OutOfMemory}

-- what a body is read as; its first bad field is told by the text of its path
unfoldable pub body_of : {A : Type 0} → Reading A → Result A RouteRefused
body_of (Ok read) = Ok read
body_of (Err path) = Err (Unreadable (path_text path))

-- why a body isn't read, or memory was wanting
abbrev pub IsUnread : ReadError → Unplanned → Type 0
IsUnread (read.Field path) why = IsRefused (Unreadable (path_text path)) why
IsUnread read.OutOfMemory why = why ≡ OutOfMemory
