-- Which versions are left after a list of updates, and which entries of the log.
use Rattle.std.specs.Prelude.{◌==◌, ◌&&◌, ◌-◌, ℕ, Bool, not, nat_lt, List, count_by, filter, length}
use Rattle.std.specs.List.{suffix_len}
use Rattle.pol_drafts.specs.Ids.{has_id}
use Rattle.pol_updates.specs.Updates.{last_items}
use Rattle.pol_views.specs.Valid.{version_ids}
use Rattle.pol_views.specs.declared.log.VersionLogEntry.{VersionLogEntry}
use Rattle.pol_views.specs.declared.version.ViewVersion.{ViewVersion}

-- the ids of the versions that aren't current
abbrev pub other_ids : ℕ → List ViewVersion → List ℕ
other_ids current versions = filter (λ id. not (id == current)) (version_ids versions)

-- how many of these ids are lower
abbrev pub lower : ℕ → List ℕ → ℕ
lower id ids = count_by (λ other. nat_lt other id) ids

-- whether a version is one of so many that go: those of the least ids among the ones that aren't current
abbrev pub goes : ℕ → List ℕ → ℕ → ℕ → Bool
goes current others surplus id = not (id == current) && nat_lt (lower id others) surplus

-- where there are more than 100 versions, those of the least ids that aren't current go, so many that 100 are left
abbrev pub versions_left : ℕ → List ViewVersion → List ViewVersion
versions_left current versions =
    filter (λ version. not (goes current (other_ids current versions) (length versions - 100) version.version_id)) versions

-- whether the version of an entry is there
abbrev pub is_there : List ViewVersion → VersionLogEntry → Bool
is_there versions entry = has_id entry.version_id (version_ids versions)

-- the longest end of a log whose versions are all there
abbrev pub log_left : List ViewVersion → List VersionLogEntry → List VersionLogEntry
log_left versions log = last_items (suffix_len (is_there versions) log) log
