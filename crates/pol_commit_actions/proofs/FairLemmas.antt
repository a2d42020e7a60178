-- The rules of commits and of renaming are fair: none tells that the run is full, and each is judged alike in the live
-- part of a sound state.
use Rattle.std.proofs.Common.{◌≡◌, ℕ, ◌+◌, false, nat_eq, List, [], ◌∷◌, ◌++◌, flat_map, length, map, Option, None, Some, Result, Ok, Err, refl}
use Rattle.std.specs.List.{AllByRecursion, position}
use Rattle.std.specs.Option.{option_map}
use Rattle.pol_commands.specs.Reply.{is_full}
use Rattle.pol_commands.specs.declared.command.Command.{Command}
use Rattle.pol_commands.specs.declared.commit.Commit.{Commit}
use Rattle.pol_commands.specs.declared.reply.Quantity.TheVariants as quantity
use Rattle.pol_commands.specs.declared.reply.Refusal.{Refusal}
use Rattle.pol_commands.specs.declared.reply.Refusal.TheVariants.{BadLocation, Limit, LocationOverlap, RequirementFailed, TableTwice}
use Rattle.pol_content.specs.declared.rows.CatalogRow.{CatalogRow}
use Rattle.pol_meta.specs.declared.metadata.TableMetadata.{TableMetadata}
use Rattle.pol_state.specs.Bounds.{first_refusal, table_limits, table_over_limit}
use Rattle.pol_state.specs.Rows.{Rows}
use Rattle.pol_rules.specs.Live.{live_part}
use Rattle.pol_rules.specs.Rules.{no_namespace, time_of}
use Rattle.pol_rules.specs.TableRules.{location_outside, no_table}
use Rattle.pol_rules.proofs.FairLemmas.{◌⊳◌, AreFair, IsFair, fair-caller, fair-inside, fair-location_outside, fair-need, fair-no_catalogue, fair-no_namespace, fair-no_table, fair-same}
use Rattle.pol_rules.proofs.RulesLemmas.{either-other, first-other, refuse_if-other, tells_full}
use Rattle.pol_table_rows.specs.Tables.{overlapping}
use Rattle.pol_table_rows.specs.declared.row.TableRow.{TableRow}
use Rattle.pol_updates.specs.Updates.{Place}
use Rattle.pol_updates.specs.declared.update.Update.{Update}
use Rattle.pol_updates.specs.declared.update.Update.TheVariants as update
use Rattle.pol_commit_actions.specs.Commits.{commits_in, committing, tables_committed}
use Rattle.pol_commit_actions.specs.Outcome.{CommitTo, CommittedTable, and_others, commit_outcome, is_moved, made_from, made_in, moved, refused_by, rows_after, tables_left, told_at, unless, unmet_from, unmet_in}
use Rattle.pol_commit_actions.specs.Rules.{any_over_limit, any_unserved, bad_location_from, commits_at, misplaced, moved_onto, moved_outside, no_namespaces, no_tables, overlap_among, table_twice, twice_after, unserved}

-- what is told of what was found
mapped-other : {A : Type 0} (found : Option A) (why : A → Refusal) → ((one : A) → is_full (why one) ≡ false) → tells_full (option_map why found) ≡ false
mapped-other None why other = refl
mapped-other (Some one) why other = other one

-- a rule on each of several
each-other : {A : Type 0} (rule : A → Option Refusal) → ((one : A) → tells_full (rule one) ≡ false) → (all : List A) → AllByRecursion (λ one. tells_full one ≡ false) (map rule all)
each-other rule other [] = tt
each-other rule other (one ∷ all) = (other one, each-other rule other all)

first-of : {A : Type 0} (rule : A → Option Refusal) → ((one : A) → tells_full (rule one) ≡ false) → (all : List A) → tells_full (first_refusal (map rule all)) ≡ false
first-of rule other all = first-other (map rule all) (each-other rule other all)

-- tables that are named twice
twice-other : (before ids : List ℕ) → tells_full (twice_after before ids) ≡ false
unfolding twice_after
twice-other before [] = refl
twice-other before (id ∷ ids) =
    either-other (option_map (λ first. TableTwice first (length before)) (position (nat_eq id) before)) (twice_after (before ++ id ∷ []) ids)
    (mapped-other (position (nat_eq id) before) (λ first. TableTwice first (length before)) (λ first. refl)) (twice-other (before ++ id ∷ []) ids)

-- what an outcome refuses
unmet-other : (table : ℕ) (commits : List CommitTo) → tells_full (unmet_from table commits) ≡ false
unfolding unmet_from
unmet-other table [] = refl
unmet-other table (one ∷ others) =
    either-other (option_map (RequirementFailed table) (unmet_in one)) (unmet_from (table + 1) others)
    (mapped-other (unmet_in one) (RequirementFailed table) (λ requirement. refl)) (unmet-other (table + 1) others)

told-other : (table : ℕ) (made : Result TableMetadata Place) → tells_full (refused_by (told_at table made)) ≡ false
told-other table (Ok made) = refl
told-other table (Err place) = refl

joined-other : (first : Result TableMetadata Refusal) (others : Result (List TableMetadata) Refusal) → tells_full (refused_by first) ≡ false → tells_full (refused_by others) ≡ false → tells_full (refused_by (and_others first others)) ≡ false
joined-other (Err why) others other also = other
joined-other (Ok made) (Err why) other also = also
joined-other (Ok made) (Ok more) other also = refl

made-other : (time table : ℕ) (commits : List CommitTo) → tells_full (refused_by (made_from time table commits)) ≡ false
unfolding made_from
made-other time table [] = refl
made-other time table (one ∷ others) =
    joined-other (told_at table (made_in time one)) (made_from time (table + 1) others) (told-other table (made_in time one)) (made-other time (table + 1) others)

unless-other : {A : Type 0} (first : Option Refusal) (outcome : Result A Refusal) → tells_full first ≡ false → tells_full (refused_by outcome) ≡ false → tells_full (refused_by (unless first outcome)) ≡ false
unless-other None outcome other also = also
unless-other (Some why) outcome other also = other

outcome-other : (time : ℕ) (commits : List CommitTo) → tells_full (refused_by (commit_outcome time commits)) ≡ false
unfolding commit_outcome
outcome-other time commits =
    unless-other (unmet_from 0 commits) (made_from time 0 commits) (unmet-other 0 commits) (made-other time 0 commits)

-- where tables lie
location-other : (table : ℕ) (tables : List CommittedTable) → tells_full (bad_location_from table tables) ≡ false
unfolding bad_location_from
location-other table [] = refl
location-other table (one ∷ others) =
    either-other (option_map (BadLocation table) (misplaced (is_moved one) one.after.metadata.location)) (bad_location_from (table + 1) others)
    (mapped-other (misplaced (is_moved one) one.after.metadata.location) (BadLocation table) (λ why. refl)) (location-other (table + 1) others)

overlap-other : (tables : List TableRow) (row : TableRow) → tells_full (overlap_among tables row) ≡ false
unfolding overlap_among
overlap-other tables row =
    mapped-other (overlapping row.location (row.id ∷ []) tables) (λ (other : TableRow). LocationOverlap row.location other.location) (λ other. refl)

-- updates that aren't served
unserved-other : (one : Update) → tells_full (unserved one) ≡ false
unserved-other (update.AssignUuid uuid) = refl
unserved-other (update.UpgradeFormatVersion version) = refl
unserved-other (update.AddSchema schema) = refl
unserved-other (update.SetCurrentSchema member) = refl
unserved-other (update.AddSpec spec) = refl
unserved-other (update.SetDefaultSpec member) = refl
unserved-other (update.AddSortOrder order) = refl
unserved-other (update.SetDefaultSortOrder member) = refl
unserved-other (update.AddSnapshot snapshot) = refl
unserved-other (update.SetSnapshotRef name reference) = refl
unserved-other (update.RemoveSnapshots ids) = refl
unserved-other (update.RemoveSnapshotRef name) = refl
unserved-other (update.SetLocation location) = refl
unserved-other (update.SetProperties updates) = refl
unserved-other (update.RemoveProperties removals) = refl
unserved-other (update.RemovePartitionSpecs ids) = refl
unserved-other (update.RemoveSchemas ids) = refl
unserved-other (update.Unsupported action) = refl

-- bounds
over-other : (row : TableRow) → tells_full (table_over_limit row) ≡ false
unfolding table_over_limit
over-other row =
    first-other (table_limits row)
    (refuse_if-other _ _ refl, (refuse_if-other _ _ refl, (refuse_if-other _ _ refl, (refuse_if-other _ _ refl, (refuse_if-other _ _ refl, (refuse_if-other _ _ refl, (refuse_if-other _ _ refl, (refuse_if-other _ _ refl, tt))))))))

module _ {s : Rows} where
  fair-no_namespaces : (commits : List Commit) (catalog : CatalogRow) → IsFair s (no_namespaces s commits catalog) (no_namespaces (live_part s) commits catalog)
  unfolding no_namespaces no_namespace
  fair-no_namespaces commits catalog =
      fair-same (first-of (λ (commit : Commit). no_namespace s catalog.id commit.identifier.namespace) (λ commit. (fair-no_namespace {s = s} catalog.id commit.identifier.namespace).other) commits)

  fair-no_tables : (commits : List Commit) (catalog : CatalogRow) → IsFair s (no_tables s commits catalog) (no_tables (live_part s) commits catalog)
  unfolding no_tables no_table
  fair-no_tables commits catalog =
      fair-same (first-of (λ (commit : Commit). no_table s commit.identifier catalog) (λ commit. (fair-no_table {s = s} commit.identifier catalog).other) commits)

  fair-table_twice : (commits : List CommitTo) → IsFair s (table_twice commits) (table_twice commits)
  unfolding table_twice
  fair-table_twice commits = fair-same (twice-other [] (map (λ (one : CommitTo). one.row.id) commits))

  fair-moved_outside : (tables : List CommittedTable) (catalog : CatalogRow) → IsFair s (moved_outside tables catalog) (moved_outside tables catalog)
  unfolding moved_outside
  fair-moved_outside tables catalog =
      fair-same (first-of (λ (one : CommittedTable). location_outside one.after.location catalog) (λ one. (fair-location_outside {s = s} one.after.location catalog).other) (moved tables))

  fair-moved_onto : (tables : List CommittedTable) → IsFair s (moved_onto s tables) (moved_onto (live_part s) tables)
  unfolding moved_onto
  fair-moved_onto tables =
      fair-same (first-of (λ (one : CommittedTable). overlap_among (tables_left (rows_after tables) s.content.tables) one.after) (λ one. overlap-other (tables_left (rows_after tables) s.content.tables) one.after) (moved tables))

  fair-any_unserved : (commits : List Commit) → IsFair s (any_unserved commits) (any_unserved commits)
  unfolding any_unserved
  fair-any_unserved commits = fair-same (first-of unserved unserved-other (flat_map (λ (commit : Commit). commit.updates) commits))

  fair-any_over_limit : (tables : List CommittedTable) → IsFair s (any_over_limit tables) (any_over_limit tables)
  unfolding any_over_limit
  fair-any_over_limit tables =
      fair-same (first-of (λ (one : CommittedTable). table_over_limit one.after) (λ one. over-other one.after) tables)

  -- all rules of commits
  pub fair-committing : (command : Command) (name : List ℕ) (commits : List Commit) {rules live : List (Option Refusal)} → AreFair s rules live → AreFair s (committing s command name commits rules) (committing (live_part s) command name commits live)
  unfolding commits_at commits_in tables_committed
  fair-committing command name commits fair =
      fair-caller command
      ⊳ fair-no_catalogue name
      ⊳ fair-inside name (λ catalog. fair-need command _)
      ⊳ fair-inside name (fair-no_namespaces commits)
      ⊳ fair-inside name (fair-no_tables commits)
      ⊳ fair-table_twice (commits_in s name commits)
      ⊳ fair-same (outcome-other (time_of s command) (commits_in s name commits))
      ⊳ fair-same (location-other 0 (tables_committed s command name commits))
      ⊳ fair-inside name (fair-moved_outside (tables_committed s command name commits))
      ⊳ fair-moved_onto (tables_committed s command name commits)
      ⊳ fair-any_unserved commits
      ⊳ fair-same (refuse_if-other _ (Limit quantity.TransactionTables 100) refl)
      ⊳ fair-any_over_limit (tables_committed s command name commits)
      ⊳ fair
