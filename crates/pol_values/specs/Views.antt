-- What the body that creates a view tells, what a metadata of a view does, and what a commit to one does.
use Rattle.std.specs.Prelude.{◌≡◌, ◌⊎◌, ◌++◌, ℕ, List, Option, None, Some, Ok, Err, codes, decimal, not}
use Rattle.std.specs.List.{position}
use Rattle.serde_json.specs.Written.{compact_text}
use Rattle.pol_readers.specs.Forms as form
use Rattle.pol_readers.specs.Path.{path_text}
use Rattle.pol_readers.specs.declared.path.Step.{Step}
use Rattle.pol_updates.specs.Updates.{Place}
use Rattle.pol_views.specs.Creation.{created_view}
use Rattle.pol_views.specs.Requirements.{is_met}
use Rattle.pol_views.specs.Updates.{view_after}
use Rattle.pol_views.specs.declared.metadata.ViewMetadata.{ViewMetadata}
use Rattle.pol_views.specs.declared.request.CreateView.{CreateView}
use Rattle.pol_views.specs.declared.request.ViewCommit.{ViewCommit}
use Rattle.pol_views.specs.declared.requirement.ViewRequirement.{ViewRequirement}
use Rattle.pol_views.specs.declared.update.ViewUpdate.{ViewUpdate}
use Rattle.pol_viewjson.specs.Json.{view_json}
use Rattle.pol_viewjson.specs.Metadata.{view_metadata}
use Rattle.pol_viewjson.specs.Requests.{create_view, view_commit}
use Rattle.pol_values.specs.Commits.{refused_text}
use Rattle.pol_values.specs.Tables.{location_of, uuid}

-- the metadata of a view that is asked for, with one uuid and at one moment
abbrev pub made : CreateView → ViewMetadata
made request =
    created_view uuid (location_of request.location request.name) request.schema request.view_version request.properties 1000

-- a body is told by the JSON of the metadata of the view that it asks for, and what is none by the path to its first bad
-- field
abbrev pub TellsView : List ℕ → List ℕ → Type 0
TellsView body told =
    ((request : CreateView) × (form.body create_view.read body ≡ Ok request) × (told ≡ compact_text (view_json (made request))))
    ⊎ ((path : List Step) × (form.body create_view.read body ≡ Err path) × (told ≡ codes "Unreadable: " ++ path_text path))

-- a metadata is told by the JSON that it is printed as, and what is none by the path to its first bad field
abbrev pub TellsViewMetadata : List ℕ → List ℕ → Type 0
TellsViewMetadata text told =
    ((meta : ViewMetadata) × (form.body view_metadata.read text ≡ Ok meta) × (told ≡ compact_text (view_json meta)))
    ⊎ ((path : List Step) × (form.body view_metadata.read text ≡ Err path) × (told ≡ codes "Unreadable: " ++ path_text path))

-- the place of the first requirement that doesn't hold of a metadata
abbrev pub unmet_of_view : ViewMetadata → List ViewRequirement → Option ℕ
unmet_of_view meta requirements = position (λ requirement. not (is_met meta requirement)) requirements

-- updates are told by the JSON of the metadata after them, and those of which one is refused by the first such
abbrev pub TellsViewUpdates : ViewMetadata → List ViewUpdate → List ℕ → Type 0
TellsViewUpdates meta updates told =
    ((changed : ViewMetadata) × (view_after meta updates 2000 ≡ Ok changed) × (told ≡ compact_text (view_json changed)))
    ⊎ ((refused : Place) × (view_after meta updates 2000 ≡ Err refused) × (told ≡ refused_text refused))

-- a commit is told by its first requirement that doesn't hold, and where all hold by its updates
abbrev pub TellsViewChange : ViewMetadata → ViewCommit → List ℕ → Type 0
TellsViewChange meta commit told =
    ((place : ℕ) × (unmet_of_view meta commit.requirements ≡ Some place) × (told ≡ codes "Unmet: " ++ decimal place))
    ⊎ ((unmet_of_view meta commit.requirements ≡ None) × TellsViewUpdates meta commit.updates told)

-- a body is told by the commit that it is, and what is none by the path to its first bad field
abbrev pub TellsViewBody : ViewMetadata → List ℕ → List ℕ → Type 0
TellsViewBody meta body told =
    ((commit : ViewCommit) × (form.body view_commit.read body ≡ Ok commit) × TellsViewChange meta commit told)
    ⊎ ((path : List Step) × (form.body view_commit.read body ≡ Err path) × (told ≡ codes "Unreadable: " ++ path_text path))

-- a commit is told of a metadata that can be read
abbrev pub TellsViewCommit : List ℕ → List ℕ → List ℕ → Type 0
TellsViewCommit text body told =
    (meta : ViewMetadata) × (form.body view_metadata.read text ≡ Ok meta) × TellsViewBody meta body told
