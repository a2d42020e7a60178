-- Which metadata of views have a form.
use Rattle.pol_views.specs.Valid.{IsValidView}
use Rattle.pol_views.specs.declared.metadata.ViewMetadata.{ViewMetadata}
use Rattle.pol_viewcodec.specs.Views.{view}

-- none that isn't valid
abbrev pub ViewsAreValid : Type 0
ViewsAreValid = (meta : ViewMetadata) → view.holds meta → IsValidView meta
