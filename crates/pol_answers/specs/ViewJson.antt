-- The JSON of answers on views (Iceberg REST OpenAPI).
use Rattle.std.specs.Prelude.{ℕ, List}
use Rattle.serde_json.specs.Data.{Data}
use Rattle.pol_views.specs.declared.metadata.ViewMetadata.{ViewMetadata}
use Rattle.pol_viewjson.specs.Json.{view_json}
use Rattle.pol_answers.specs.TableJson.{committed_object}

-- a view with its metadata, which is at this place (LoadViewResult)
abbrev pub shown_json : List ℕ → ViewMetadata → Data
shown_json place meta = committed_object place (view_json meta)
