-- A request whose row of the table is found, and what its path names.
use Rattle.std.specs.Prelude.{ℕ, Bool, List, Result}
use Rattle.pol_requests.specs.declared.refused.RouteRefused.{RouteRefused}
use Rattle.pol_routes.specs.declared.routed.Routed.{Routed}
use Rattle.pol_routes.specs.declared.routed.TheConstants.{NAMESPACE}
use Rattle.pol_routes.specs.Segment.{segment_for, name_segment, plain_segment, namespace_segment}
use Rattle.pol_routes.specs.Target.{path_of}

-- the path of its row, which is the pattern of its own, what it sent, and whether its fields ask for a storage token
pub record Request : Type 0 where
  pub pattern : List ℕ
  pub target : List ℕ
  pub body : List ℕ
  pub delegated : Bool

-- a request as a contract sees it
abbrev pub request_of : Routed → Request
request_of routed = record { pattern = routed.pattern.now; target = routed.target.now; body = routed.body.now; delegated = routed.delegated }

-- the plain name that its path has for a parameter, the namespace that it has, and the name of a table or a view that
-- it has for a parameter
unfoldable pub plain : List ℕ → Request → Result (List ℕ) RouteRefused
plain parameter request = plain_segment (segment_for parameter request.pattern (path_of request.target))

unfoldable pub namespace : Request → Result (List (List ℕ)) RouteRefused
namespace request = namespace_segment (segment_for NAMESPACE.now request.pattern (path_of request.target))

unfoldable pub part : List ℕ → Request → Result (List ℕ) RouteRefused
part parameter request = name_segment (segment_for parameter request.pattern (path_of request.target))
