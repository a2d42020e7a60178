-- Laws of the table.
use Rattle.std.specs.Prelude.{◌≡◌, nat_lt, ℕ, Bool, [], ◌∷◌, map, filter}
use Rattle.pol_requests.specs.declared.endpoint.Endpoint.{Endpoint}
use Rattle.pol_requests.specs.declared.endpoint.Endpoint.TheVariants.{OpenSession, Namespace, Principal, Table}
use Rattle.pol_requests.specs.declared.endpoint.NamespaceRequest.TheVariants.{CreateTable, CreateView}
use Rattle.pol_requests.specs.declared.endpoint.PrincipalRequest.TheVariants.{CreatePrincipal, Rotate}
use Rattle.pol_requests.specs.declared.endpoint.TableRequest.TheVariants.{LoadCredentials}
use Rattle.pol_requests.specs.declared.table.Service.{Service}
use Rattle.pol_requests.specs.Table.{table}

-- a request that is served so draws random words
abbrev pub draws : Service → Bool
draws service = nat_lt 0 service.words

abbrev pub asks : Endpoint → ℕ → Service
asks endpoint words = record { endpoint = endpoint; words = words }

-- the requests of the table that draw random words, and how many each draws: a token is made of two, the uuid of a new
-- table of two of its four and that of a new view of two, the client id of a new principal of one, and each secret of two
abbrev pub WordsAreThose : Type 0
WordsAreThose =
    filter draws (map (λ row. row.service) table)
    ≡ asks OpenSession 2 ∷ asks (Namespace CreateTable) 4 ∷ asks (Table LoadCredentials) 2 ∷ asks (Namespace CreateView) 2 ∷ asks (Principal CreatePrincipal) 3 ∷ asks (Principal Rotate) 2 ∷ []
