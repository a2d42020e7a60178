-- Whether a request asks for a storage token (Iceberg REST OpenAPI, parameter X-Iceberg-Access-Delegation).
use Rattle.std.specs.Prelude.{ℕ, Bool, true, false, List, codes}
use Rattle.pol_http.specs.Fields.{lists}
use Rattle.pol_requests.specs.declared.endpoint.Endpoint.{Endpoint}
use Rattle.pol_requests.specs.declared.endpoint.Endpoint.TheVariants.{OpenSession, Content, Namespace, Table, View, Catalog, Principal, PrincipalRole, CatalogRole, Object}
use Rattle.pol_requests.specs.declared.endpoint.NamespaceRequest.{NamespaceRequest}
use Rattle.pol_requests.specs.declared.endpoint.NamespaceRequest.TheVariants.{LoadNamespace, HeadNamespace, DropNamespace, UpdateProperties, ListTables, CreateTable, ListViews, CreateView}
use Rattle.pol_requests.specs.declared.endpoint.TableRequest.{TableRequest}
use Rattle.pol_requests.specs.declared.endpoint.TableRequest.TheVariants.{LoadTable, HeadTable, CommitTable, DropTable, ReportMetrics, LoadCredentials}

-- some field of that name lists the word, in any case
abbrev pub is_delegated : List (List ℕ × List ℕ) → Bool
is_delegated fields = lists (codes "x-iceberg-access-delegation") (codes "vended-credentials") fields

-- how many random words a request draws: the loading of a table draws two for a storage token
abbrev pub if_delegated : Bool → ℕ → ℕ
if_delegated false words = words
if_delegated true words = 2

abbrev pub on_table_drawn : TableRequest → Bool → ℕ → ℕ
on_table_drawn LoadTable delegated words = if_delegated delegated words
on_table_drawn LoadCredentials delegated words = words
on_table_drawn HeadTable delegated words = words
on_table_drawn CommitTable delegated words = words
on_table_drawn DropTable delegated words = words
on_table_drawn ReportMetrics delegated words = words

abbrev pub words_drawn : Endpoint → Bool → ℕ → ℕ
words_drawn OpenSession delegated words = words
words_drawn (Content asked) delegated words = words
words_drawn (Namespace asked) delegated words = words
words_drawn (Table asked) delegated words = on_table_drawn asked delegated words
words_drawn (View asked) delegated words = words
words_drawn (Catalog asked) delegated words = words
words_drawn (Principal asked) delegated words = words
words_drawn (PrincipalRole asked) delegated words = words
words_drawn (CatalogRole asked) delegated words = words
words_drawn (Object asked) delegated words = words
