-- The table of requests, as contracts see its rows.
use Rattle.std.specs.Prelude.{ℕ, List, map}
use Rattle.std.specs.Borrow.{Bor}
use Rattle.pol_requests.specs.declared.table.Service.{Service}
use Rattle.pol_requests.specs.declared.table.TheConstants.{TABLE}

-- a method of a path, and how requests of both are served
pub record Entry : Type 0 where
  pub method : List ℕ
  pub path : List ℕ
  pub service : Service

-- a row as a contract sees it
abbrev pub entry_of : Bor (List ℕ) × Bor (List ℕ) × Service → Entry
entry_of row = record { method = row.0.now; path = row.1.now; service = row.2 }

-- the table's rows
unfoldable pub table : List Entry
table = map (λ row. record { method = row.0.now; path = row.1.now; service = row.2 }) TABLE
