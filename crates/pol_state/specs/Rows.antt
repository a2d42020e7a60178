-- States: the rows as lists, and the counters beside them.
use Rattle.std.specs.Prelude.{ℕ, List, [], ◌∷◌, codes}
use Rattle.sha2.specs.Sha256.{sha256}
use Rattle.pol_access.specs.Access.{AccessRows}
use Rattle.pol_access.specs.declared.access.AccessRoom.{AccessRoom}
use Rattle.pol_access.specs.declared.rows.PrincipalRoleRow.{PrincipalRoleRow}
use Rattle.pol_access.specs.declared.rows.PrincipalRow.{PrincipalRow}
use Rattle.pol_content.specs.Content.{ContentRows, ContentRoom}
use Rattle.pol_tokens.specs.Tokens.{TokenRows, TokensRoom}

-- a state: the rows of each layer, the time, the next id and the next serial to be given out, and the sum of the
-- charges of this run
pub record Rows : Type 0 where
  pub access : AccessRows
  pub content : ContentRows
  pub tokens : TokenRows
  pub time : ℕ
  pub next_id : ℕ
  pub next_serial : ℕ
  pub charged : ℕ

-- how many more rows of each layer need no memory
pub record Room : Type 0 where
  pub access : AccessRoom
  pub content : ContentRoom
  pub tokens : TokensRoom

-- a state as it is held: its rows, and its room
pub record Held : Type 0 where
  pub rows : Rows
  pub room : Room

-- what is kept of a secret: its SHA-256 digest
unfoldable pub digest_of : List ℕ → List ℕ
digest_of secret = sha256 secret

-- principal `root` with this secret, and principal role `service_admin`
abbrev pub root_row : List ℕ → PrincipalRow
root_row secret = record { id = 1; name = codes "root"; client_id = codes "root"; digest = digest_of secret }

abbrev pub service_admin_row : PrincipalRoleRow
service_admin_row = record { id = 2; name = codes "service_admin" }

-- the empty state, from which a list of changes makes a state
unfoldable pub empty_state : Rows
empty_state = record {
  access = record { principals = []; principal_roles = []; catalog_roles = []; members = []; joins = []; grants = [] };
  content = record { catalogs = []; namespaces = []; tables = []; views = [] };
  tokens = record { sessions = []; tokens = [] };
  time = 0;
  next_id = 0;
  next_serial = 0;
  charged = 0;
}

-- the fresh state: these two rows, and root's membership
unfoldable pub fresh_state : List ℕ → Rows
fresh_state secret = record {
  access = record {
    principals = root_row secret ∷ [];
    principal_roles = service_admin_row ∷ [];
    catalog_roles = [];
    members = record { principal = 1; role = 2 } ∷ [];
    joins = [];
    grants = [];
  };
  content = record { catalogs = []; namespaces = []; tables = []; views = [] };
  tokens = record { sessions = []; tokens = [] };
  time = 0;
  next_id = 3;
  next_serial = 0;
  charged = 0;
}
