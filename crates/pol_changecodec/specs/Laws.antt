-- In which order members, joins and grants stand in the changes between two states.
use Rattle.std.specs.Prelude.{◌≡◌, ℕ, List, ◌++◌, map}
use Rattle.std.specs.Cmp.Lexicographic.{slice_cmp}
use Rattle.std.specs.Coded.{Coded}
use Rattle.std.specs.List.{AllByRecursion, IsDistinct}
use Rattle.std.specs.List.Sorted.{IsStrictlySortedBy}
use Rattle.std.specs.Ordering.{nat_cmp}
use Rattle.std.specs.declared.cmp.Ordering.{Ordering}
use Rattle.pol_access.specs.Order.{grant_cmp, join_cmp, member_cmp}
use Rattle.pol_access.specs.contracts.rows.GrantRow as grant_row
use Rattle.pol_access.specs.contracts.rows.JoinRow as join_row
use Rattle.pol_access.specs.contracts.rows.MemberRow as member_row
use Rattle.pol_codec.specs.Rows.{grant, join, member}
use Rattle.pol_content.specs.declared.change.Change.{Change}
use Rattle.pol_content.specs.declared.change.Change.TheVariants.{PutMember, DropMember, PutJoin, DropJoin, PutGrant, DropGrant}
use Rattle.pol_forms.specs.Form.{Form}
use Rattle.pol_tables.specs.Changes.{fact_changes}
use Rattle.pol_tables.specs.Same.{same}

-- the order of values by the bytes of their forms
abbrev pub bytes_cmp : {T : Type 0} → Form T → T → T → Ordering
bytes_cmp form left right = slice_cmp nat_cmp (form.write left) (form.write right)

-- rows of which each has a form and no two are the same
abbrev pub AreFacts : {T : Type 0} → Form T → Coded T → List T → Type 0
AreFacts form code rows = AllByRecursion form.holds rows × IsDistinct (same code) rows

-- the changes between two such lists are puts and then drops, each by rising bytes
abbrev pub ChangesRise : {T : Type 0} → Form T → Coded T → (T → T → Ordering) → (T → Change) → (T → Change) → Type 0
ChangesRise {T} form code cmp put drop =
    (old new : List T) → AreFacts form code old → AreFacts form code new
    → (puts drops : List T) × (fact_changes code cmp put drop old new ≡ map put puts ++ map drop drops)
    × IsStrictlySortedBy (bytes_cmp form) puts × IsStrictlySortedBy (bytes_cmp form) drops

-- those of members, of joins and of grants
abbrev pub FactsRiseByBytes : Type 0
FactsRiseByBytes =
    ChangesRise member member_row.the_row.coded member_cmp PutMember DropMember
    × ChangesRise join join_row.the_row.coded join_cmp PutJoin DropJoin
    × ChangesRise grant grant_row.the_row.coded grant_cmp PutGrant DropGrant
