-- The comparison of securables is equality by their code.
use Rattle.std.proofs.Common.{◌≡◌, true, refl}
use Rattle.std.proofs.lemmas.Bool.{eq-eqb}
use Rattle.pol_types.specs.Exact.{exactness}
use Rattle.pol_access.specs.contracts.securable.Securable.{the_row}
use Rattle.pol_access.specs.contracts.securable.SecurablePartialEq.TheImpl.{ghosts}
use Rattle.pol_access.specs.declared.securable.Securable.{Securable}
use Rattle.pol_access.specs.declared.securable.Securable.TheVariants.{Realm, Catalog, Namespace, Table, View}
use Rattle.pol_tables.specs.Same.{same}
use Rattle.pol_tables.proofs.SameLemmas.{same-exact}

exact : (left right : Securable) → ghosts.eq left right ≡ true → left ≡ right
exact = grind exactness

reflexive : (one : Securable) → ghosts.eq one one ≡ true
reflexive Realm = refl
reflexive (Catalog id) = eq-eqb id id refl
reflexive (Namespace id) = eq-eqb id id refl
reflexive (Table id) = eq-eqb id id refl
reflexive (View id) = eq-eqb id id refl

pub compared-is : ghosts.eq ≡ same the_row.coded
compared-is = same-exact the_row.coded ghosts.eq exact reflexive
