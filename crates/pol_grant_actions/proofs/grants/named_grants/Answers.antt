use Rattle.std.proofs.Common.{◌≡◌, ℕ, ◌+◌, ◌<◌, List, [], ◌∷◌, ◌++◌, filter_map, get_or, length, option_to_list, take, Option, None, Some, refl, ap, sym, ◌∙◌}
use Rattle.std.specs.List.{cons_option}
use Rattle.std.proofs.lemmas.List.{take_more}
use Rattle.std.proofs.lemmas.List.Elements.{filter_map-append}
use Rattle.pol_access.specs.declared.privilege.Privilege.TheVariants.{NamespaceCreate}
use Rattle.pol_access.specs.declared.rows.GrantRow.{GrantRow}
use Rattle.pol_access.specs.declared.securable.Securable.TheVariants.{Realm}
use Rattle.pol_grant_actions.specs.Grants.{named_grant}
use Rattle.pol_grant_actions.proofs.grants.named_grants.Goals as goal

given_alone : {Y : Type 0} (found : Option Y) → cons_option found [] ≡ option_to_list found
given_alone None = refl
given_alone (Some y) = refl

-- what is given of one item more
given_more : {X Y : Type 0} (give : X → Option Y) (xs : List X) (place : ℕ) (other : X) → place < length xs → filter_map give (take (place + 1) xs) ≡ filter_map give (take place xs) ++ option_to_list (give (get_or xs place other))
given_more give xs place other inside =
    ap (filter_map give) (take_more xs place other inside)
    ∙ filter_map-append give (take place xs) (get_or xs place other ∷ [])
    ∙ ap (λ more. filter_map give (take place xs) ++ more) (given_alone (give (get_or xs place other)))

-- the row that stands for one past the end
abbrev past_end : GrantRow
past_end = record { catalog_role = 0; privilege = NamespaceCreate; securable = Realm }

pub loop-row-preserved : goal.loop-row-preserved
loop-row-preserved c =
    let give = named_grant c.args.asked.now.state.now.rows in
    let place = c.loop-row.row-index in
    c.in_ok-push_named.ensures
    ∙ ap (λ items. items ++ option_to_list (give (get_or c.args.rows.now place past_end))) c.loop-row.invariant
    ∙ sym (given_more give c.args.rows.now place past_end c.loop-row-test.true)
