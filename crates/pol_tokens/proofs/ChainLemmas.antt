-- The chains of the rows of each holder.
use Rattle.std.proofs.Common.{◌≡◌, ℕ, ◌+◌, Bool, true, false, cond, List, [], ◌∷◌, ◌++◌, Some, nat_eq, length, refl, sym, ap, ◌∙◌, inl, inr, arith, append-nil, suc}
use Rattle.std.proofs.lemmas.Bool.{cases_Bool}
use Rattle.std.proofs.lemmas.List.{append_assoc}
use Rattle.pol_tables.specs.Table.{row_of, rows_with}
use Rattle.pol_tables.proofs.ReplayLemmas.{row_of-rows_with}
use Rattle.pol_tokens.specs.Chains.{AreChained, AreLinked, ChainsValue, last_from, last_of, last_place, latest_holder, links_from, place_or_none}

module _ {R : Type 0} (holder : R → ℕ) where
  -- one more row: it is the last of its holder, and those of the others stay
  last_from-push : (principal first found : ℕ) (rows : List R) (row : R)
      → last_from holder principal first found (rows ++ row ∷ []) ≡ cond (nat_eq principal (holder row)) (first + length rows + 1) (last_from holder principal first found rows)
  last_from-push principal first found [] row = elim (cases_Bool (nat_eq principal (holder row))) [
    | inl own ↦ rw own (omega arith)
    | inr other ↦ rw other refl
  ]
  last_from-push principal first found (one ∷ rows) row =
      last_from-push principal (first + 1) (cond (nat_eq principal (holder one)) (first + 1) found) rows row
      ∙ ap (λ place. cond (nat_eq principal (holder row)) place (last_from holder principal (first + 1) (cond (nat_eq principal (holder one)) (first + 1) found) rows)) (omega arith)

  links-long : (before rows : List R) → length (links_from holder before rows) ≡ length rows
  links-long before [] = refl
  links-long before (row ∷ rows) = ap (λ n. suc n) (links-long (before ++ row ∷ []) rows)

  links_from-push : (before rows : List R) (row : R) → links_from holder before (rows ++ row ∷ []) ≡ links_from holder before rows ++ last_of holder (holder row) (before ++ rows) ∷ []
  links_from-push before [] row = rw (append-nil before) refl
  links_from-push before (one ∷ rows) row =
      ap (λ later. last_of holder (holder one) before ∷ later) (links_from-push (before ++ one ∷ []) rows row ∙ ap (λ all. links_from holder (before ++ one ∷ []) rows ++ last_of holder (holder row) all ∷ []) (append_assoc before (one ∷ []) rows))

  -- one more row that is linked keeps the chains those of the rows
  pub AreChained-push : (old new : ChainsValue) (rows : List R) (row : R) → AreChained holder old rows → AreLinked (holder row) old new → AreChained holder new (rows ++ row ∷ [])
  AreChained-push old new rows row chained linked = record {
    links = linked.links ∙ (λ i. chained.links i ++ chained.latest (holder row) i ∷ []) ∙ sym (links_from-push [] rows row);
    latest = λ principal. ap (last_place principal) linked.latest ∙ latest-put principal;
  }
    where
      found : (principal : ℕ) → last_place principal (rows_with latest_holder (record { holder = holder row; place = length old.links + 1 }) old.latest) ≡ place_or_none (cond (nat_eq principal (holder row)) (Some (record { holder = holder row; place = length old.links + 1 })) (row_of latest_holder principal old.latest))
      found principal = ap place_or_none (row_of-rows_with latest_holder principal (record { holder = holder row; place = length old.links + 1 }) old.latest)

      -- the holder's last place is the new one, and that of any other stays
      by : (principal : ℕ) (b : Bool) → nat_eq principal (holder row) ≡ b → place_or_none (cond b (Some (record { holder = holder row; place = length old.links + 1 })) (row_of latest_holder principal old.latest)) ≡ cond b (0 + length rows + 1) (last_of holder principal rows)
      by principal true own =
          let long = ap length chained.links ∙ links-long [] rows in
          omega (arith, long)
      by principal false other = chained.latest principal

      latest-put : (principal : ℕ) → last_place principal (rows_with latest_holder (record { holder = holder row; place = length old.links + 1 }) old.latest) ≡ last_of holder principal (rows ++ row ∷ [])
      latest-put principal =
          found principal ∙ by principal (nat_eq principal (holder row)) refl ∙ sym (last_from-push principal 0 0 rows row)
