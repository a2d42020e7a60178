-- Tables after their commits, made one after the other, and where they lie.
use Rattle.std.proofs.Common.{◌≡◌, ℕ, suc, ◌+◌, ◌<◌, ◌≤◌, Bool, true, false, not, nat_eq, List, [], ◌∷◌, ◌++◌, drop, take, get_or, length, Option, None, Some, refl, sym, ap, ◌∙◌, arith}
use Rattle.std.specs.Option.{option_map, option_or}
use Rattle.std.proofs.lemmas.Bool.{eq-eqb, ne_eqb}
use Rattle.std.proofs.lemmas.List.{length-map, length-take-le, map-append, drop_more, take-append-drop, take_all, take_more}
use Rattle.pol_commands.specs.declared.reply.Refusal.{Refusal}
use Rattle.pol_commands.specs.declared.reply.Refusal.TheVariants.{BadLocation}
use Rattle.pol_meta.specs.declared.metadata.TableMetadata.{TableMetadata}
use Rattle.pol_rules.proofs.RulesLemmas.{none-either}
use Rattle.pol_commit_actions.specs.Outcome.{CommitTo, CommittedTable, all_committed, committed, grown_if, is_moved, lies_elsewhere}
use Rattle.pol_commit_actions.specs.Rules.{bad_location_from, misplaced}
use Rattle.pol_commit_actions.specs.Seen.{commit_to, commits_to}
use Rattle.pol_commit_actions.specs.declared.target.Target.{Target}

all-joined : (first others : List CommitTo) (metas more : List TableMetadata) → length first ≡ length metas → all_committed (first ++ others) (metas ++ more) ≡ all_committed first metas ++ all_committed others more
unfolding all_committed
all-joined [] others [] more same = refl
all-joined [] others (made ∷ metas) more same = absurd (omega (arith, same))
all-joined (one ∷ first) others [] more same = absurd (omega (arith, same))
all-joined (one ∷ first) others (made ∷ metas) more same =
    ap (λ tables. committed one made ∷ tables) (all-joined first others metas more (omega (arith, same)))

pub all-length : (commits : List CommitTo) (metas : List TableMetadata) → length commits ≡ length metas → length (all_committed commits metas) ≡ length metas
unfolding all_committed
all-length [] [] same = refl
all-length [] (made ∷ metas) same = absurd (omega (arith, same))
all-length (one ∷ commits) [] same = refl
all-length (one ∷ commits) (made ∷ metas) same = ap suc (all-length commits metas (omega (arith, same)))

-- locations behind those that are judged
bad-behind : (i : ℕ) (first others : List CommittedTable) → bad_location_from i first ≡ None → bad_location_from i (first ++ others) ≡ bad_location_from (i + length first) others
unfolding bad_location_from
bad-behind i [] others none =
    ap (λ n. bad_location_from n others) (let same : i ≡ i + 0 = omega arith in same)
bad-behind i (one ∷ first) others none =
    let rules = none-either (option_map (BadLocation i) (misplaced (is_moved one) one.after.metadata.location)) (bad_location_from (i + 1) first) none in
    ap (λ rule. option_or rule (bad_location_from (i + 1) (first ++ others))) rules.0
    ∙ bad-behind (i + 1) first others rules.1
    ∙ ap (λ n. bad_location_from n others) (let same : i + 1 + length first ≡ i + length (one ∷ first) = omega arith in same)

-- a table is moved where its metadata lies elsewhere
pub moved-is : (one : CommitTo) (made : TableMetadata) → is_moved (committed one made) ≡ lies_elsewhere one.row made
moved-is one made = by (lies_elsewhere one.row made)
  where
    by : (b : Bool) → not (nat_eq (grown_if b one.row.moves) one.row.moves) ≡ b
    by true = ap not (ne_eqb (one.row.moves + 1) one.row.moves (λ is. omega (arith, is)))
    by false = ap not (eq-eqb one.row.moves one.row.moves refl)

-- the rule on where a table lies, by its metadata
abbrev pub placing : ℕ → CommitTo → TableMetadata → Option Refusal
placing i one made = option_map (BadLocation i) (misplaced (lies_elsewhere one.row made) made.location)

alone : (rule : Option Refusal) → option_or rule None ≡ rule
alone None = refl
alone (Some why) = refl

bad-one : (i : ℕ) (one : CommitTo) (made : TableMetadata) (others : List CommittedTable) → bad_location_from i (committed one made ∷ others) ≡ option_or (placing i one made) (bad_location_from (i + 1) others)
unfolding bad_location_from
bad-one i one made others =
    ap (λ b. option_or (option_map (BadLocation i) (misplaced b made.location)) (bad_location_from (i + 1) others)) (moved-is one made)

-- the first of the tables after their commits
abbrev pub made_at : List Target → List TableMetadata → ℕ → List CommittedTable
made_at targets metas i = all_committed (commits_to (take i targets)) (take i metas)

pub none-made : (targets : List Target) (metas : List TableMetadata) → (made_at targets metas 0 ≡ []) × (bad_location_from 0 (made_at targets metas 0) ≡ None)
unfolding all_committed bad_location_from
none-made targets metas = (refl, refl)

pub whole-made : (targets : List Target) (metas : List TableMetadata) → length targets ≡ length metas → (i : ℕ) → length metas ≤ i → made_at targets metas i ≡ all_committed (commits_to targets) metas
whole-made targets metas paired i few = λ j. all_committed (commits_to (take_all i targets (omega (arith, paired, few)) j)) (take_all i metas few j)

module _ (targets : List Target) (metas : List TableMetadata) (paired : length targets ≡ length metas) where
  abbrev made_before : ℕ → List CommittedTable
  made_before i = made_at targets metas i

  before-length : (i : ℕ) → i < length metas → length (commits_to (take i targets)) ≡ length (take i metas)
  before-length i inside =
      length-map (take i targets) commit_to ∙ length-take-le i targets (omega (arith, inside, paired)) ∙ sym (length-take-le i metas (omega (arith, inside)))

  count-before : (i : ℕ) → i < length metas → length (made_before i) ≡ i
  count-before i inside =
      all-length (commits_to (take i targets)) (take i metas) (before-length i inside) ∙ length-take-le i metas (omega (arith, inside))

  -- one more table is made
  pub made-more : (i : ℕ) (target : Target) (made : TableMetadata) → i < length metas → target ≡ get_or targets i target → made ≡ get_or metas i made → made_before (i + 1) ≡ made_before i ++ committed (commit_to target) made ∷ []
  unfolding all_committed
  made-more i target made inside at is =
      (λ j. all_committed (commits_to ((take_more targets i target (omega (arith, inside, paired)) ∙ ap (λ one. take i targets ++ one ∷ []) (sym at)) j)) ((take_more metas i made inside ∙ ap (λ one. take i metas ++ one ∷ []) (sym is)) j))
      ∙ ap (λ commits. all_committed commits (take i metas ++ made ∷ [])) (map-append commit_to (take i targets) (target ∷ []))
      ∙ all-joined (commits_to (take i targets)) (commit_to target ∷ []) (take i metas) (made ∷ []) (before-length i inside)

  whole-is : (i : ℕ) (target : Target) (made : TableMetadata) → i < length metas → target ≡ get_or targets i target → made ≡ get_or metas i made
      → all_committed (commits_to targets) metas ≡ made_before i ++ committed (commit_to target) made ∷ all_committed (commits_to (drop (i + 1) targets)) (drop (i + 1) metas)
  unfolding all_committed
  whole-is i target made inside at is =
      (λ j. all_committed (commits_to ((sym (take-append-drop i targets) ∙ ap (λ rest. take i targets ++ rest) (drop_more targets i target (omega (arith, inside, paired)) ∙ ap (λ one. one ∷ drop (i + 1) targets) (sym at))) j)) ((sym (take-append-drop i metas) ∙ ap (λ rest. take i metas ++ rest) (drop_more metas i made inside ∙ ap (λ one. one ∷ drop (i + 1) metas) (sym is))) j))
      ∙ ap (λ commits. all_committed commits (take i metas ++ made ∷ drop (i + 1) metas)) (map-append commit_to (take i targets) (target ∷ drop (i + 1) targets))
      ∙ all-joined (commits_to (take i targets)) (commit_to target ∷ commits_to (drop (i + 1) targets)) (take i metas) (made ∷ drop (i + 1) metas) (before-length i inside)

  pub good-more : (i : ℕ) (target : Target) (made : TableMetadata) → i < length metas → target ≡ get_or targets i target → made ≡ get_or metas i made → bad_location_from 0 (made_before i) ≡ None → placing i (commit_to target) made ≡ None → bad_location_from 0 (made_before (i + 1)) ≡ None
  unfolding bad_location_from
  good-more i target made inside at is none good =
      ap (bad_location_from 0) (made-more i target made inside at is)
      ∙ bad-behind 0 (made_before i) (committed (commit_to target) made ∷ []) none
      ∙ ap (λ n. bad_location_from n (committed (commit_to target) made ∷ [])) (let counted = count-before i inside in let same : 0 + length (made_before i) ≡ i = omega (arith, counted) in same)
      ∙ bad-one i (commit_to target) made [] ∙ alone (placing i (commit_to target) made) ∙ good

  pub bad-at : (i : ℕ) (target : Target) (made : TableMetadata) → i < length metas → target ≡ get_or targets i target → made ≡ get_or metas i made → bad_location_from 0 (made_before i) ≡ None → (why : Refusal) → placing i (commit_to target) made ≡ Some why
      → bad_location_from 0 (all_committed (commits_to targets) metas) ≡ Some why
  bad-at i target made inside at is none why bad =
      let others = all_committed (commits_to (drop (i + 1) targets)) (drop (i + 1) metas) in
      ap (bad_location_from 0) (whole-is i target made inside at is)
      ∙ bad-behind 0 (made_before i) (committed (commit_to target) made ∷ others) none
      ∙ ap (λ n. bad_location_from n (committed (commit_to target) made ∷ others)) (let counted = count-before i inside in let same : 0 + length (made_before i) ≡ i = omega (arith, counted) in same)
      ∙ bad-one i (commit_to target) made others ∙ ap (λ rule. option_or rule (bad_location_from (i + 1) others)) bad
