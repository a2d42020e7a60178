-- Where a path of a pattern leads in a walk over routes, told by the pattern alone.
use Rattle.std.proofs.Common.{◌≡◌, ◌≢◌, ◌<◌, ℕ, zero, suc, ◌+◌, ◌-◌, Bool, true, false, cond, not, ltb, leb, ◌==◌, ◌&&◌, ◌||◌, nat_eq, List, [], ◌∷◌, length, drop, Option, Some, None, ◌⊎◌, inl, inr, refl, sym, ap, ◌∙◌, arith}
use Rattle.std.proofs.lemmas.Bool.Decides.{nat_tests}
use Rattle.std.specs.List.{ends_with}
use Rattle.form_urlencoded.specs.Form.{is_nonempty}
use Rattle.matchit.specs.Level.{IsText}
use Rattle.matchit.specs.Rows.{RowsOf, catch_all_token, param_token}
use Rattle.matchit.specs.Seek.{better, cuts, has_slash, longest_from, own, param_step, seek, segment, slash, step, with_suffix}
use Rattle.pol_routes.specs.Route.{begins_with, behind_segment, first_segment, fits}

both : (a b : Bool) → (a && b) ≡ true → (a ≡ true) × (b ≡ true)
both true b is = (refl, is)
both false b is = absurd (cc)

-- the pattern has no parameter
abbrev texts : List ℕ → Bool
texts [] = true
texts (token ∷ tokens) = ltb token param_token && texts tokens

-- no path of the first pattern is the second, as they differ before a parameter
abbrev clash : List ℕ → List ℕ → Bool
clash [] other = false
clash (token ∷ tokens) [] = ltb token param_token
clash (token ∷ tokens) (x ∷ other) = ltb token param_token && (not (token == x) || clash tokens other)

abbrev suffix_is : List ℕ → Bool
suffix_is [] = true
suffix_is (x ∷ []) = x == slash
suffix_is (x ∷ y ∷ rest) = false

fits_byte : (token : ℕ) (tokens path : List ℕ) → ltb token param_token ≡ true → fits (token ∷ tokens) path ≡ (begins_with token path && fits tokens (drop 1 path))
fits_byte token tokens path below =
    let no_catch : (token == catch_all_token) ≡ false = grind (arith, nat_tests) in
    let no_param : (token == param_token) ≡ false = grind (arith, nat_tests) in
    rw (no_catch, no_param) refl

clash_apart : (tokens other path : List ℕ) → clash tokens other ≡ true → fits tokens path ≡ true → other ≢ path
clash_apart [] other path is fit = λ e. absurd (cc)
clash_apart (token ∷ tokens) [] (b ∷ path) is fit = λ e. absurd (cc)
clash_apart (token ∷ tokens) (x ∷ other) [] is fit = λ e. absurd (cc)
clash_apart (token ∷ tokens) [] [] is fit = λ e.
    let byte : (begins_with token [] && fits tokens (drop 1 [])) ≡ true = sym (fits_byte token tokens [] is) ∙ fit in
    absurd (cc)
clash_apart (token ∷ tokens) (x ∷ other) (b ∷ path) is fit =
    let parts = both _ _ is in
    let byte : ((b == token) && fits tokens path) ≡ true = sym (fits_byte token tokens (b ∷ path) parts.0) ∙ fit in
    by (token == x) refl parts.1 (both _ _ byte).0 (λ more. clash_apart tokens other path more (both _ _ byte).1)
  where
    by : (v : Bool) → (token == x) ≡ v → (not v || clash tokens other) ≡ true → (b == token) ≡ true → (clash tokens other ≡ true → other ≢ path) → x ∷ other ≢ b ∷ path
    by true same is first more = λ e. more is (cc)
    by false same is first more = λ e.
        let head : x ≡ b = cc in
        let apart : x ≢ b = λ q. grind (arith, nat_tests) in
        apart head

-- the path's first segment, and what stands behind it
front_drop : (path : List ℕ) → drop (length (first_segment path)) path ≡ behind_segment path
front_drop [] = refl
front_drop (b ∷ path) =
    elim (b == slash) as (λ v. drop (length (cond v [] (b ∷ first_segment path))) (b ∷ path) ≡ cond v (b ∷ path) (behind_segment path)) [
      | true ↦ refl
      | false ↦ front_drop path
    ]

behind_next : (b : ℕ) (path : List ℕ) → behind_segment (b ∷ path) ≡ [] → ((b == slash) ≡ false) × (behind_segment path ≡ [])
behind_next b path is = by (b == slash) refl is
  where
    by : (v : Bool) → (b == slash) ≡ v → cond v (b ∷ path) (behind_segment path) ≡ [] → ((b == slash) ≡ false) × (behind_segment path ≡ [])
    by true same is = absurd (cc)
    by false same is = (same, is)

no_slash : (path : List ℕ) → behind_segment path ≡ [] → has_slash path ≡ false
no_slash [] is = refl
no_slash (b ∷ path) is =
    let next = behind_next b path is in
    rw next.0 (no_slash path next.1)

whole : (path : List ℕ) → behind_segment path ≡ [] → segment path ≡ path
whole [] is = refl
whole (b ∷ path) is =
    let next = behind_next b path is in
    rw next.0 (ap (λ more. b ∷ more) (whole path next.1))

ends_next : (b y : ℕ) (text : List ℕ) → ends_with nat_eq (b ∷ y ∷ text) (slash ∷ []) ≡ ends_with nat_eq (y ∷ text) (slash ∷ [])
ends_next b y text =
    let long : length (b ∷ y ∷ text) - 1 ≡ suc (length text) = omega arith in
    let short : length (y ∷ text) - 1 ≡ length text = omega arith in
    rw (long, short) refl

unended : (path : List ℕ) → behind_segment path ≡ [] → ends_with nat_eq path (slash ∷ []) ≡ false
unended [] is = refl
unended (b ∷ []) is =
    let next = behind_next b [] is in
    let other : nat_eq slash b ≡ false = grind (arith, nat_tests) in
    rw other refl
unended (b ∷ y ∷ path) is = ends_next b y path ∙ unended (y ∷ path) (behind_next b (y ∷ path) is).1

ended_more : (b : ℕ) (text : List ℕ) → ends_with nat_eq text (slash ∷ []) ≡ true → ends_with nat_eq (b ∷ text) (slash ∷ []) ≡ true
ended_more b [] is = absurd (cc)
ended_more b (y ∷ text) is = ends_next b y text ∙ is

ended : (path rest : List ℕ) → behind_segment path ≡ slash ∷ rest → ends_with nat_eq (segment path) (slash ∷ []) ≡ true
ended [] rest is = absurd (cc)
ended (b ∷ path) rest is = by (b == slash) refl is (λ more. ended path rest more)
  where
    by : (v : Bool) → (b == slash) ≡ v → cond v (b ∷ path) (behind_segment path) ≡ slash ∷ rest
        → (behind_segment path ≡ slash ∷ rest → ends_with nat_eq (segment path) (slash ∷ []) ≡ true)
        → ends_with nat_eq (cond v (b ∷ []) (b ∷ segment path)) (slash ∷ []) ≡ true
    by true same is more =
        let also : nat_eq slash b ≡ true = grind (arith, nat_tests) in
        rw also refl
    by false same is more = ended_more b (segment path) (more is)

segment_length : (path rest : List ℕ) → behind_segment path ≡ slash ∷ rest → length (segment path) ≡ length (first_segment path) + 1
segment_length [] rest is = absurd (cc)
segment_length (b ∷ path) rest is = by (b == slash) is (λ more. segment_length path rest more)
  where
    by : (v : Bool) → cond v (b ∷ path) (behind_segment path) ≡ slash ∷ rest
        → (behind_segment path ≡ slash ∷ rest → length (segment path) ≡ length (first_segment path) + 1)
        → length (cond v (b ∷ []) (b ∷ segment path)) ≡ length (cond v [] (b ∷ first_segment path)) + 1
    by true is more = refl
    by false is more =
        let e = more is in
        omega arith

suffix_cases : (suffix : List ℕ) → suffix_is suffix ≡ true → (suffix ≡ []) ⊎ (suffix ≡ slash ∷ [])
suffix_cases [] is = inl refl
suffix_cases (x ∷ []) is =
    let same : x ≡ slash = grind (arith, nat_tests) in
    inr (rw same refl)
suffix_cases (x ∷ y ∷ rest) is = absurd (cc)

and_false : (a : Bool) → (a && false) ≡ false
and_false true = refl
and_false false = refl

emptied : (text : List ℕ) → not (is_nonempty text) ≡ true → text ≡ []
emptied [] is = refl
emptied (x ∷ text) is =
    let some : not (is_nonempty (x ∷ text)) ≡ false = grind (arith, nat_tests) in
    absurd (cc)

text_behind : (path : List ℕ) → IsText path → IsText (behind_segment path)
text_behind [] is = tt
text_behind (b ∷ path) is = by (b == slash) (text_behind path is.1)
  where
    by : (v : Bool) → IsText (behind_segment path) → IsText (cond v (b ∷ path) (behind_segment path))
    by true more = is
    by false more = more

unfit : (token : ℕ) (tokens : List ℕ) → fits (token ∷ tokens) [] ≡ false
unfit token tokens = by (token == catch_all_token) (token == param_token)
  where
    by : (u v : Bool) → cond u false (cond v false false) ≡ false
    by true v = refl
    by false true = refl
    by false false = refl

slashed_first : (x : ℕ) (tokens text : List ℕ) → x ≡ slash → fits (x ∷ tokens) text ≡ true → (rest : List ℕ) × (text ≡ slash ∷ rest)
slashed_first x tokens [] same fit =
    let none = unfit x tokens in
    absurd (cc)
slashed_first x tokens (y ∷ rest) same fit =
    let one : ((y == slash) && fits tokens rest) ≡ true = rw same at fit in
    let first : (y == slash) ≡ true = (both _ _ one).0 in
    let also : y ≡ slash = grind (arith, nat_tests) in
    (rest, rw also refl)

drop_whole : (path : List ℕ) → drop (length path) path ≡ []
drop_whole [] = refl
drop_whole (b ∷ path) = drop_whole path

module _ {K : Type 0} where
  -- no row begins with a token below the bound
  abbrev bare : ℕ → RowsOf K → Bool
  bare bound [] = true
  bare bound (([], key) ∷ rows) = bare bound rows
  bare bound ((x ∷ t, key) ∷ rows) = leb bound x && bare bound rows

  -- a path that begins with a parameter before these tokens is none of the rows that begin with a byte
  abbrev free : List ℕ → RowsOf K → Bool
  free tokens [] = true
  free tokens (([], key) ∷ rows) = free tokens rows
  free tokens ((x ∷ t, key) ∷ rows) =
      (leb param_token x || (texts (x ∷ t) && clash tokens (behind_segment (x ∷ t)))) && free tokens rows

  -- each row goes on with the end of its segment
  abbrev plain : RowsOf K → Bool
  plain [] = true
  plain ((t, key) ∷ rows) = suffix_is (segment t) && plain rows

  -- a row goes on with a slash
  abbrev slashed : RowsOf K → Bool
  slashed [] = false
  slashed ((t, key) ∷ rows) = nat_eq (length (segment t)) 1 || slashed rows

  -- the rows after a parameter, before these tokens
  abbrev after : List ℕ → RowsOf K → RowsOf K
  after [] rows = rows
  after (x ∷ tokens) rows = with_suffix (slash ∷ []) rows

  abbrev goes_on : List ℕ → RowsOf K → Bool
  goes_on [] rows = true
  goes_on (x ∷ tokens) rows = x == slash && slashed rows

  -- the route that each path of the pattern is found to be
  abbrev pub reaches : RowsOf K → List ℕ → Option K
  reaches rows [] = own rows
  reaches rows (token ∷ tokens) =
      elim (token == catch_all_token) as (λ v. Option K) [
        | true ↦ cond (bare catch_all_token rows) (own (step catch_all_token rows)) None
        | false ↦ elim (token == param_token) as (λ v. Option K) [
          | true ↦ elim (free tokens rows && (plain (step param_token rows) && goes_on tokens (step param_token rows))) as (λ v. Option K) [
            | true ↦ reaches (after tokens (step param_token rows)) tokens
            | false ↦ None
          ]
          | false ↦ reaches (step token rows) tokens
        ]
      ]

  -- no row leads nowhere
  empty_step : (path : List ℕ) → (param_step {K = K} [] path).1 ≡ []
  unfolding param_step
  empty_step path =
      elim (has_slash path) as (λ v. (cond {A = ℕ × RowsOf K} v (0, []) (length path, [])).1 ≡ []) [
        | true ↦ refl
        | false ↦ refl
      ]

  seek_nowhere : (skip : ℕ) (path : List ℕ) → seek {K = K} skip [] path ≡ None
  unfolding seek
  seek_nowhere skip [] = refl
  seek_nowhere (suc skip) (b ∷ path) = seek_nowhere skip path
  seek_nowhere zero (b ∷ path) =
      simp (seek_nowhere 0 path, empty_step (b ∷ path), seek_nowhere (((param_step {K = K} [] (b ∷ path)).0) - 1) path)

  seek_drop : (skip : ℕ) (rows : RowsOf K) (path : List ℕ) → seek skip rows path ≡ seek 0 rows (drop skip path)
  unfolding seek
  seek_drop zero rows path = refl
  seek_drop (suc skip) rows [] = refl
  seek_drop (suc skip) rows (b ∷ path) = seek_drop skip rows path

  bare_step : (bound b : ℕ) (rows : RowsOf K) → bare bound rows ≡ true → b < bound → step b rows ≡ []
  bare_step bound b [] is below = refl
  bare_step bound b (([], key) ∷ rows) is below = bare_step bound b rows is below
  bare_step bound b ((x ∷ t, key) ∷ rows) is below =
      let parts : (leb bound x ≡ true) × (bare bound rows ≡ true) = both _ _ is in
      let other : (x == b) ≡ false = grind (arith, nat_tests) in
      rw other (bare_step bound b rows parts.1 below)

  -- each row has no parameter and isn't the path
  abbrev Missed : List ℕ → RowsOf K → Type 0
  Missed path [] = Unit {0}
  Missed path ((t, key) ∷ rows) = (texts t ≡ true) × (t ≢ path) × Missed path rows

  missed_wild : (bound : ℕ) (path : List ℕ) (rows : RowsOf K) → 256 < bound + 1 → Missed path rows → step bound rows ≡ []
  missed_wild bound path [] above missed = refl
  missed_wild bound path (([], key) ∷ rows) above missed = missed_wild bound path rows above missed.2
  missed_wild bound path ((x ∷ t, key) ∷ rows) above missed =
      let below : ltb x param_token ≡ true = (both _ _ missed.0).0 in
      let other : (x == bound) ≡ false = grind (arith, nat_tests) in
      rw other (missed_wild bound path rows above missed.2)

  missed_step : (b : ℕ) (path : List ℕ) (rows : RowsOf K) → Missed (b ∷ path) rows → Missed path (step b rows)
  missed_step b path [] missed = tt
  missed_step b path (([], key) ∷ rows) missed = missed_step b path rows missed.2
  missed_step b path ((x ∷ t, key) ∷ rows) missed = by (x == b) refl (missed_step b path rows missed.2)
    where
      by : (v : Bool) → (x == b) ≡ v → Missed path (step b rows) → Missed path (cond v ((t, key) ∷ step b rows) (step b rows))
      by true is rest =
          let same : x ≡ b = grind (arith, nat_tests) in
          ((both _ _ missed.0).1, (λ e. missed.1 (rw (same, e) refl)), rest)
      by false is rest = rest

  missed_own : (rows : RowsOf K) → Missed [] rows → own rows ≡ None
  missed_own [] missed = refl
  missed_own (([], key) ∷ rows) missed = absurd (missed.1 refl)
  missed_own ((x ∷ t, key) ∷ rows) missed = missed_own rows missed.2

  missed_none : (path : List ℕ) (rows : RowsOf K) → Missed path rows → seek 0 rows path ≡ None
  unfolding seek
  missed_none [] rows missed = missed_own rows missed
  missed_none (b ∷ path) rows missed =
      simp (missed_none path (step b rows) (missed_step b path rows missed), missed_wild param_token (b ∷ path) rows (omega arith) missed, missed_wild catch_all_token (b ∷ path) rows (omega arith) missed, empty_step (b ∷ path), seek_nowhere (((param_step {K = K} [] (b ∷ path)).0) - 1) path)

  free_missed : (b : ℕ) (path tokens : List ℕ) (rows : RowsOf K) → b < 256 → free tokens rows ≡ true → fits tokens (behind_segment (b ∷ path)) ≡ true → Missed path (step b rows)
  free_missed b path tokens [] byte is fit = tt
  free_missed b path tokens (([], key) ∷ rows) byte is fit = free_missed b path tokens rows byte is fit
  free_missed b path tokens ((x ∷ t, key) ∷ rows) byte is fit =
      let parts = both _ _ is in
      by (x == b) refl parts.0 (free_missed b path tokens rows byte parts.1 fit)
    where
      by : (v : Bool) → (x == b) ≡ v → (leb param_token x || (texts (x ∷ t) && clash tokens (behind_segment (x ∷ t)))) ≡ true
          → Missed path (step b rows) → Missed path (cond v ((t, key) ∷ step b rows) (step b rows))
      by true is may rest =
          let same : x ≡ b = grind (arith, nat_tests) in
          let below : leb param_token x ≡ false = grind (arith, nat_tests) in
          let parts = both _ _ (rw below at may) in
          let apart = clash_apart tokens (behind_segment (x ∷ t)) (behind_segment (b ∷ path)) parts.1 fit in
          ((both _ _ parts.0).1, (λ e. apart (rw (same, e) refl)), rest)
      by false is may rest = rest

  kept : (seg : List ℕ) (rows : RowsOf K) → plain rows ≡ true → longest_from seg (slash ∷ []) rows ≡ slash ∷ []
  kept seg [] is = refl
  kept seg ((t, key) ∷ rows) is = by (suffix_cases (segment t) (both _ _ is).0) (kept seg rows (both _ _ is).1)
    where
      by : (segment t ≡ []) ⊎ (segment t ≡ slash ∷ []) → longest_from seg (slash ∷ []) rows ≡ slash ∷ [] → longest_from seg (better seg (slash ∷ []) (segment t)) rows ≡ slash ∷ []
      by (inl e) rest = rw e rest
      by (inr e) rest = rw e rest

  longest_slash : (seg : List ℕ) (rows : RowsOf K) → cuts seg (slash ∷ []) ≡ true → plain rows ≡ true → slashed rows ≡ true → longest_from seg [] rows ≡ slash ∷ []
  longest_slash seg [] cut is one = absurd (cc)
  longest_slash seg ((t, key) ∷ rows) cut is one =
      by (suffix_cases (segment t) (both _ _ is).0) one (λ more. longest_slash seg rows cut (both _ _ is).1 more) (kept seg rows (both _ _ is).1)
    where
      by : (segment t ≡ []) ⊎ (segment t ≡ slash ∷ []) → (nat_eq (length (segment t)) 1 || slashed rows) ≡ true
          → (slashed rows ≡ true → longest_from seg [] rows ≡ slash ∷ []) → longest_from seg (slash ∷ []) rows ≡ slash ∷ []
          → longest_from seg (better seg [] (segment t)) rows ≡ slash ∷ []
      by (inl e) one rest done = rw e (rest (rw e at one))
      by (inr e) one rest done = rw (e, cut) done

  longest_none : (seg : List ℕ) (rows : RowsOf K) → cuts seg (slash ∷ []) ≡ false → plain rows ≡ true → longest_from seg [] rows ≡ []
  longest_none seg [] cut is = refl
  longest_none seg ((t, key) ∷ rows) cut is = by (suffix_cases (segment t) (both _ _ is).0) (longest_none seg rows cut (both _ _ is).1)
    where
      by : (segment t ≡ []) ⊎ (segment t ≡ slash ∷ []) → longest_from seg [] rows ≡ [] → longest_from seg (better seg [] (segment t)) rows ≡ []
      by (inl e) rest = rw e rest
      by (inr e) rest = rw (e, cut) rest

  -- what a parameter takes at the end of a path, and before a slash
  param_end : (path : List ℕ) (rows : RowsOf K) → behind_segment path ≡ [] → plain rows ≡ true → param_step rows path ≡ (length path, rows)
  unfolding param_step
  param_end path rows end is =
      let cut : cuts path (slash ∷ []) ≡ false = rw (unended path end) (and_false _) in
      rw (whole path end, longest_none path rows cut is, no_slash path end) refl

  param_on : (path rest : List ℕ) (rows : RowsOf K) → 0 < length (first_segment path) → behind_segment path ≡ slash ∷ rest → plain rows ≡ true → slashed rows ≡ true
      → param_step rows path ≡ (length (first_segment path), with_suffix (slash ∷ []) rows)
  unfolding param_step
  param_on path rest rows some end is one =
      let long = segment_length path rest end in
      let more : ltb 1 (length (segment path)) ≡ true = grind (arith, nat_tests) in
      let cut : cuts (segment path) (slash ∷ []) ≡ true = rw (more, ended path rest end) refl in
      let took : length (segment path) - 1 ≡ length (first_segment path) = omega arith in
      rw (longest_slash (segment path) rows cut is one, took) refl

  -- a byte, a parameter and a catch-all lead on
  byte_found : (b : ℕ) (path : List ℕ) (rows : RowsOf K) (key : K) → seek 0 (step b rows) path ≡ Some key → seek 0 rows (b ∷ path) ≡ Some key
  unfolding seek
  byte_found b path rows key is = rw is refl

  catch_found : (b : ℕ) (path : List ℕ) (rows : RowsOf K) (key : K) → b < 256 → bare catch_all_token rows ≡ true → own (step catch_all_token rows) ≡ Some key → seek 0 rows (b ∷ path) ≡ Some key
  unfolding seek
  catch_found b path rows key byte is found =
      simp (bare_step catch_all_token b rows is (omega arith), bare_step catch_all_token param_token rows is (omega arith), seek_nowhere 0 path, empty_step (b ∷ path), seek_nowhere (((param_step {K = K} [] (b ∷ path)).0) - 1) path, found)

  param_goes : (b : ℕ) (path tokens : List ℕ) (rows : RowsOf K) (key : K) → (b == slash) ≡ false → plain rows ≡ true → goes_on tokens rows ≡ true
      → fits tokens (behind_segment (b ∷ path)) ≡ true → seek 0 (after tokens rows) (behind_segment (b ∷ path)) ≡ Some key
      → seek ((param_step rows (b ∷ path)).0 - 1) (param_step rows (b ∷ path)).1 path ≡ Some key
  param_goes b path [] rows key other is goes fit found =
      let end : behind_segment (b ∷ path) ≡ [] = emptied (behind_segment (b ∷ path)) fit in
      let took : length (b ∷ path) - 1 ≡ length path = omega arith in
      rw (param_end (b ∷ path) rows end is, took, seek_drop (length path) rows path, drop_whole path) (rw end at found)
  param_goes b path (x ∷ tokens) rows key other is goes fit found =
      let parts : ((x == slash) ≡ true) × (slashed rows ≡ true) = both _ _ goes in
      let same : x ≡ slash = grind (arith, nat_tests) in
      let first = slashed_first x tokens (behind_segment (b ∷ path)) same fit in
      let behind : behind_segment (b ∷ path) ≡ behind_segment path = rw other refl in
      let front : first_segment (b ∷ path) ≡ b ∷ first_segment path = rw other refl in
      let some : 0 < length (first_segment (b ∷ path)) = rw front (omega arith) in
      let took : length (first_segment (b ∷ path)) - 1 ≡ length (first_segment path) = rw front (omega arith) in
      rw (param_on (b ∷ path) first.0 rows some first.1 is parts.1, took, seek_drop (length (first_segment path)) (with_suffix (slash ∷ []) rows) path, front_drop path) (rw behind at found)

  param_found : (b : ℕ) (path tokens : List ℕ) (rows : RowsOf K) (key : K) → b < 256 → (b == slash) ≡ false
      → free tokens rows ≡ true → plain (step param_token rows) ≡ true → goes_on tokens (step param_token rows) ≡ true
      → fits tokens (behind_segment (b ∷ path)) ≡ true → seek 0 (after tokens (step param_token rows)) (behind_segment (b ∷ path)) ≡ Some key
      → seek 0 rows (b ∷ path) ≡ Some key
  unfolding seek
  param_found b path tokens rows key byte other may is goes fit found =
      rw (missed_none path (step b rows) (free_missed b path tokens rows byte may fit), param_goes b path tokens (step param_token rows) key other is goes fit found) refl

  end_found : (rows : RowsOf K) (key : K) → own rows ≡ Some key → seek 0 rows [] ≡ Some key
  unfolding seek
  end_found rows key is = is

  split : (test : Bool) (then : Option K) (key : K) → cond test then None ≡ Some key → (test ≡ true) × (then ≡ Some key)
  split true then key is = (refl, is)
  split false then key is = absurd (cc)

  split_on : (test : Bool) (then : Option K) (key : K) → elim test as (λ v. Option K) [ true ↦ then | false ↦ None ] ≡ Some key → (test ≡ true) × (then ≡ Some key)
  split_on true then key is = (refl, is)
  split_on false then key is = absurd (cc)

  -- a path of the pattern is found to be the route that the pattern reaches
  pub found : (tokens path : List ℕ) (rows : RowsOf K) (key : K) → reaches rows tokens ≡ Some key → IsText path → fits tokens path ≡ true → seek 0 rows path ≡ Some key
  found [] path rows key is text fit = rw (emptied path fit) (end_found rows key is)
  found (token ∷ tokens) [] rows key is text fit =
      let not_fit = unfit token tokens in
      absurd (cc)
  found (token ∷ tokens) (b ∷ path) rows key is text fit =
      by (token == catch_all_token) (token == param_token) is fit (λ more onward. found tokens more onward key)
    where
      by : (u v : Bool)
          → (elim u as (λ w. Option K) [
            | true ↦ cond (bare catch_all_token rows) (own (step catch_all_token rows)) None
            | false ↦ elim v as (λ w. Option K) [
              | true ↦ elim (free tokens rows && (plain (step param_token rows) && goes_on tokens (step param_token rows))) as (λ w. Option K) [
                | true ↦ reaches (after tokens (step param_token rows)) tokens
                | false ↦ None
              ]
              | false ↦ reaches (step token rows) tokens
            ]
          ]) ≡ Some key
          → cond u (is_nonempty (b ∷ path)) (cond v (is_nonempty (first_segment (b ∷ path)) && fits tokens (behind_segment (b ∷ path))) ((b == token) && fits tokens path)) ≡ true
          → ((more : List ℕ) (onward : RowsOf K) → reaches onward tokens ≡ Some key → IsText more → fits tokens more ≡ true → seek 0 onward more ≡ Some key)
          → seek 0 rows (b ∷ path) ≡ Some key
      by true v leads fit onward =
          let parts = split _ _ key leads in
          catch_found b path rows key text.0 parts.0 parts.1
      by false true leads fit onward =
          let parts = split_on _ _ key leads in
          let tests = both _ _ parts.0 in
          let more = both _ _ tests.1 in
          let fitting = both _ _ fit in
          param_found b path tokens rows key text.0 (no_slash_first (b == slash) fitting.0) tests.0 more.0 more.1 fitting.1
          (onward (behind_segment (b ∷ path)) (after tokens (step param_token rows)) parts.1 (text_behind (b ∷ path) text) fitting.1)
        where
          no_slash_first : (v : Bool) → is_nonempty (cond v [] (b ∷ first_segment path)) ≡ true → v ≡ false
          no_slash_first true some = absurd (cc)
          no_slash_first false some = refl
      by false false leads fit onward =
          let fitting = both _ _ fit in
          let first : (b == token) ≡ true = fitting.0 in
          let same : token ≡ b = grind (arith, nat_tests) in
          byte_found b path rows key (onward path (step b rows) (rw same at leads) text.1 fitting.1)
