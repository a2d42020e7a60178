-- Outcomes of commits that refuse nothing, and loops that have judged the first of several.
use Rattle.std.proofs.Common.{◌≡◌, ℕ, suc, ◌+◌, ◌<◌, ◌≤◌, List, [], ◌∷◌, ◌++◌, drop, get_or, length, Option, None, Some, Result, Ok, Err, refl, sym, ap, ◌∙◌, append_assoc, append-nil}
use Rattle.std.proofs.lemmas.List.{at_drop_all, at_drop_more}
use Rattle.pol_commands.specs.declared.reply.Refusal.{Refusal}
use Rattle.pol_meta.specs.declared.metadata.TableMetadata.{TableMetadata}
use Rattle.pol_updates.specs.Updates.{Place}
use Rattle.pol_commit_actions.specs.Outcome.{CommitTo, and_others, commit_outcome, made_from, made_in, refused_by, told_at, unless, unmet_from}
use Rattle.pol_commit_actions.specs.Seen.{commit_to, commits_to}
use Rattle.pol_commit_actions.specs.declared.target.Target.{Target}

-- a table's metadata is that of its own commit
pub told-made : (table : ℕ) (made : Result TableMetadata Place) (meta : TableMetadata) → told_at table made ≡ Ok meta → made ≡ Ok meta
told-made table (Ok made) meta is = let same : made ≡ meta = cc in ap Ok same
told-made table (Err place) meta is = absurd (cc)

-- there is a metadata for each table
pub both-made : (first : Result TableMetadata Refusal) (others : Result (List TableMetadata) Refusal) (metas : List TableMetadata) → and_others first others ≡ Ok metas
    → (made : TableMetadata) × (more : List TableMetadata) × (first ≡ Ok made) × (others ≡ Ok more) × (metas ≡ made ∷ more)
both-made (Err why) others metas is = absurd (cc)
both-made (Ok made) (Err why) metas is = absurd (cc)
both-made (Ok made) (Ok more) metas is = (made, more, refl, refl, cc)

pub made-length : (time table : ℕ) (commits : List CommitTo) (metas : List TableMetadata) → made_from time table commits ≡ Ok metas → length metas ≡ length commits
unfolding made_from
made-length time table [] metas is = cc
made-length time table (one ∷ others) metas is =
    let parts = both-made (told_at table (made_in time one)) (made_from time (table + 1) others) metas is in
    ap length parts.4 ∙ ap suc (made-length time (table + 1) others parts.1 parts.3)

-- an outcome that refuses nothing has met each requirement
unless-made : {A : Type 0} (first : Option Refusal) (outcome : Result A Refusal) (made : A) → unless first outcome ≡ Ok made → (first ≡ None) × (outcome ≡ Ok made)
unless-made None outcome made is = (refl, is)
unless-made (Some why) outcome made is = absurd (cc)

pub outcome-made : (time : ℕ) (commits : List CommitTo) (metas : List TableMetadata) → commit_outcome time commits ≡ Ok metas
    → (unmet_from 0 commits ≡ None) × (made_from time 0 commits ≡ Ok metas)
unfolding commit_outcome
outcome-made time commits metas is = unless-made (unmet_from 0 commits) (made_from time 0 commits) metas is

-- what was made of the first of several, and what is made of the others
abbrev pub after_made : List TableMetadata → Result (List TableMetadata) Refusal → Result (List TableMetadata) Refusal
after_made done (Ok others) = Ok (done ++ others)
after_made done (Err why) = Err why

none_made : (outcome : Result (List TableMetadata) Refusal) → outcome ≡ after_made [] outcome
none_made (Ok made) = refl
none_made (Err why) = refl

one_made : (done : List TableMetadata) (made : TableMetadata) (others : Result (List TableMetadata) Refusal) → after_made done (and_others (Ok made) others) ≡ after_made (done ++ made ∷ []) others
one_made done made (Ok others) = ap Ok (sym (append_assoc done (made ∷ []) others))
one_made done made (Err why) = refl

module _ (time : ℕ) (targets : List Target) where
  pub made_begun : made_from time 0 (commits_to targets) ≡ after_made [] (made_from time 0 (commits_to targets))
  made_begun = none_made (made_from time 0 (commits_to targets))

  pub made_more : (done : List TableMetadata) (i : ℕ) (target : Target) (made : TableMetadata) → i < length targets → target ≡ get_or targets i target → told_at i (made_in time (commit_to target)) ≡ Ok made
      → after_made done (made_from time i (commits_to (drop i targets))) ≡ after_made (done ++ made ∷ []) (made_from time (i + 1) (commits_to (drop (i + 1) targets)))
  unfolding made_from
  made_more done i target made inside is told =
      ap (after_made done) (at_drop_more (λ rest. made_from time i (commits_to rest)) targets i target inside)
      ∙ ap (λ one. after_made done (and_others one (made_from time (i + 1) (commits_to (drop (i + 1) targets))))) (ap (λ (one : Target). told_at i (made_in time (commit_to one))) (sym is) ∙ told)
      ∙ one_made done made (made_from time (i + 1) (commits_to (drop (i + 1) targets)))

  pub made_stops : (done : List TableMetadata) (i : ℕ) (target : Target) (why : Refusal) → i < length targets → target ≡ get_or targets i target → refused_by (told_at i (made_in time (commit_to target))) ≡ Some why
      → after_made done (made_from time i (commits_to (drop i targets))) ≡ Err why
  unfolding made_from
  made_stops done i target why inside is told =
      ap (after_made done) (at_drop_more (λ rest. made_from time i (commits_to rest)) targets i target inside)
      ∙ ap (λ one. after_made done (and_others one (made_from time (i + 1) (commits_to (drop (i + 1) targets))))) (ap (λ (one : Target). told_at i (made_in time (commit_to one))) (sym is) ∙ refused-is (told_at i (made_in time (commit_to target))) why told)
    where
      refused-is : (outcome : Result TableMetadata Refusal) (why : Refusal) → refused_by outcome ≡ Some why → outcome ≡ Err why
      refused-is (Ok made) why told = let contrary : None ≡ Some why = told in cc
      refused-is (Err one) why told = ap Err (let same : Some one ≡ Some why = told in cc)

  pub made_whole : (done : List TableMetadata) (i : ℕ) → length targets ≤ i → after_made done (made_from time i (commits_to (drop i targets))) ≡ Ok done
  unfolding made_from
  made_whole done i few =
      ap (after_made done) (at_drop_all (λ rest. made_from time i (commits_to rest)) targets i few) ∙ ap Ok (append-nil done)
