-- What lists of updates keep, where each update keeps it, and where a list is refused.
use Rattle.std.proofs.Common.{◌≡◌, ◌≤◌, ◌+◌, ◌==◌, ℕ, suc, Bool, true, false, List, [], ◌∷◌, take, length, Some, Result, Ok, Err, if◌then◌else◌, refl, sym, ap, subst, arith}
use Rattle.std.specs.List.{All, slice_get, sum_by}
use Rattle.std.proofs.lemmas.List.Elements.{All-head, All-tail}
use Rattle.std.proofs.lemmas.List.Sums.{sum_by-cons}
use Rattle.pol_drafts.specs.Drafts.{begun}
use Rattle.pol_drafts.specs.declared.draft.Draft.{Draft}
use Rattle.pol_meta.specs.declared.metadata.TableMetadata.{TableMetadata}
use Rattle.pol_meta.specs.declared.why.Why.{Why}
use Rattle.pol_updates.specs.Updates.{Place, after_each, after_one, at_place, finished, finished_of, in_turn, made_of, metadata_after}
use Rattle.pol_updates.specs.declared.update.Update.{Update}
use Rattle.pol_updatelaws.specs.Laws.{FirstRefusedIsTold, IsRefusedThere}

-- an update that is applied, and those after it
applied : {D : Type 0} (index : ℕ) (made : Result D Why) (after : D → Result D Place) (final : D)
    → at_place index made after ≡ Ok final → (next : D) × (made ≡ Ok next) × (after next ≡ Ok final)
applied index (Ok next) after final told = (next, refl, told)
applied index (Err why) after final told = absurd (cc)

-- what each update of a form keeps, a list of such updates keeps
pub each_keeps : {U D : Type 0} (step : U → D → Result D Why) (P : D → Type 0) (Form : U → Type 0)
    → ((update : U) (d next : D) → Form update → P d → step update d ≡ Ok next → P next)
    → (index : ℕ) (updates : List U) (d final : D) → All Form updates → P d
    → in_turn step index updates d ≡ Ok final → P final
unfolding in_turn
each_keeps {U} {D} step P Form keeps index [] d final forms holds told =
    let made : ◌≡◌ {A = Result D Place} (Ok d) (Ok final) = told in
    let same : d ≡ final = cc in
    subst P same holds
each_keeps {U} {D} step P Form keeps index (update ∷ updates) d final forms holds told =
    let one = applied index (step update d) (λ next. in_turn step (index + 1) updates next) final told in
    each_keeps step P Form keeps (index + 1) updates one.0 final (All-tail Form update updates forms)
    (keeps update d one.0 (All-head Form update updates forms) holds one.1) one.2

-- a measure that each update raises by no more than its weight
pub each_sums : {U D : Type 0} (step : U → D → Result D Why) (measure : D → ℕ) (weight : U → ℕ)
    → ((update : U) (d next : D) → step update d ≡ Ok next → measure next ≤ measure d + weight update)
    → (index : ℕ) (updates : List U) (d final : D) → in_turn step index updates d ≡ Ok final
    → measure final ≤ measure d + sum_by weight updates
unfolding in_turn
each_sums {U} {D} step measure weight raises index [] d final told =
    let made : ◌≡◌ {A = Result D Place} (Ok d) (Ok final) = told in
    let same : d ≡ final = cc in
    omega (arith, ap measure same)
each_sums {U} {D} step measure weight raises index (update ∷ updates) d final told =
    let one = applied index (step update d) (λ next. in_turn step (index + 1) updates next) final told in
    omega (
      arith,
      raises update d one.0 one.1,
      sum_by-cons weight update updates,
      each_sums step measure weight raises (index + 1) updates one.0 final one.2,
    )

-- what is made of a list is the same as before an empty one, or what is finished of the draft after it
pub made_cases : {U D M : Type 0} (step : U → D → Result D Why) (finish : D → M) (same_one : M) (start : D) (updates : List U)
    (P : M → Type 0) (made : M) → made_of finish same_one updates (in_turn step 0 updates start) ≡ Ok made → P same_one
    → ((d : D) → in_turn step 0 updates start ≡ Ok d → P (finish d)) → P made
made_cases {U} {D} {M} step finish same_one start updates P made told unchanged done = by_length (length updates == 0) told
  where
    by_draft : (outcome : Result D Place) → in_turn step 0 updates start ≡ outcome → finished_of finish outcome ≡ Ok made → P made
    by_draft (Ok d) is told =
        let whole : ◌≡◌ {A = Result M Place} (Ok (finish d)) (Ok made) = told in
        let same : finish d ≡ made = cc in
        subst P same (done d is)
    by_draft (Err place) is told = absurd (cc)

    by_length : (empty : Bool) → (if empty then Ok same_one else finished_of finish (in_turn step 0 updates start)) ≡ Ok made → P made
    by_length true told =
        let whole : ◌≡◌ {A = Result M Place} (Ok same_one) (Ok made) = told in
        let same : same_one ≡ made = cc in
        subst P same unchanged
    by_length false told = by_draft (in_turn step 0 updates start) refl told

-- so of the metadata after a list
pub after_cases : (P : TableMetadata → Type 0) (meta : TableMetadata) (version moment : ℕ) (updates : List Update)
    (made : TableMetadata) → metadata_after meta version updates moment ≡ Ok made → P meta
    → ((d : Draft) → in_turn (after_one moment) 0 updates (begun meta) ≡ Ok d → P (finished meta version moment d.meta)) → P made
unfolding metadata_after after_each
after_cases P meta version moment updates made told same_one finish =
    made_cases (after_one moment) (λ d. finished meta version moment d.meta) meta (begun meta) updates P made told same_one finish

-- a list that is refused is so at one of its places
record IsRefusedAt {U D : Type 0} (step : U → D → Result D Why) (index : ℕ) (updates : List U) (d : D) (place : Place) : Type 0 where
  past : ℕ
  before : D
  update : U
  at : place.index ≡ index + past
  done : in_turn step index (take past updates) d ≡ Ok before
  there : slice_get updates past ≡ Some update
  refused : step update before ≡ Err place.why

refused_step : {U D : Type 0} (step : U → D → Result D Why) (index : ℕ) (update : U) (updates : List U) (d : D) (place : Place)
    (made : Result D Why) → step update d ≡ made
    → ((next : D) → in_turn step (index + 1) updates next ≡ Err place → IsRefusedAt step (index + 1) updates next place)
    → at_place index made (λ next. in_turn step (index + 1) updates next) ≡ Err place
    → IsRefusedAt step index (update ∷ updates) d place
unfolding in_turn
refused_step {U} {D} step index update updates d place (Ok next) is later told =
    let rest = later next told in
    record {
      past = suc rest.past;
      before = rest.before;
      update = rest.update;
      at = omega (arith, rest.at);
      done = rw is rest.done;
      there = rest.there;
      refused = rest.refused;
    }
refused_step {U} {D} step index update updates d place (Err why) is later told =
    let whole : ◌≡◌ {A = Result D Place} (Err (record { index = index; why = why })) (Err place) = told in
    let same : record { index = index; why = why } ≡ place = cc in
    record {
      past = 0;
      before = d;
      update = update;
      at = omega (arith, ap (λ (p : Place). p.index) (sym same));
      done = refl;
      there = refl;
      refused = subst (λ (p : Place). step update d ≡ Err p.why) same is;
    }

refused_at_one : {U D : Type 0} (step : U → D → Result D Why) (index : ℕ) (updates : List U) (d : D) (place : Place)
    → in_turn step index updates d ≡ Err place → IsRefusedAt step index updates d place
unfolding in_turn
refused_at_one step index [] d place told = absurd (cc)
refused_at_one step index (update ∷ updates) d place told =
    refused_step step index update updates d place (step update d) refl
    (λ next. refused_at_one step (index + 1) updates next place) told

pub refused_there : {U D M : Type 0} (step : U → D → Result D Why) (finish : D → M) (same_one : M) (start : D) (updates : List U)
    (place : Place) → made_of finish same_one updates (in_turn step 0 updates start) ≡ Err place → IsRefusedThere step start updates place
refused_there {U} {D} {M} step finish same_one start updates place told = by_length (length updates == 0) told
  where
    by_draft : (outcome : Result D Place) → in_turn step 0 updates start ≡ outcome → finished_of finish outcome ≡ Err place
        → IsRefusedThere step start updates place
    by_draft (Ok d) is told = absurd (cc)
    by_draft (Err other) is told =
        let whole : ◌≡◌ {A = Result M Place} (Err other) (Err place) = told in
        let same : other ≡ place = cc in
        let told_at = refused_at_one step 0 updates start place (subst (λ p. in_turn step 0 updates start ≡ Err p) same is) in
        let at : told_at.past ≡ place.index = omega (arith, told_at.at) in
        record {
          before = told_at.before;
          update = told_at.update;
          applied = subst (λ n. in_turn step 0 (take n updates) start ≡ Ok told_at.before) at told_at.done;
          there = subst (λ n. slice_get updates n ≡ Some told_at.update) at told_at.there;
          refused = told_at.refused;
        }

    by_length : (empty : Bool) → (if empty then Ok same_one else finished_of finish (in_turn step 0 updates start)) ≡ Err place
        → IsRefusedThere step start updates place
    by_length true told = absurd (cc)
    by_length false told = by_draft (in_turn step 0 updates start) refl told

pub first_refused : FirstRefusedIsTold
unfolding metadata_after after_each
first_refused meta version moment updates place told =
    refused_there (after_one moment) (λ d. finished meta version moment d.meta) meta (begun meta) updates place told
