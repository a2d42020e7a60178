-- What the outcome of a chain of rules says of its steps.
use Rattle.std.proofs.Common.{◌≡◌, Bool, true, false, Result, Ok, Err, refl, subst, if◌then◌else◌}
use Rattle.pol_drafts.specs.Drafts.{and_then}
use Rattle.pol_meta.specs.declared.why.Why.{Why}

-- a rule that refuses nothing, and what comes after it
pub passes_rule : {A : Type 0} (refuses : Bool) (why : Why) (rest : Result A Why) (made : A)
    → (if refuses then Err why else rest) ≡ Ok made → (refuses ≡ false) × (rest ≡ Ok made)
passes_rule true why rest made told = absurd (cc)
passes_rule false why rest made told = (refl, told)

-- a value that a chain goes on with
pub goes_on : {A B : Type 0} (made : Result A Why) (after : A → Result B Why) (final : B)
    → and_then made after ≡ Ok final → (value : A) × (made ≡ Ok value) × (after value ≡ Ok final)
goes_on (Ok value) after final told = (value, refl, told)
goes_on (Err why) after final told = absurd (cc)

-- what holds of a draft holds of the one that an update makes
pub same_kept : {D : Type 0} (P : D → Type 0) (refuses : Bool) (why : Why) (d next : D) → P d
    → (if refuses then Ok d else Err why) ≡ Ok next → P next
same_kept {D} P true why d next holds told =
    let step : ◌≡◌ {A = Result D Why} (Ok d) (Ok next) = told in
    let same : d ≡ next = cc in
    subst P same holds
same_kept {D} P false why d next holds told = absurd (cc)

pub made_kept : {D : Type 0} (P : D → Type 0) (made next : D) → P made → ◌≡◌ {A = Result D Why} (Ok made) (Ok next) → P next
made_kept P made next holds told =
    let same : made ≡ next = cc in
    subst P same holds
