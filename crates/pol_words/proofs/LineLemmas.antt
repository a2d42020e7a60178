-- What lines mean.
use Rattle.std.proofs.Common.{◌≡◌, ◌≢◌, ℕ, List, [], ◌∷◌, None, length, get_or, refl, sym, ap, subst, ◌∙◌, arith}
use Rattle.std.specs.List.{All}
use Rattle.std.specs.List.Sorted.{IsPermutation}
use Rattle.std.proofs.lemmas.List.Elements.{All-cons, All-head, All-nil, All-tail}
use Rattle.std.proofs.lemmas.List.Sorted.{All-permutation, IsPermutation-sym, IsPermutation-trans, length_permutation}
use Rattle.pol_words.specs.Options.{AreInSomeOrder, AreOptions, GivesValues, names_of}
use Rattle.pol_words.specs.Words.{IsLine, Line, Means, MeansNothing, line}
use Rattle.pol_words.specs.declared.names.TheConstants.{CATALOGUE, EXEC, INIT, OBJECTS, ROOT_SECRET}
use Rattle.pol_words.specs.declared.plan.Plan.{Plan}
use Rattle.pol_words.specs.declared.plan.Plan.TheVariants.{Exec, ExecFresh, Init}
use Rattle.pol_words.proofs.OptionLemmas.{options-one}

pub exec-not-init : EXEC.now ≢ INIT.now
exec-not-init is = omega (arith, ap (λ text. get_or text 0 0) is)

pub catalogue-not-objects : CATALOGUE.now ≢ OBJECTS.now
catalogue-not-objects is = omega (arith, ap length is)

-- where an option has this name, it has this value
abbrev Sets : List ℕ → List ℕ → List ℕ × List ℕ → Type 0
Sets name value option = option.0 ≡ name → option.1 ≡ value

module _ (P : List ℕ × List ℕ → Type 0) (one two : List ℕ × List ℕ) where
  all-two : P one → P two → All P (one ∷ two ∷ [])
  all-two first second = All-cons P one (two ∷ []) first (All-cons P two [] second (All-nil P))

  two-first : All P (one ∷ two ∷ []) → P one
  two-first all = All-head P one (two ∷ []) all

  two-second : All P (one ∷ two ∷ []) → P two
  two-second all = All-head P two [] (All-tail P one (two ∷ []) all)

-- two options in some order, whose names differ, are these options
two-same : (name another : List ℕ) (first second third fourth : List ℕ) → name ≢ another → IsPermutation {X = List ℕ × List ℕ} ((name, first) ∷ (another, second) ∷ []) ((name, third) ∷ (another, fourth) ∷ []) → (first ≡ third) × (second ≡ fourth)
two-same name another first second third fourth differ moved =
    let a : List ℕ × List ℕ = (name, first) in
    let b : List ℕ × List ℕ = (another, second) in
    let c : List ℕ × List ℕ = (name, third) in
    let d : List ℕ × List ℕ = (another, fourth) in
    let one : another ≡ name → second ≡ first = λ is. absurd (differ (sym is)) in
    let two : name ≡ another → first ≡ second = λ is. absurd (differ is) in
    let firsts = All-permutation (Sets name first) (a ∷ b ∷ []) (c ∷ d ∷ []) moved (all-two (Sets name first) a b (λ is. refl) one) in
    let seconds = All-permutation (Sets another second) (a ∷ b ∷ []) (c ∷ d ∷ []) moved (all-two (Sets another second) a b two (λ is. refl)) in
    let third_is : third ≡ first = two-first (Sets name first) c d firsts refl in
    let fourth_is : fourth ≡ second = two-second (Sets another second) c d seconds refl in
    (sym third_is, sym fourth_is)

-- one option in some order is this option
one-same : (name first second : List ℕ) → IsPermutation {X = List ℕ × List ℕ} ((name, first) ∷ []) ((name, second) ∷ []) → first ≡ second
one-same name first second moved =
    let a : List ℕ × List ℕ = (name, first) in
    let b : List ℕ × List ℕ = (name, second) in
    let P : List ℕ × List ℕ → Type 0 = Sets name first in
    let all = All-permutation P (a ∷ []) (b ∷ []) moved (All-cons P a [] (λ is. refl) (All-nil P)) in
    let is : second ≡ first = All-head P b [] all refl in
    sym is

-- the lines of two plans differ
line-same : (one two : Plan) → (line one).command ≡ (line two).command → IsPermutation (line one).options (line two).options → one ≡ two
line-same (ExecFresh secret) (ExecFresh other) command moved = ap (λ secret. ExecFresh secret) (one-same ROOT_SECRET.now secret other moved)
line-same (ExecFresh secret) (Exec other another) command moved = absurd (omega (arith, length_permutation _ _ moved))
line-same (ExecFresh secret) (Init other another) command moved = absurd (exec-not-init command)
line-same (Exec catalogue objects) (ExecFresh other) command moved = absurd (omega (arith, length_permutation _ _ moved))
line-same (Exec catalogue objects) (Exec other another) command moved =
    let same = two-same CATALOGUE.now OBJECTS.now catalogue objects other another catalogue-not-objects moved in
    λ i. Exec (same.0 i) (same.1 i)
line-same (Exec catalogue objects) (Init other another) command moved = absurd (exec-not-init command)
line-same (Init catalogue objects) (ExecFresh other) command moved = absurd (exec-not-init (sym command))
line-same (Init catalogue objects) (Exec other another) command moved = absurd (exec-not-init (sym command))
line-same (Init catalogue objects) (Init other another) command moved =
    let same = two-same CATALOGUE.now OBJECTS.now catalogue objects other another catalogue-not-objects moved in
    λ i. Init (same.0 i) (same.1 i)

-- words are one line at most
lines-one : (words : List (List ℕ)) (one two : Line) → IsLine words one → IsLine words two → (one.command ≡ two.command) × IsPermutation one.options two.options
lines-one words one two first second =
    let is : one.command ∷ first.0 ≡ two.command ∷ second.0 = sym first.1 ∙ second.1 in
    let command : one.command ≡ two.command = cc in
    let rest : first.0 ≡ second.0 = cc in
    let given = options-one second.0 first.2.0 second.2.0 (subst (λ rest. AreOptions rest first.2.0) rest first.2.1) second.2.1 in
    let moved : IsPermutation first.2.0 two.options = subst (λ given. IsPermutation given two.options) (sym given) second.2.2 in
    (command, IsPermutation-trans _ _ _ (IsPermutation-sym _ _ first.2.2) moved)

-- words mean one thing at most
pub means-one : (words : List (List ℕ)) (one two : Plan) → Means words one → Means words two → one ≡ two
means-one words one two first second =
    let same = lines-one words (line one) (line two) first second in
    line-same one two same.0 same.1

-- a line of another command
line-else : (word : List ℕ) (rest : List (List ℕ)) (line : Line) → word ≢ line.command → ¬ (IsLine (word ∷ rest) line)
line-else word rest line other is =
    let words = is.1 in
    let same : word ≡ line.command = cc in
    other same

-- a line whose options aren't those
line-without : (words : List (List ℕ)) (command : List ℕ) (names : List (List ℕ)) (line : Line) → GivesValues words names None → names_of line.options ≡ names → ¬ (IsLine (command ∷ words) line)
line-without words command names line none named is =
    let both = is.1 in
    let rest : is.0 ≡ words = cc in
    none line.options named (subst (λ rest. AreInSomeOrder rest line.options) rest is.2)

-- words of `exec` that mean nothing
pub exec-nothing : (options : List (List ℕ)) → GivesValues options (ROOT_SECRET.now ∷ []) None → GivesValues options (CATALOGUE.now ∷ OBJECTS.now ∷ []) None → MeansNothing (EXEC.now ∷ options)
exec-nothing options fresh kept (ExecFresh secret) = line-without options EXEC.now _ _ fresh refl
exec-nothing options fresh kept (Exec catalogue objects) = line-without options EXEC.now _ _ kept refl
exec-nothing options fresh kept (Init catalogue objects) = line-else EXEC.now options _ exec-not-init

-- words of `init` that mean nothing
pub init-nothing : (options : List (List ℕ)) → GivesValues options (CATALOGUE.now ∷ OBJECTS.now ∷ []) None → MeansNothing (INIT.now ∷ options)
init-nothing options kept (ExecFresh secret) = line-else INIT.now options _ (λ is. exec-not-init (sym is))
init-nothing options kept (Exec catalogue objects) = line-else INIT.now options _ (λ is. exec-not-init (sym is))
init-nothing options kept (Init catalogue objects) = line-without options INIT.now _ _ kept refl

-- words of no command mean nothing
pub else-nothing : (word : List ℕ) (options : List (List ℕ)) → word ≢ EXEC.now → word ≢ INIT.now → MeansNothing (word ∷ options)
else-nothing word options exec init (ExecFresh secret) = line-else word options _ exec
else-nothing word options exec init (Exec catalogue objects) = line-else word options _ exec
else-nothing word options exec init (Init catalogue objects) = line-else word options _ init

-- no words mean nothing
pub empty-nothing : (words : List (List ℕ)) → words ≡ [] → MeansNothing words
empty-nothing words empty plan means =
    let is = sym empty ∙ means.1 in cc

-- words that mean a plan don't mean nothing
pub spoken : {P : Type 0} (plan : Plan) (rest : List (List ℕ)) → AreInSomeOrder rest (line plan).options → MeansNothing ((line plan).command ∷ rest) → P
spoken plan rest are nothing = absurd (nothing plan (rest, refl, are))
