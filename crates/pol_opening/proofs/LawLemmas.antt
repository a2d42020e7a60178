-- The bytes of a journal lead to one state, or stop at one gate.
use Rattle.std.proofs.Common.{◌≡◌, ◌≢◌, inl, inr, ⊎_elim, ℕ, ◌+◌, ◌^◌, ◌<◌, ◌≤◌, List, [], ◌∷◌, ◌++◌, length, take, drop, refl, sym, ◌∙◌, ap, subst, arith, append_assoc, length-append}
use Rattle.std.specs.Int.{w64, to_be_bytes, from_be_bytes}
use Rattle.std.proofs.lemmas.List.{take_at, drop_at}
use Rattle.std.proofs.lemmas.Nat.{from_be_bytes-to_be_bytes_8}
use Rattle.pol_changecodec.specs.Change.{changes as changes_form}
use Rattle.pol_content.specs.declared.change.Change.{Change}
use Rattle.pol_forms.proofs.LawLemmas.{tell_values}
use Rattle.pol_journal.specs.Format.{IsBroken, IsClosed, IsNoJournal, extent, framed, header_of, record_of, records_of}
use Rattle.pol_journal.specs.declared.kind.Kind.TheVariants.{Catalogue}
use Rattle.pol_journal.proofs.FormatLemmas.{length-framed, length-header}
use Rattle.pol_journal.proofs.LawLemmas.{one_list}
use Rattle.pol_opening.specs.Laws.{AreOpenedToOneState, AreRefusedAtOneGate, NoJournalIsNeither, OpenedAreNotRefused}
use Rattle.pol_opening.specs.Opening.{IsUnfit, LeadsBy, LeadsNowhere, LeadsTo}
use Rattle.pol_soundness.specs.Base.{rows_after}
use Rattle.pol_state.specs.Rows.{Rows, empty_state}

-- a body leads to one state
by_once : (body : List ℕ) (s t u : Rows) → LeadsBy body s t → LeadsBy body s u → t ≡ u
by_once body s t u one other =
    one.after
    ∙ ap (λ (made : List Change). rows_after made s) (tell_values changes_form body one.changes other.changes one.form other.form)
    ∙ sym other.after

leads_once : (bodies : List (List ℕ)) (s t u : Rows) → LeadsTo s bodies t → LeadsTo s bodies u → t ≡ u
unfolding LeadsTo
leads_once [] s t u one other = one ∙ sym other
leads_once (body ∷ bodies) s t u one other =
    leads_once bodies other.0 t u (subst (λ (r : Rows). LeadsTo r bodies t) (by_once body s one.0 other.0 one.1 other.1) one.2) other.2

-- two fronts and what follows them
abbrev AreSame : {A : Type 0} → A → List ℕ → A → List ℕ → Type 0
AreSame a s b t = (a ≡ b) × (s ≡ t)

fronts : (a b c d : List ℕ) → length a ≡ length c → a ++ b ≡ c ++ d → AreSame a b c d
fronts a b c d long is = (
  sym (take_at a b (length a) refl) ∙ ap (λ (l : List ℕ). take (length a) l) is ∙ take_at c d (length a) (sym long),
  sym (drop_at a b (length a) refl) ∙ ap (λ (l : List ℕ). drop (length a) l) is ∙ drop_at c d (length a) (sym long),
)

head_is : (x y : ℕ) (xs ys : List ℕ) → x ∷ xs ≡ y ∷ ys → x ≡ y
head_is x y xs ys is = cc

tail_is : (x y : ℕ) (xs ys : List ℕ) → x ∷ xs ≡ y ∷ ys → xs ≡ ys
tail_is x y xs ys is = cc

-- a record is cut off in one way
cut_frames : (x y r s : List ℕ) → length x < 2 ^ 64 → length y < 2 ^ 64 → framed x ++ r ≡ framed y ++ s → AreSame x r y s
unfolding framed
cut_frames x y r s short short_too is =
    let apart = fronts (to_be_bytes w64 (length x)) (x ++ r) (to_be_bytes w64 (length y)) (y ++ s) refl
    (sym (append_assoc (to_be_bytes w64 (length x)) x r) ∙ is ∙ append_assoc (to_be_bytes w64 (length y)) y s) in
    let long : length x ≡ length y =
    sym (from_be_bytes-to_be_bytes_8 (length x) short) ∙ ap (λ (l : List ℕ). from_be_bytes w64 l) apart.0 ∙ from_be_bytes-to_be_bytes_8 (length y) short_too in
    fronts x r y s long apart.1

cut_records : (x y r s : List ℕ) → length (record_of x ++ r) < 2 ^ 64 → record_of x ++ r ≡ record_of y ++ s → AreSame x r y s
cut_records x y r s short is =
    cut_frames x y r s (omega (arith, short, length-append (record_of x) r, length-framed x))
    (omega (arith, short, ap length is, length-append (record_of y) s, length-framed y)) (tail_is 1 1 (framed x ++ r) (framed y ++ s) is)

-- no record that leads on stands here
abbrev NoneLeads : Rows → List ℕ → Type 0
NoneLeads s tail = (body rest : List ℕ) (t : Rows) → tail ≡ record_of body ++ rest → LeadsBy body s t → ⊥

closed_leads : (s : Rows) (tail : List ℕ) → IsClosed tail → NoneLeads s tail
closed_leads s [] closed body rest t is leads = closed
closed_leads s (gate ∷ more) closed body rest t is leads = closed (head_is gate 1 more (framed body ++ rest) is)

number_is : (body rest : List ℕ) → length body < 2 ^ 64 → from_be_bytes w64 (take 8 (framed body ++ rest)) ≡ length body
unfolding framed
number_is body rest short =
    ap (λ (l : List ℕ). from_be_bytes w64 (take 8 l)) (append_assoc (to_be_bytes w64 (length body)) body rest)
    ∙ ap (λ (l : List ℕ). from_be_bytes w64 l) (take_at (to_be_bytes w64 (length body)) (body ++ rest) 8 refl)
    ∙ from_be_bytes-to_be_bytes_8 (length body) short

broken_leads : (s : Rows) (tail : List ℕ) → length tail < 2 ^ 64 → IsBroken tail → NoneLeads s tail
broken_leads s [] short broken body rest t is leads = cc
broken_leads s (gate ∷ more) short broken body rest t is leads =
    let same : more ≡ framed body ++ rest = tail_is gate 1 more (framed body ++ rest) is in
    let long : length more ≡ 8 + length body + length rest = omega (arith, ap length same, length-append (framed body) rest, length-framed body) in
    let number : from_be_bytes w64 (take 8 more) ≡ length body = ap (λ (l : List ℕ). from_be_bytes w64 (take 8 l)) same ∙ number_is body rest (omega (arith, short, long)) in
    ⊎_elim (λ few. omega arith) (λ few. omega arith) broken.1

unfit_leads : (s : Rows) (tail : List ℕ) → length tail < 2 ^ 64 → IsUnfit s tail → NoneLeads s tail
unfit_leads s tail short unfit body rest t is leads =
    let same = cut_records body unfit.body rest unfit.stands.rest (omega (arith, short, ap length is)) (sym is ∙ unfit.stands.bytes) in
    unfit.unfit t (subst (λ (b : List ℕ). LeadsBy b s t) same.0 leads)

nowhere_leads : (bodies : List (List ℕ)) (s : Rows) (tail : List ℕ) → length tail < 2 ^ 64 → LeadsNowhere bodies s tail → NoneLeads s tail
nowhere_leads bodies s tail short (inl broken) = broken_leads s tail short broken
nowhere_leads bodies s tail short (inr (inl none)) = closed_leads s tail none.closed
nowhere_leads bodies s tail short (inr (inr unfit)) = unfit_leads s tail short unfit

record_first : (x : List ℕ) (a : List (List ℕ)) (s : List ℕ) → records_of (x ∷ a) ++ s ≡ record_of x ++ (records_of a ++ s)
unfolding records_of
record_first x a s = append_assoc (record_of x) (records_of a) s

-- two lists of bodies that lead on from one state, up to where none does
one_stop : (a b : List (List ℕ)) (s u v : Rows) (r t : List ℕ) → length (records_of a ++ r) < 2 ^ 64 → LeadsTo s a u → LeadsTo s b v → NoneLeads u r → NoneLeads v t
    → records_of a ++ r ≡ records_of b ++ t → AreSame a r b t
unfolding records_of LeadsTo
one_stop [] [] s u v r t short leads leads_too none none_too is = (refl, is)
one_stop [] (y ∷ b) s u v r t short leads leads_too none none_too is =
    absurd (none y (records_of b ++ t) leads_too.0 (is ∙ record_first y b t) (subst (λ (w : Rows). LeadsBy y w leads_too.0) (sym leads) leads_too.1))
one_stop (x ∷ a) [] s u v r t short leads leads_too none none_too is =
    absurd (none_too x (records_of a ++ r) leads.0 (sym is ∙ record_first x a r) (subst (λ (w : Rows). LeadsBy x w leads.0) (sym leads_too) leads.1))
one_stop (x ∷ a) (y ∷ b) s u v r t short leads leads_too none none_too is =
    let first = record_first x a r in
    let apart = cut_records x y (records_of a ++ r) (records_of b ++ t) (omega (arith, short, ap length first)) (sym first ∙ is ∙ record_first y b t) in
    let same : leads.0 ≡ leads_too.0 =
    by_once y s leads.0 leads_too.0 (subst (λ (body : List ℕ). LeadsBy body s leads.0) apart.0 leads.1) leads_too.1 in
    let others = one_stop a b leads_too.0 u v r t (omega (arith, short, ap length first, length-append (record_of x) (records_of a ++ r)))
    (subst (λ (w : Rows). LeadsTo w a u) same leads.2) leads_too.2 none none_too apart.1 in
    ((λ i. apart.0 i ∷ others.0 i), others.1)

-- the same of whole files
file_stop : (file : List ℕ) (a b : List (List ℕ)) (u v : Rows) (r t : List ℕ) → length file < 2 ^ 64 → LeadsTo empty_state a u → LeadsTo empty_state b v
    → file ≡ header_of Catalogue ++ (records_of a ++ r) → file ≡ header_of Catalogue ++ (records_of b ++ t)
    → (length r < 2 ^ 64 → NoneLeads u r) → (length t < 2 ^ 64 → NoneLeads v t) → AreSame a r b t
file_stop file a b u v r t short leads leads_too is is_too none none_too =
    let behind = fronts (header_of Catalogue) (records_of a ++ r) (header_of Catalogue) (records_of b ++ t) refl (sym is ∙ is_too) in
    let long = length-append (header_of Catalogue) (records_of a ++ r) in
    let long_too = length-append (header_of Catalogue) (records_of b ++ t) in
    one_stop a b empty_state u v r t (omega (arith, short, ap length is, long)) leads leads_too
    (none (omega (arith, short, ap length is, long, length-append (records_of a) r)))
    (none_too (omega (arith, short, ap length is_too, long_too, length-append (records_of b) t))) behind.1

pub one_state : AreOpenedToOneState
one_state file s t short opened other =
    leads_once other.bodies empty_state s t
    (subst (λ (bodies : List (List ℕ)). LeadsTo empty_state bodies s) (one_list Catalogue file opened.bodies other.bodies short opened.stands other.stands) opened.leads)
    other.leads

pub one_gate : AreRefusedAtOneGate
one_gate file at other short refused later =
    let same = file_stop file refused.bodies later.bodies refused.rows later.rows refused.read.tail later.read.tail short refused.leads later.leads
    refused.read.bytes later.read.bytes
    (λ short_tail. nowhere_leads refused.bodies refused.rows refused.read.tail short_tail refused.nowhere)
    (λ short_tail. nowhere_leads later.bodies later.rows later.read.tail short_tail later.nowhere) in
    omega (arith, refused.read.place, later.read.place, ap extent same.0)

closed_nowhere : (bodies : List (List ℕ)) (s : Rows) (gate : ℕ) (rest : List ℕ) → bodies ≢ [] → gate ≢ 1 → LeadsNowhere bodies s (gate ∷ rest) → ⊥
closed_nowhere bodies s gate rest some closed (inl broken) = closed broken.0
closed_nowhere bodies s gate rest some closed (inr (inl none)) = some none.none_before
closed_nowhere bodies s gate rest some closed (inr (inr unfit)) =
    closed (head_is gate 1 rest (framed unfit.body ++ unfit.stands.rest) unfit.stands.bytes)

pub not_refused : OpenedAreNotRefused
not_refused file s at short opened refused =
    let stands = opened.stands in
    let same = file_stop file opened.bodies refused.bodies s refused.rows (stands.gate ∷ stands.rest) refused.read.tail short opened.leads refused.leads
    stands.bytes refused.read.bytes
    (λ short_tail. closed_leads s (stands.gate ∷ stands.rest) stands.closed)
    (λ short_tail. nowhere_leads refused.bodies refused.rows refused.read.tail short_tail refused.nowhere) in
    closed_nowhere opened.bodies refused.rows stands.gate stands.rest opened.some stands.closed
    (subst (λ (tail : List ℕ). LeadsNowhere opened.bodies refused.rows tail) (sym same.1) (subst (λ (bodies : List (List ℕ)). LeadsNowhere bodies refused.rows refused.read.tail) (sym same.0) refused.nowhere))

-- a file with a header and a byte behind it is a journal
is_journal : (file behind : List ℕ) → 65 ≤ length file → file ≡ header_of Catalogue ++ behind → IsNoJournal Catalogue file → ⊥
is_journal file behind long is (inl few) = omega arith
is_journal file behind long is (inr other) = other (ap (λ (l : List ℕ). take 64 l) is ∙ take_at (header_of Catalogue) behind 64 (length-header Catalogue))

pub neither : NoJournalIsNeither
neither file none (inl opened) =
    let stands = opened.1.stands in
    is_journal file (records_of opened.1.bodies ++ stands.gate ∷ stands.rest)
    (omega (arith, ap length stands.bytes, length-append (header_of Catalogue) (records_of opened.1.bodies ++ stands.gate ∷ stands.rest), length-append (records_of opened.1.bodies) (stands.gate ∷ stands.rest), length-header Catalogue))
    stands.bytes none
neither file none (inr refused) =
    is_journal file (records_of refused.1.bodies ++ refused.1.read.tail) refused.1.read.long refused.1.read.bytes none
