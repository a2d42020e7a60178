-- The texts of segments, read one behind another.
use Rattle.std.proofs.Common.{◌≡◌, ℕ, ◌+◌, ◌<◌, List, [], ◌∷◌, ◌++◌, length, drop, get_or, Result, Ok, Err, refl, sym, subst, ap, ◌∙◌, append-nil, append_assoc, arith, Option, Some, None}
use Rattle.std.proofs.lemmas.Iterator.{YieldsList}
use Rattle.std.proofs.lemmas.Iterator.Consumers.{YieldsList-turn, YieldsList-end}
use Rattle.std.proofs.lemmas.List.{drop_more, drop_all}
use Rattle.std.specs.Iterator.{Yields}
use Rattle.pol_requests.proofs.RefusedLemmas.{stopped}
use Rattle.pol_requests.specs.Refused.{Meets, ◌>>=◌}
use Rattle.pol_requests.specs.declared.refused.RouteRefused.{RouteRefused}
use Rattle.pol_requests.specs.declared.refused.Unplanned.{Unplanned}
use Rattle.pol_routes.specs.Objects.{segment_texts}
use Rattle.pol_routes.specs.Segment.{segment_text}

-- the next item of an iterator, and its end: what it has yielded is told before what it yields
module _ {S A B : Type 0} {steps : S → Option A → S → Type 0} {v : A → B} {s start : S} {all : List B} (xs : List A) (t : S) (yields : Yields steps s xs t) where
  pub turn_of : (next : Option A) (u : S) (x : A) → next ≡ Some x → steps t next u → s ≡ start → YieldsList steps v start all
      → (length xs < length all) × (v x ≡ get_or all (length xs) (v x))
  turn_of next u x is gives same road =
      YieldsList-turn (subst (λ state. YieldsList steps v state all) (sym same) road) xs t yields next u x is gives

  pub end_of : (next : Option A) (u : S) → next ≡ None → steps t next u → s ≡ start → YieldsList steps v start all → length xs ≡ length all
  end_of next u is gives same road = (YieldsList-end (subst (λ state. YieldsList steps v state all) (sym same) road) xs t yields next u is gives).1

-- texts that were read, and what is read of the segments behind them
abbrev pub read_on : List (List ℕ) → List (List ℕ) → Result (List (List ℕ)) RouteRefused
read_on texts rest = segment_texts rest >>= λ more. Ok (texts ++ more)

-- what was read with one text more
behind : (texts : List (List ℕ)) (text : List ℕ) (rest : Result (List (List ℕ)) RouteRefused)
    → ((rest >>= λ more. Ok (text ∷ more)) >>= λ more. Ok (texts ++ more)) ≡ (rest >>= λ more. Ok ((texts ++ text ∷ []) ++ more))
behind texts text (Ok more) = ap Ok (sym (append_assoc texts (text ∷ []) more))
behind texts text (Err why) = refl

-- one segment is read before the others
opened : (segment : List ℕ) (rest : List (List ℕ))
    → segment_texts (segment ∷ rest) ≡ (segment_text segment >>= λ text. segment_texts rest >>= λ texts. Ok (text ∷ texts))
unfolding segment_texts
opened segment rest = refl

-- nothing is behind the last
closed : segment_texts [] ≡ Ok []
unfolding segment_texts
closed = refl

-- nothing was read yet
begun : (found : Result (List (List ℕ)) RouteRefused) → found ≡ (found >>= λ more. Ok ([] ++ more))
begun (Ok more) = refl
begun (Err why) = refl

pub read_nothing : (all : List (List ℕ)) → segment_texts all ≡ read_on [] all
read_nothing all = begun (segment_texts all)

-- the segment at a place is the next
next_is : (all texts : List (List ℕ)) (segment : List ℕ) (n : ℕ) → segment_texts all ≡ read_on texts (drop n all) → n < length all
    → segment ≡ get_or all n segment
    → segment_texts all ≡ ((segment_text segment >>= λ text. segment_texts (drop (n + 1) all) >>= λ more. Ok (text ∷ more)) >>= λ more. Ok (texts ++ more))
next_is all texts segment n read inside is =
    let split = drop_more all n segment inside ∙ ap (λ first. first ∷ drop (n + 1) all) (sym is) in
    read ∙ ap (read_on texts) split ∙ ap (λ found. found >>= λ more. Ok (texts ++ more)) (opened segment (drop (n + 1) all))

-- one more is read
pub text_more : (all texts next : List (List ℕ)) (segment text : List ℕ) (n m : ℕ) → segment_texts all ≡ read_on texts (drop n all)
    → n < length all → segment ≡ get_or all n segment → segment_text segment ≡ Ok text → next ≡ texts ++ text ∷ [] → m ≡ n + 1
    → segment_texts all ≡ read_on next (drop m all)
text_more all texts next segment text n m read inside is found pushed one =
    next_is all texts segment n read inside is
    ∙ ap (λ first. (first >>= λ text. segment_texts (drop (n + 1) all) >>= λ more. Ok (text ∷ more)) >>= λ more. Ok (texts ++ more)) found
    ∙ behind texts text (segment_texts (drop (n + 1) all))
    ∙ (λ i. read_on (sym pushed i) (drop (sym one i) all))

-- one can't be read
pub text_stops : (all texts : List (List ℕ)) (segment : List ℕ) (n : ℕ) (why : Unplanned) → segment_texts all ≡ read_on texts (drop n all)
    → n < length all → segment ≡ get_or all n segment → Meets (segment_text segment) (Err why) → Meets (segment_texts all) (Err why)
text_stops all texts segment n why read inside is unread =
    let first = stopped (segment_text segment) (λ text. segment_texts (drop (n + 1) all) >>= λ more. Ok (text ∷ more)) why unread in
    let both = stopped (segment_text segment >>= λ text. segment_texts (drop (n + 1) all) >>= λ more. Ok (text ∷ more)) (λ more. Ok (texts ++ more)) why first in
    subst (λ expected. Meets expected (Err why)) (sym (next_is all texts segment n read inside is)) both

-- all were read
pub texts_whole : (all texts : List (List ℕ)) (n : ℕ) → segment_texts all ≡ read_on texts (drop n all) → n ≡ length all → segment_texts all ≡ Ok texts
texts_whole all texts n read end =
    read ∙ ap (read_on texts) (drop_all n all (omega (arith, end)))
    ∙ ap (λ found. found >>= λ more. Ok (texts ++ more)) closed ∙ ap Ok (append-nil texts)
