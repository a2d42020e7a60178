-- The text of an answer, piece by piece.
use Rattle.std.proofs.Common.{◌≡◌, ℕ, Bool, true, false, ◌&&◌, nat_le, nat_lt, ◌≢◌, le-leb, leb-true, if◌then◌else◌, List, [], ◌++◌, Option, unwrap_or, Decides, codes, decimal, refl, sym, ap, ◌∙◌, append_assoc}
use Rattle.std.proofs.lemmas.Bool.Decides.{Decides-and, Decides-ltb}
use Rattle.http.specs.StatusCode.{IsStatusCode, reason_phrase}
use Rattle.pol_http.specs.Answer.{phrase, status_line, body_fields, close_field, content, answer_text}
use Rattle.pol_http.specs.declared.answer.Answer.{Answer}

-- the status line, and what follows it
pub status_line-then : (status : ℕ) (rest : List ℕ)
    → codes "HTTP/1.1 " ++ (decimal status ++ (codes " " ++ (phrase status ++ (codes "\r\n" ++ rest)))) ≡ status_line status ++ rest
unfolding status_line
status_line-then status rest =
    λ k. codes "HTTP/1.1 " ++ (sym (append_assoc (decimal status) (codes " " ++ (phrase status ++ codes "\r\n")) rest
    ∙ (λ j. decimal status ++ (codes " " ++ append_assoc (phrase status) (codes "\r\n") rest j))) k)

-- the head and the content are the text
pub head-then-content : (answer : Answer)
    → (status_line answer.status ++ (body_fields answer ++ (close_field answer.close ++ codes "\r\n"))) ++ content answer ≡ answer_text answer
unfolding answer_text
head-then-content answer =
    let line = status_line answer.status in
    let fields = body_fields answer in
    let close = close_field answer.close in
    append_assoc line (fields ++ (close ++ codes "\r\n")) (content answer)
    ∙ ap (λ rest. line ++ rest) (append_assoc fields (close ++ codes "\r\n") (content answer)
    ∙ ap (λ rest. fields ++ rest) (append_assoc close (codes "\r\n") (content answer)))

-- the test that a number is a status code
tested : (status : ℕ) → Decides (nat_le 100 status && nat_lt status 1000) (IsStatusCode status)
tested status = Decides-and (nat_le 100 status) (nat_lt status 1000) (leb-true 100 status, le-leb 100 status) (Decides-ltb status 1000)

-- the phrase of a status code
pub phrase-known : (status : ℕ) (known : Option (List ℕ)) → IsStatusCode status → known ≡ reason_phrase status
    → unwrap_or known [] ≡ phrase status
unfolding phrase
phrase-known status known code is =
    ap (λ found. unwrap_or found []) is
    ∙ (λ k. if sym ((tested status).1 code) k then unwrap_or (reason_phrase status) [] else [])

-- another number has none
pub phrase-none : (status : ℕ) → ¬ (IsStatusCode status) → [] ≡ phrase status
unfolding phrase
phrase-none status no_code =
    second (nat_le 100 status && nat_lt status 1000) (unwrap_or (reason_phrase status) []) (λ is. no_code ((tested status).0 is))
  where
    second : (test : Bool) (first : List ℕ) → test ≢ true → [] ≡ (if test then first else [])
    second true first fails = absurd (fails refl)
    second false first fails = refl
