-- A request target that hasn't ended yet.
use Rattle.std.proofs.Common.{◌≡◌, ℕ, ◌<◌, ◌≤◌, Bool, true, false, List, [], ◌∷◌, ◌++◌, length, IsUtf8, All, IsTrue, eqb, refl, sym, ap, ◌∙◌, subst, arith, get_or, take, drop, ◌+◌, ◌-◌, length-append, length-take, get_or-take, take-append-drop, append_assoc, inl, inr}
use Rattle.std.specs.List.{AllWithin}
use Rattle.std.proofs.lemmas.List.{drop_more, take_rest}
use Rattle.std.proofs.lemmas.List.Elements.{All-nil, All-cons, All-head, All-tail, All-append, All-weaker}
use Rattle.std.proofs.lemmas.Bool.Decides.{nat_tests}
use Rattle.std.proofs.lemmas.Str.{IsUtf8-append, IsUtf8-from_ascii}
use Rattle.std.proofs.lemmas.Str.Ascii.{IsAscii-cons, IsAscii-nil}
use Rattle.httparse.specs.Grammar.{is_token_byte, is_uri_byte, AllPass, LineEnd, crlf, lf, print_end, print_blank, print_version, print_section, RequestHead, print_request, IsRequestHead, IsToken, IsField, NeverHasRequest, EndsInTarget, MayBecomeRequest}
use Rattle.httparse.proofs.GrammarLemmas.{cons-append, print_request-append}
use Rattle.httparse.proofs.PieceLemmas.{space_ends_token}
use Rattle.httparse.proofs.RunLemmas.{run_unique, run_unstopped}
use Rattle.pol_http.specs.Reading.{CanHaveRequest}
use Rattle.pol_http.specs.Text.{IsBeyondRepair, CanBecomeText, is_no_space, IsAfterFirstSpace, IsAfterOnlySpace}

-- ---- where spaces stand

token_no_space : (byte : ℕ) → is_token_byte byte ≡ true → is_no_space byte ≡ true
token_no_space byte token = by_case (eqb byte 32) refl
  where
    by_case : (b : Bool) → eqb byte 32 ≡ b → is_no_space byte ≡ true
    by_case true same = let is : byte ≡ 32 = grind (arith, nat_tests) in absurd (cc (ap is_token_byte is, space_ends_token))
    by_case false other = rw other

uri_no_space : (byte : ℕ) → is_uri_byte byte ≡ true → is_no_space byte ≡ true
uri_no_space byte passes = grind (arith, nat_tests)

high_is_uri : (byte : ℕ) → 128 ≤ byte → is_uri_byte byte ≡ true
high_is_uri byte high = grind (arith, nat_tests)

one_no_space : (byte : ℕ) → is_no_space byte ≡ true → AllPass is_no_space (byte ∷ [])
one_no_space byte passes = All-cons (λ b. IsTrue (is_no_space b)) byte [] passes (All-nil (λ b. IsTrue (is_no_space b)))

end_no_space : (end : LineEnd) → AllPass is_no_space (print_end end)
end_no_space crlf = All-cons (λ b. IsTrue (is_no_space b)) 13 (10 ∷ []) refl (one_no_space 10 refl)
end_no_space lf = one_no_space 10 refl

blank_no_space : (ends : List LineEnd) → AllPass is_no_space (print_blank ends)
blank_no_space [] = All-nil _
blank_no_space (end ∷ ends) = All-append (λ b. IsTrue (is_no_space b)) (print_end end) (print_blank ends) (end_no_space end) (blank_no_space ends)

front_no_space : (ends : List LineEnd) (method : List ℕ) → AllPass is_token_byte method
    → AllPass is_no_space (print_blank ends ++ method)
front_no_space ends method token =
    All-append (λ b. IsTrue (is_no_space b)) (print_blank ends) method (blank_no_space ends)
    (All-weaker (λ b. IsTrue (is_token_byte b)) (λ b. IsTrue (is_no_space b)) token_no_space method token)

-- bytes without a space that stand before a space stand in what the space ends
prefix_of_run : (a b x y : List ℕ) → AllPass is_no_space a → a ++ y ≡ b ++ 32 ∷ x → (more : List ℕ) × (b ≡ a ++ more)
prefix_of_run [] b x y pass same = (b, refl)
prefix_of_run (byte ∷ a) [] x y pass same =
    let is : byte ≡ 32 = cc in
    absurd (grind (arith, nat_tests, All-head (λ b. IsTrue (is_no_space b)) byte a pass))
prefix_of_run (byte ∷ a) (first ∷ b) x y pass same =
    let rest = prefix_of_run a b x y (All-tail (λ b. IsTrue (is_no_space b)) byte a pass) (cc) in
    (rest.0, let same_byte : first ≡ byte = cc in cc (rest.1))

-- ---- what follows the first space, and the only one

pub first_space : (bytes : List ℕ) (i : ℕ) → i < length bytes → get_or bytes i 0 ≡ 32
    → AllWithin (λ byte. is_no_space byte ≡ true) bytes 0 i
    → IsAfterFirstSpace bytes (take (length bytes - (i + 1)) (drop (i + 1) bytes))
first_space bytes i inside is none = (
  take i bytes,
  λ k d below.
      let before : k < i = omega (arith, length-take i bytes) in
      rw get_or-take (none k d (omega arith) before),
  sym (take-append-drop i bytes)
      ∙ ap (λ t. take i bytes ++ t) (drop_more bytes i 0 inside ∙ rw (is, take_rest bytes (i + 1))),
)

pub no_only_space : {bytes : List ℕ} → AllPass is_no_space bytes → (target : List ℕ) → ¬ (IsAfterOnlySpace bytes target)
no_only_space {bytes} none target (front, front_pass, pass, is) =
    run_unstopped is_no_space front (32 ∷ target) (subst (AllPass is_no_space) is none) refl

pub no_second_space : {bytes rest more : List ℕ} → IsAfterFirstSpace bytes rest → IsAfterFirstSpace rest more
    → (target : List ℕ) → ¬ (IsAfterOnlySpace bytes target)
no_second_space {rest} {more} (front, front_pass, is) (second, second_pass, is') target (other, other_pass, pass, is'') =
    let same = run_unique is_no_space front other (32 ∷ rest) (32 ∷ target) front_pass other_pass refl refl (sym is ∙ is'') in
    let rest_is : target ≡ second ++ 32 ∷ more = cc (same.1, is') in
    run_unstopped is_no_space second (32 ∷ more) (subst (AllPass is_no_space) rest_is pass) refl

-- ---- what the test of an open target says

pub never_from_target : (bytes target : List ℕ) → IsAfterOnlySpace bytes target → IsBeyondRepair target → NeverHasRequest bytes
never_from_target bytes target (front, front_pass, target_pass, is) broken more h rest reads =
    let after = h.target ++ 32 ∷ (print_version h.minor ++ (print_end h.line_end ++ (print_section h.fields h.last ++ rest))) in
    let split : front ++ 32 ∷ (target ++ more) ≡ (print_blank h.blank ++ h.method) ++ 32 ∷ after =
    sym (append_assoc front (32 ∷ target) more) ∙ ap (λ t. t ++ more) (sym is) ∙ reads.1 ∙ print_request-append h rest
    ∙ sym (append_assoc (print_blank h.blank) h.method (32 ∷ after)) in
    let same = run_unique is_no_space front (print_blank h.blank ++ h.method) _ _ front_pass
    (front_no_space h.blank h.method reads.0.method.1) refl refl split in
    let tail : target ++ more ≡ after = cc (same.1) in
    let prefix = prefix_of_run target h.target _ more target_pass tail in
    broken prefix.0 (subst IsUtf8 prefix.1 reads.0.target_text)

-- the target that is still being read follows the one space
pub only_space_from_target : {bytes : List ℕ} → (open_target : EndsInTarget bytes) → IsAfterOnlySpace bytes open_target.2
only_space_from_target (ends, method, target, token, pass, is) = (
  print_blank ends ++ method,
  front_no_space ends method token.1,
  All-weaker (λ b. IsTrue (is_uri_byte b)) (λ b. IsTrue (is_no_space b)) uri_no_space target pass,
  is,
)

-- one text follows the one space
same_after_space : {bytes a b : List ℕ} → IsAfterOnlySpace bytes a → IsAfterOnlySpace bytes b → a ≡ b
same_after_space {a} {b} (front, front_pass, pass, is) (other, other_pass, pass', is') =
    let same = run_unique is_no_space front other (32 ∷ a) (32 ∷ b) front_pass other_pass refl refl (sym is ∙ is') in
    cc (same.1)

-- a slash, the version and two line ends, after what mends the target
abbrev rest_of_head : List ℕ → List ℕ
rest_of_head more = more ++ (47 ∷ 32 ∷ (print_version 1 ++ (10 ∷ 10 ∷ [])))

head_of : List LineEnd → List ℕ → List ℕ → RequestHead
head_of ends method target = record {
  blank = ends;
  method = method;
  target = target;
  minor = 1;
  line_end = lf;
  fields = [];
  last = lf;
}

regroup : (target more tail : List ℕ)
    → (target ++ (more ++ 47 ∷ [])) ++ 32 ∷ tail ≡ target ++ (more ++ 47 ∷ 32 ∷ tail)
regroup target more tail =
    append_assoc target (more ++ 47 ∷ []) (32 ∷ tail) ∙ ap (λ t. target ++ t) (append_assoc more (47 ∷ []) (32 ∷ tail))

reads_head : (ends : List LineEnd) (method target more : List ℕ)
    → (print_blank ends ++ method ++ 32 ∷ target) ++ rest_of_head more
    ≡ print_request (head_of ends method (target ++ (more ++ 47 ∷ []))) ++ []
unfolding head_of
reads_head ends method target more =
    simp (append_assoc, cons-append)
    (sym (print_request-append (head_of ends method (target ++ (more ++ 47 ∷ []))) []
    ∙ ap (λ t. print_blank ends ++ (method ++ 32 ∷ t)) (regroup target more (print_version 1 ++ (10 ∷ 10 ∷ [])))))

is_head : (ends : List LineEnd) (method target more : List ℕ) → IsToken method → AllPass is_uri_byte target
    → All (λ byte. 128 ≤ byte) more → IsUtf8 (target ++ more) → IsRequestHead (head_of ends method (target ++ (more ++ 47 ∷ [])))
unfolding head_of
is_head ends method target more token pass high text =
    let slash : AllPass is_uri_byte (47 ∷ []) = All-cons (λ b. IsTrue (is_uri_byte b)) 47 [] refl (All-nil (λ b. IsTrue (is_uri_byte b))) in
    let mended = All-weaker (λ byte. 128 ≤ byte) (λ b. IsTrue (is_uri_byte b)) high_is_uri more high in
    let tail = All-append (λ b. IsTrue (is_uri_byte b)) more (47 ∷ []) mended slash in
    let ascii = IsUtf8-from_ascii (47 ∷ []) (IsAscii-cons 47 [] (omega arith) IsAscii-nil) in
    record {
      method = token;
      target = (
        omega (arith, length-append target (more ++ 47 ∷ []), length-append more (47 ∷ [])),
        All-append (λ b. IsTrue (is_uri_byte b)) target (more ++ 47 ∷ []) pass tail,
      );
      target_text = subst IsUtf8 (append_assoc target more (47 ∷ [])) (IsUtf8-append (target ++ more) (47 ∷ []) text ascii);
      minor = omega arith;
      fields = All-nil IsField;
    }

pub can_from_target : (bytes target : List ℕ) → MayBecomeRequest bytes → IsAfterOnlySpace bytes target
    → CanBecomeText target → CanHaveRequest bytes
can_from_target bytes target (inl (more, h, reads)) after can = (more, h, [], reads)
can_from_target bytes target (inr (ends, method, found, token, pass, is)) after (more, high, text) =
    let same : target ≡ found = same_after_space after (only_space_from_target (ends, method, found, token, pass, is)) in (
      rest_of_head more,
      head_of ends method (found ++ (more ++ 47 ∷ [])),
      [],
      (
        is_head ends method found more token pass high (subst (λ t. IsUtf8 (t ++ more)) same text),
        ap (λ t. t ++ rest_of_head more) is ∙ reads_head ends method found more,
      ),
    )

pub can_without_target : (bytes : List ℕ) → MayBecomeRequest bytes
    → ((target : List ℕ) → ¬ (IsAfterOnlySpace bytes target)) → CanHaveRequest bytes
can_without_target bytes (inl (more, h, reads)) none = (more, h, [], reads)
can_without_target bytes (inr open_target) none = absurd (none open_target.2 (only_space_from_target open_target))
