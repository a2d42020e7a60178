-- Bytes are no journal, stand for a list of bodies, or are bad at one place.
use Rattle.std.proofs.Common.{◌≡◌, ◌≢◌, ◌⊎◌, inl, inr, ⊎_elim, Bool, true, false, eqb, ℕ, zero, suc, ◌+◌, ◌-◌, ◌<◌, ◌≤◌, ◌^◌, All, List, [], ◌∷◌, ◌++◌, length, get_or, take, drop, refl, sym, ◌∙◌, ap, subst, arith, length-append, length-drop, take-append-drop}
use Rattle.std.specs.Int.{w64, from_be_bytes, to_be_bytes}
use Rattle.std.proofs.lemmas.Bool.{cases_eq, cases_lt}
use Rattle.std.proofs.lemmas.List.{length-take, take_at}
use Rattle.std.proofs.lemmas.List.Elements.{All-drop, All-get_or, All-take}
use Rattle.std.proofs.lemmas.Nat.{be_bytes_8}
use Rattle.std.proofs.Math.ListN.{get_or-eq_default}
use Rattle.pol_journal.specs.Format.{header_of, HasHeader, IsBadAt, IsBroken, IsClosed, IsNoJournal, IsReadTo, IsRecord, JudgesHeader, StandsFor, records_of}
use Rattle.pol_journal.specs.Laws.{IsBadSomewhere, IsNoneStandsOrIsBad, NoJournalIsNeither, StandsForSome}
use Rattle.pol_journal.specs.declared.kind.Kind.{Kind}
use Rattle.pol_journal.proofs.FormatLemmas.{length-header}
use Rattle.pol_journal.proofs.ReadLemmas.{at_end, bad_here, header_read, judged, one_more, whole_record}
use Rattle.std.specs.Cmp.Lexicographic.{pointwise}

abbrev AreBytes : List ℕ → Type 0
AreBytes bytes = All (λ byte. byte < 2 ^ 8) bytes

small : (bytes : List ℕ) → AreBytes bytes → (i : ℕ) → get_or bytes i 0 < 256
small bytes each i =
    ⊎_elim (λ inside. All-get_or (λ byte. byte < 2 ^ 8) bytes i 0 inside each)
    (λ past. omega (arith, get_or-eq_default bytes 0 past)) (cases_lt i (length bytes))

-- eight bytes are those of the number that they are read as
rewritten : (bytes : List ℕ) → AreBytes bytes → length bytes ≡ 8 → to_be_bytes w64 (from_be_bytes w64 bytes) ≡ bytes
rewritten bytes each long = be_bytes_8 bytes (from_be_bytes w64 bytes) long (small bytes each) refl

-- what may stand at a gate: a closed gate, no record, or a record
abbrev Stood : List ℕ → Type 0
Stood tail = IsClosed tail ⊎ (IsBroken tail ⊎ ((body : List ℕ) × IsRecord body tail))

open_gate : (rest : List ℕ) → AreBytes rest → Stood (1 ∷ rest)
open_gate rest each = ⊎_elim (λ few. inr (inl (refl, inl few))) (λ enough. framed_body enough) (cases_lt (length rest) 8)
  where
    number : ℕ
    number = from_be_bytes w64 (take 8 rest)

    record_here : 8 ≤ length rest → 8 + number ≤ length rest → IsRecord (take number (drop 8 rest)) (1 ∷ rest)
    record_here enough within =
        whole_record (1 ∷ rest) (take number (drop 8 rest)) number (record {
          rest = drop 8 rest;
          bytes = ap (λ (l : List ℕ). 1 ∷ l) (
              sym (take-append-drop 8 rest)
              ∙ ap (λ (l : List ℕ). l ++ drop 8 rest) (
              sym (rewritten (take 8 rest) (All-take (λ byte. byte < 2 ^ 8) 8 rest each) (omega (arith, length-take 8 rest, enough)))));
          within = omega (arith, within, length-drop 8 rest);
        }) refl

    framed_body : 8 ≤ length rest → Stood (1 ∷ rest)
    framed_body enough =
        ⊎_elim (λ short. inr (inl (refl, inr short)))
        (λ within. inr (inr (take number (drop 8 rest), record_here enough within))) (cases_lt (length rest) (8 + number))

at_gate : (tail : List ℕ) → AreBytes tail → Stood tail
at_gate [] each = inr (inl tt)
at_gate (gate ∷ rest) each =
    ⊎_elim (λ (is : gate ≡ 1). subst (λ (n : ℕ). Stood (n ∷ rest)) (sym is) (open_gate rest (All-drop (λ byte. byte < 2 ^ 8) 1 (gate ∷ rest) each))) (λ (closed : gate ≢ 1). inl closed) (cases_eq gate 1)

module _ (kind : Kind) (file : List ℕ) (each : AreBytes file) where
  -- the bytes stand for a list, or have a bad record
  abbrev Sorted : Type 0
  Sorted = StandsForSome kind file ⊎ IsBadSomewhere kind file

  -- by what stands at the gate behind the bodies that were read
  by_stood : (bodies : List (List ℕ)) (gate : ℕ) → IsReadTo kind bodies gate file → ((body : List ℕ) → IsRecord body (drop gate file) → Sorted) → Sorted
  by_stood bodies gate read next =
      ⊎_elim (λ closed. inl (bodies, at_end kind bodies gate file read closed))
      (λ more. ⊎_elim (λ broken. inr (gate, bad_here kind bodies gate file read broken)) (λ record_there. next record_there.0 record_there.1) more)
      (at_gate (drop gate file) (All-drop (λ byte. byte < 2 ^ 8) gate file each))

  from_gate : (fuel : ℕ) (bodies : List (List ℕ)) (gate : ℕ) → length file ≤ gate + fuel → IsReadTo kind bodies gate file → Sorted
  from_gate zero bodies gate left read =
      by_stood bodies gate read (λ body is. absurd (omega (arith, left, length-drop gate file, ap length is.bytes)))
  from_gate (suc fuel) bodies gate left read =
      by_stood bodies gate read (λ body is. from_gate fuel (bodies ++ body ∷ []) (gate + 9 + length body) (omega (arith, left)) (one_more kind bodies gate file read body is))

  by_header : (same : Bool) → JudgesHeader same kind file → IsNoJournal kind file ⊎ Sorted
  by_header true has = inr (from_gate (length file) [] 64 (omega arith) (header_read kind file has))
  by_header false none = inl none

  sorted : IsNoJournal kind file ⊎ Sorted
  sorted =
      ⊎_elim (λ few. inl (inl few))
      (λ long. by_header (pointwise eqb (take 64 file) (header_of kind)) (judged _ kind file (take 64 file) (header_of kind) refl refl refl long))
      (cases_lt (length file) 65)

pub none_stands_or_is_bad : IsNoneStandsOrIsBad
none_stands_or_is_bad kind file each = sorted kind file each

-- what begins with a header and is long enough is a journal
begins : (kind : Kind) (file behind : List ℕ) → file ≡ header_of kind ++ behind → 65 ≤ length file → IsNoJournal kind file → ⊥
begins kind file behind is long none =
    ⊎_elim (λ few. absurd (omega (arith, few, long)))
    (λ other. other (ap (λ (l : List ℕ). take 64 l) is ∙ take_at (header_of kind) behind 64 (length-header kind))) none

pub neither : NoJournalIsNeither
neither kind file none some =
    ⊎_elim (λ stands. stood stands.0 stands.1) (λ bad. begins kind file (records_of bad.1.bodies ++ bad.1.read.tail) bad.1.read.bytes bad.1.read.long none) some
  where
    stood : (bodies : List (List ℕ)) → StandsFor kind bodies file → ⊥
    stood bodies stands =
        begins kind file (records_of bodies ++ stands.gate ∷ stands.rest) stands.bytes
        (omega (arith, ap length stands.bytes, length-append (header_of kind) (records_of bodies ++ stands.gate ∷ stands.rest), length-header kind, length-append (records_of bodies) (stands.gate ∷ stands.rest))) none
