-- What a journal's reads tell of the bytes of its disk.
use Rattle.std.proofs.Common.{◌≡◌, inl, inr, Bool, true, false, IsTrue, ◌↔◌, eqb, Option, Some, None, IfSome, ℕ, ◌+◌, ◌-◌, ◌≤◌, ◌<◌, List, [], ◌∷◌, ◌++◌, length, get_or, take, drop, refl, sym, ◌∙◌, ap, subst, arith, take-append-drop, length-drop, length-append, append_assoc}
use Rattle.std.specs.Int.{w64, to_be_bytes, from_be_bytes}
use Rattle.std.proofs.lemmas.List.{drop-drop, drop_at, length-take}
use Rattle.std.proofs.lemmas.Bool.Decides.{Decides-eqb}
use Rattle.std.proofs.lemmas.Slice.Eq.{slice_eq-Decides}
use Rattle.std.specs.Cmp.Lexicographic.{pointwise}
use Rattle.pol_journal.specs.declared.kind.Kind.{Kind}
use Rattle.pol_journal.specs.Format.{framed, header_of, records_of, record_of, extent, HasHeader, JudgesHeader, StandsFor, IsReadTo, IsClosed, IsBroken, IsBadAt, IsRecord, IsRecordOf}
use Rattle.pol_journal.specs.Refused.{NextRefused, IsBadIn, IsBrokenIn}
use Rattle.pol_journal.specs.declared.refused.JournalRefused.{JournalRefused}
use Rattle.pol_journal.specs.declared.refused.JournalRefused.TheVariants.{NotAJournal, JournalThere, BadRecord, JournalFull, Unknown, DiskFault, OutOfMemory}
use Rattle.pol_journal.proofs.FormatLemmas.{records-push, extent-push, front_of, length-front, behind_front}

pub when_told : {A : Type 0} (o : Option A) (P : A → Type 0) → ((x : A) → o ≡ Some x → P x) → IfSome o P
when_told None P holds = tt
when_told (Some x) P holds = holds x refl

-- what is told of an option holds of its value
pub told_of : {A : Type 0} (o : Option A) (P : A → Type 0) (x : A) → o ≡ Some x → IfSome o P → P x
told_of o P x is told = subst (λ v. IfSome v P) is told

first_of : (tail buf : List ℕ) → buf ≡ take 1 tail → 0 < length tail → tail ≡ get_or buf 0 0 ∷ drop 1 tail
first_of [] buf is some = absurd (omega arith)
first_of (x ∷ tail) buf is some = ap (λ (b : List ℕ). get_or b 0 0 ∷ tail) (sym is)

module _ (bytes : List ℕ) (gate : ℕ) (buf : List ℕ) (read : buf ≡ take 1 (drop gate bytes)) (inside : gate < length bytes) (is_open : get_or buf 0 0 ≡ 1) where
  abbrev rest : List ℕ
  rest = drop (gate + 1) bytes

  tail_is : drop gate bytes ≡ 1 ∷ rest
  tail_is =
      first_of (drop gate bytes) buf read (omega (arith, inside, length-drop gate bytes))
      ∙ ap (λ (byte : ℕ). byte ∷ drop 1 (drop gate bytes)) is_open
      ∙ ap (λ (l : List ℕ). 1 ∷ l) (drop-drop 1 gate bytes)

  pub few_left : length bytes - gate < 9 → IsBroken (drop gate bytes)
  few_left few = subst IsBroken (sym tail_is) (refl, inl (omega (arith, few, inside, length-drop (gate + 1) bytes)))

  module _ (frame : List ℕ) (read_frame : frame ≡ take 8 rest) (enough : 9 ≤ length bytes - gate) where
    pub too_long : length bytes - gate - 9 < from_be_bytes w64 frame → IsBroken (drop gate bytes)
    too_long long =
        subst IsBroken (sym tail_is)
        (refl, inr (subst (λ (f : List ℕ). length rest < 8 + from_be_bytes w64 f) read_frame (omega (arith, long, enough, length-drop (gate + 1) bytes))))

    pub has_record : (count : ℕ) → to_be_bytes w64 count ≡ frame → count ≤ length bytes - gate - 9 → IsRecordOf count (drop gate bytes)
    has_record count encoded within = record {
      rest = drop 8 rest;
      bytes = tail_is ∙ ap (λ (l : List ℕ). 1 ∷ l) (sym (take-append-drop 8 rest) ∙ ap (λ (l : List ℕ). l ++ drop 8 rest) (sym read_frame ∙ sym encoded));
      within = omega (arith, within, length-drop 8 rest, length-drop (gate + 1) bytes);
    }

-- the body of a record of a known length
pub whole_record : (tail body : List ℕ) (count : ℕ) (is : IsRecordOf count tail) → body ≡ take count (drop 9 tail) → IsRecord body tail
unfolding framed
whole_record tail body count is read =
    let behind : drop 9 tail ≡ is.rest = ap (λ (l : List ℕ). drop 9 l) is.bytes in
    let body_is : body ≡ take count is.rest = read ∙ ap (λ (l : List ℕ). take count l) behind in
    let long : length body ≡ count = omega (arith, ap length body_is, length-take count is.rest, is.within) in record {
      rest = drop count is.rest;
      bytes = is.bytes
          ∙ ap (λ (l : List ℕ). 1 ∷ to_be_bytes w64 count ++ l) (sym (take-append-drop count is.rest) ∙ ap (λ (l : List ℕ). l ++ drop count is.rest) (sym body_is))
          ∙ ap (λ (n : ℕ). 1 ∷ to_be_bytes w64 n ++ (body ++ drop count is.rest)) (sym long)
          ∙ refl;
    }

false_true : false ≡ true → ⊥
false_true is = cc

-- a test of the front of a file
pub judged : (same : Bool) (kind : Kind) (bytes front header : List ℕ) → same ≡ pointwise eqb front header → header ≡ header_of kind → front ≡ take 64 bytes → 65 ≤ length bytes → JudgesHeader same kind bytes
judged true kind bytes front header tells is read long = record {
  long = long;
  header = sym read ∙ (slice_eq-Decides Decides-eqb front header true tells).0 refl ∙ is;
}
judged false kind bytes front header tells is read long =
    inr (λ (named : take 64 bytes ≡ header_of kind). absurd (false_true ((slice_eq-Decides Decides-eqb front header false tells).1 (read ∙ named ∙ sym is))))

-- a record that stands there can be read whole
pub record_fits : (bytes : List ℕ) (gate count : ℕ) → IsRecordOf count (drop gate bytes) → count ≤ length bytes - (gate + 9)
record_fits bytes gate count is =
    omega (arith, length-drop gate bytes, ap length is.bytes, length-append (1 ∷ to_be_bytes w64 count) is.rest, is.within)

pub record_read : (bytes : List ℕ) (gate count : ℕ) (body buf : List ℕ) → IsRecordOf count (drop gate bytes) → body ≡ buf → buf ≡ take count (drop (gate + 9) bytes) → IsRecord body (drop gate bytes)
record_read bytes gate count body buf is same read =
    whole_record (drop gate bytes) body count is (same ∙ read ∙ ap (λ (l : List ℕ). take count l) (sym (drop-drop 9 gate bytes)))

-- a test that has to succeed
pub cannot_fail : (test : Bool) (P : Type 0) → test ≡ false → (IsTrue test ↔ P) → P → ⊥
cannot_fail test P fails tells holds = false_true (sym fails ∙ tells.1 holds)

-- no record was read yet
pub header_read : (kind : Kind) (file : List ℕ) → HasHeader kind file → IsReadTo kind [] 64 file
unfolding records_of extent
header_read kind file has = record {
  long = has.long;
  tail = drop 64 file;
  bytes = sym (take-append-drop 64 file) ∙ ap (λ (l : List ℕ). l ++ drop 64 file) has.header;
  place = refl;
}

module _ (kind : Kind) (bodies : List (List ℕ)) (gate : ℕ) (file : List ℕ) (read : IsReadTo kind bodies gate file) where
  pub tail_read : drop gate file ≡ read.tail
  tail_read =
      ap (λ (l : List ℕ). drop gate l) (read.bytes ∙ behind_front kind bodies read.tail)
      ∙ drop_at (front_of kind bodies) read.tail gate (length-front kind bodies gate read.place)

  pub one_more : (body : List ℕ) → IsRecord body (drop gate file) → IsReadTo kind (bodies ++ body ∷ []) (gate + 9 + length body) file
  one_more body is = record {
    long = read.long;
    tail = is.rest;
    bytes = read.bytes
        ∙ ap (λ (l : List ℕ). header_of kind ++ (records_of bodies ++ l)) (sym tail_read ∙ is.bytes)
        ∙ ap (λ (l : List ℕ). header_of kind ++ l) (sym (append_assoc (records_of bodies) (record_of body) is.rest) ∙ ap (λ (l : List ℕ). l ++ is.rest) (sym (records-push bodies body)));
    place = omega (arith, read.place, extent-push bodies body);
  }

  pub at_end : IsClosed (drop gate file) → StandsFor kind bodies file
  at_end is = closed_tail read.tail (subst IsClosed tail_read is) read.bytes
    where
      closed_tail : (tail : List ℕ) → IsClosed tail → file ≡ header_of kind ++ (records_of bodies ++ tail) → StandsFor kind bodies file
      closed_tail [] none bytes = absurd none
      closed_tail (byte ∷ rest) shut bytes = record { gate = byte; rest = rest; closed = shut; bytes = bytes }

  pub bad_here : IsBroken (drop gate file) → IsBadAt kind gate file
  bad_here broken = record { bodies = bodies; read = read; broken = subst IsBroken tail_read broken }

  pub bad_in : (why : JournalRefused) (old new : ℕ) → IsBrokenIn (drop gate file) why → NextRefused gate old new why → IsBadIn kind file why
  bad_in NotAJournal old new broken is = tt
  bad_in JournalThere old new broken is = tt
  bad_in (BadRecord at) old new broken is = subst (λ (n : ℕ). IsBadAt kind n file) (sym is) (bad_here broken)
  bad_in (JournalFull length wanted) old new broken is = tt
  bad_in Unknown old new broken is = tt
  bad_in DiskFault old new broken is = tt
  bad_in OutOfMemory old new broken is = tt
