-- What is known while the records of a journal are read.
use Rattle.std.proofs.Common.{◌≡◌, ◌≢◌, inl, inr, Bool, true, false, ℕ, ◌≤◌, List, [], ◌∷◌, ◌++◌, Option, Some, None, refl, sym, ◌∙◌, ap, subst, arith, append_assoc}
use Rattle.pol_journal.specs.Format.{IsBadAt, IsBroken, IsReadTo, StandsFor, header_of, record_of, records_of}
use Rattle.pol_journal.specs.Journal.{HasRead, JournalState, MeetsEnd, after_next}
use Rattle.pol_journal.specs.Refused.{IsBadIn, NextRefused}
use Rattle.pol_journal.specs.declared.kind.Kind.TheVariants.{Catalogue}
use Rattle.pol_journal.specs.declared.refused.JournalRefused.{JournalRefused}
use Rattle.pol_journal.specs.declared.refused.JournalRefused.TheVariants.{NotAJournal, JournalThere, BadRecord, JournalFull, Unknown, DiskFault, OutOfMemory}
use Rattle.pol_journal.proofs.FormatLemmas.{records-push}
use Rattle.pol_journal.proofs.Moments.{same_after_both}
use Rattle.pol_journal.proofs.ReadLemmas.{tail_read, when_told}
use Rattle.pol_opening.specs.Opening.{IsRefusedAt, LeadsBy, LeadsTo, OpeningRefused, Opens}
use Rattle.pol_opening.specs.Reading.{GoesOn, IsReadSoFar, IsReadSome, IsReadWhole, IsToldBy, MakingRefused, ReadingRefused, ReadsOn}
use Rattle.pol_opening.proofs.LeadLemmas.{leads_more, leads_none}
use Rattle.pol_state.specs.Rows.{Rows, empty_state}
use Rattle.pol_wire.specs.Faults.{Rises}

-- the next gate where a record is broken
broken_there : (bodies : List (List ℕ)) (gate : ℕ) (file : List ℕ) (read : IsReadTo Catalogue bodies gate file) → IsBadAt Catalogue gate file → IsBroken read.tail
broken_there bodies gate file read bad =
    subst IsBroken (sym (tail_read Catalogue bad.bodies gate file bad.read) ∙ tail_read Catalogue bodies gate file read) bad.broken

module _ (file : List ℕ) (bodies : List (List ℕ)) (gate : ℕ) (s : Rows) (leads : LeadsTo empty_state bodies s) (read : IsReadTo Catalogue bodies gate file) where
  -- a record that the journal doesn't give
  pub told_broken : (old new : ℕ) (why : JournalRefused) → IsBadIn Catalogue file why → NextRefused gate old new why → IsToldBy file why
  told_broken old new NotAJournal bad is = tt
  told_broken old new JournalThere bad is = tt
  told_broken old new (BadRecord at) bad is = record {
    bodies = bodies;
    rows = s;
    leads = leads;
    read = subst (λ (n : ℕ). IsReadTo Catalogue bodies n file) (sym is) read;
    nowhere = inl (broken_there bodies at file (subst (λ (n : ℕ). IsReadTo Catalogue bodies n file) (sym is) read) bad);
  }
  told_broken old new (JournalFull length wanted) bad is = tt
  told_broken old new Unknown bad is = tt
  told_broken old new DiskFault bad is = tt
  told_broken old new OutOfMemory bad is = tt

  -- a record whose changes aren't made
  module _ (body : List ℕ) (next : ℕ) (read_next : IsReadTo Catalogue (bodies ++ body ∷ []) next file) where
    abbrev read_before : IsReadTo Catalogue bodies gate file
    read_before = record {
      long = read.long;
      tail = record_of body ++ read_next.tail;
      bytes = read_next.bytes
          ∙ ap (λ (l : List ℕ). header_of Catalogue ++ (l ++ read_next.tail)) (records-push bodies body)
          ∙ ap (λ (l : List ℕ). header_of Catalogue ++ l) (append_assoc (records_of bodies) (record_of body) read_next.tail);
      place = read.place;
    }

    pub told_unfit : (at : ℕ) → at ≡ gate → (why : JournalRefused) → MakingRefused at ((t : Rows) → LeadsBy body s t → ⊥) why → IsToldBy file why
    told_unfit at here NotAJournal is = tt
    told_unfit at here JournalThere is = tt
    told_unfit at here (BadRecord place) is = subst (λ (n : ℕ). IsRefusedAt n file) (sym (is.0 ∙ here)) (record {
      bodies = bodies;
      rows = s;
      leads = leads;
      read = read_before;
      nowhere = inr (inr (record { body = body; stands = record { rest = read_next.tail; bytes = refl }; unfit = is.1 }));
    })
    told_unfit at here (JournalFull length wanted) is = tt
    told_unfit at here Unknown is = tt
    told_unfit at here DiskFault is = tt
    told_unfit at here OutOfMemory is = tt

-- a journal without records
pub told_none : (file : List ℕ) (gate : ℕ) (s : Rows) → IsReadTo Catalogue [] gate file → StandsFor Catalogue [] file → LeadsTo empty_state [] s → IsRefusedAt gate file
told_none file gate s read stands leads = record {
  bodies = [];
  rows = s;
  leads = leads;
  read = record { long = read.long; tail = stands.gate ∷ stands.rest; bytes = stands.bytes; place = read.place };
  nowhere = inr (inl (record { none_before = refl; closed = stands.closed }));
}

-- a bad record for another reason
pub making_for : (at : ℕ) (P Q : Type 0) → (P → Q) → (why : JournalRefused) → MakingRefused at P why → MakingRefused at Q why
making_for at P Q so NotAJournal is = is
making_for at P Q so JournalThere is = is
making_for at P Q so (BadRecord place) is = (is.0, so is.1)
making_for at P Q so (JournalFull length wanted) is = is
making_for at P Q so Unknown is = is
making_for at P Q so DiskFault is = is
making_for at P Q so OutOfMemory is = tt

rises_more : (old mid new : ℕ) → old ≤ mid → Rises mid new → Rises old new
rises_more old mid new more (inl less) = inl (omega arith)
rises_more old mid new more (inr last) = inr last

-- a refusal of the opening
pub opening_refused : (seen : Option (List ℕ)) (old mid new : ℕ) (why : JournalRefused) → old ≤ mid → ReadingRefused mid new why
    → ((file : List ℕ) → seen ≡ Some file → IsToldBy file why) → OpeningRefused seen old new why
opening_refused seen old mid new NotAJournal more is told = absurd is
opening_refused seen old mid new JournalThere more is told = is
opening_refused seen old mid new (BadRecord at) more is told = when_told seen (IsRefusedAt at) told
opening_refused seen old mid new (JournalFull length wanted) more is told = is
opening_refused seen old mid new Unknown more is told = is
opening_refused seen old mid new DiskFault more is told = rises_more old mid new more is
opening_refused seen old mid new OutOfMemory more is told = tt

module _ {D : Type 0} (clock : D → ℕ) (left_since : D → ℕ → List ℕ → Type 0) (may_leave : D → List ℕ → Type 0) (seen : D → Option (List ℕ)) (size : D → Option ℕ) (fault_count : D → ℕ) where
  abbrev Reads : JournalState D → JournalState D → Type 0
  Reads = ReadsOn clock left_since may_leave seen size fault_count

  -- more is read
  pub reads_both : (old mid new : JournalState D) → Reads old mid → Reads mid new → Reads old new
  reads_both old mid new first second = record {
    kind = second.kind ∙ first.kind;
    opening = second.opening ∙ first.opening;
    untouched = same_after_both first.untouched second.untouched;
    kept = omega (arith, first.kept, second.kept);
  }

some_there : (bodies : List (List ℕ)) (body : List ℕ) → bodies ++ body ∷ [] ≢ []
some_there [] body none = cc
some_there (first ∷ bodies) body none = cc

module _ {D : Type 0} (seen : D → Option (List ℕ)) (may_leave : D → List ℕ → Type 0) (clock : D → ℕ) (left_since : D → ℕ → List ℕ → Type 0) (fault_count : D → ℕ) where
  abbrev SoFar : List ℕ → List (List ℕ) → JournalState D → Rows → Type 0
  SoFar = IsReadSoFar seen may_leave clock left_since fault_count

  abbrev Some_read : List ℕ → JournalState D → Rows → Type 0
  Some_read = IsReadSome seen may_leave clock left_since fault_count

  module _ (file : List ℕ) (bodies : List (List ℕ)) (old : JournalState D) (s : Rows) (so_far : SoFar file bodies old s) where
    abbrev read_to : IsReadTo Catalogue bodies old.gate file
    read_to = subst (λ kind. IsReadTo kind bodies old.gate file) so_far.kind so_far.read.read

    -- the journal gives no record
    pub not_given : (before after : ℕ) (why : JournalRefused) → IsBadIn old.kind file why → NextRefused old.gate before after why → IsToldBy file why
    not_given before after why bad is =
        told_broken file bodies old.gate s so_far.leads read_to before after why (subst (λ kind. IsBadIn kind file why) so_far.kind bad) is

    module _ (new : JournalState D) where
      -- it has come to the end
      pub at_the_end : new ≡ record (after_next old None) { disk = new.disk } → MeetsEnd seen may_leave clock left_since fault_count file bodies new
          → IsReadWhole seen may_leave clock left_since fault_count file bodies new s
      at_the_end is end = record { kind = ap (λ (j : JournalState D). j.kind) is ∙ so_far.kind; end = end; leads = so_far.leads }

      module _ (body : List ℕ) (is : new ≡ record (after_next old (Some body)) { disk = new.disk }) (read : HasRead seen may_leave clock left_since fault_count file (bodies ++ body ∷ []) new) where
        abbrev kind_is : new.kind ≡ Catalogue
        kind_is = ap (λ (j : JournalState D). j.kind) is ∙ so_far.kind

        -- it gives a record whose changes aren't made
        pub not_made : (at : ℕ) → at ≡ new.last → (why : JournalRefused) → MakingRefused at ((t : Rows) → LeadsBy body s t → ⊥) why → IsToldBy file why
        not_made at here why refused =
            told_unfit file bodies old.gate s so_far.leads read_to body new.gate
            (subst (λ kind. IsReadTo kind (bodies ++ body ∷ []) new.gate file) kind_is read.read) at (here ∙ ap (λ (j : JournalState D). j.last) is) why refused

        -- and one whose changes are made
        pub is_made : (t : Rows) → LeadsBy body s t → SoFar file (bodies ++ body ∷ []) new t
        is_made t by = record { kind = kind_is; read = read; leads = leads_more empty_state s t bodies body so_far.leads by }

  -- no record was read yet
  pub read_first : (file : List ℕ) (journal : JournalState D) → journal.kind ≡ Catalogue → HasRead seen may_leave clock left_since fault_count file [] journal → SoFar file [] journal empty_state
  read_first file journal kind read = record { kind = kind; read = read; leads = leads_none empty_state empty_state refl }

  -- what a step of reading tells
  abbrev Steps : JournalState D → Rows → JournalState D → Rows → Bool → Type 0
  Steps old s new t more =
      (file : List ℕ) (bodies : List (List ℕ)) → SoFar file bodies old s → GoesOn seen may_leave clock left_since fault_count file bodies new t more

  -- one more was read
  pub some_more : (old new : JournalState D) (s t : Rows) (more : Bool) → more ≡ true → Steps old s new t more → (file : List ℕ) → Some_read file old s → Some_read file new t
  some_more old new s t true is steps file read =
      let next = steps file (read.before ++ read.last ∷ []) read.so_far in record { before = read.before ++ read.last ∷ []; last = next.0; so_far = next.1 }
  some_more old new s t false is steps file read = absurd (cc)

  -- the first was read
  pub some_first : (old new : JournalState D) (s t : Rows) (more : Bool) → more ≡ true → Steps old s new t more → (file : List ℕ) → SoFar file [] old s → Some_read file new t
  some_first old new s t true is steps file read =
      let next = steps file [] read in record { before = []; last = next.0; so_far = next.1 }
  some_first old new s t false is steps file read = absurd (cc)

  -- all were read
  pub all_read : (old new : JournalState D) (s t : Rows) (more : Bool) → more ≡ false → Steps old s new t more → (file : List ℕ) → Some_read file old s → Opens seen may_leave clock left_since fault_count file new t
  all_read old new s t true is steps file read = absurd (cc)
  all_read old new s t false is steps file read =
      let whole = steps file (read.before ++ read.last ∷ []) read.so_far in record {
        bodies = read.before ++ read.last ∷ [];
        some = some_there read.before read.last;
        leads = whole.leads;
        kind = whole.kind;
        end = whole.end;
      }

  -- none was there
  pub none_read : (old new : JournalState D) (s t : Rows) (more : Bool) → more ≡ false → Steps old s new t more → (at : ℕ) → at ≡ old.gate → (file : List ℕ) → SoFar file [] old s → IsRefusedAt at file
  none_read old new s t true is steps at here file read = absurd (cc)
  none_read old new s t false is steps at here file read =
      let whole = steps file [] read in
      subst (λ (n : ℕ). IsRefusedAt n file) (sym here)
      (told_none file old.gate t (subst (λ kind. IsReadTo kind [] old.gate file) read.kind read.read.read)
      (subst (λ kind. StandsFor kind [] file) whole.kind whole.end.stands) whole.leads)
