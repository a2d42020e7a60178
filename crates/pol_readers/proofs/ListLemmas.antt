-- Lists and objects that are read member by member.
use Rattle.std.proofs.Common.{◌≡◌, ℕ, List, [], ◌∷◌, ◌++◌, Ok, Err, refl, ap, append_assoc, sym}
use Rattle.serde_json.specs.Data.{Data, Members, member}
use Rattle.pol_readers.specs.declared.path.Step.{Step}
use Rattle.pol_readers.specs.declared.path.Step.TheVariants.{Key}
use Rattle.pol_readers.specs.Reading.{Reading, ◌>>=◌, under}
use Rattle.pol_readers.specs.Forms.{members}

-- what was read so far, and what is read after it
abbrev pub after : {A : Type 0} → List A → Reading (List A) → Reading (List A)
after done (Ok values) = Ok (done ++ values)
after done (Err path) = Err path

-- one more member was read
one_more : {A : Type 0} (done : List A) (value : A) (first : Reading A) (rest : Reading (List A)) → first ≡ Ok value
    → after done (first >>= (λ v. rest >>= (λ vs. Ok (v ∷ vs)))) ≡ after (done ++ value ∷ []) rest
one_more done value first (Ok values) is = rw is (ap Ok (sym (append_assoc done (value ∷ []) values)))
one_more done value first (Err path) is = rw is refl

-- the first bad member ends the reading
ended : {A : Type 0} (done : List A) (first : Reading A) (rest : Reading (List A)) (path : List Step) → first ≡ Err path
    → after done (first >>= (λ v. rest >>= (λ vs. Ok (v ∷ vs)))) ≡ Err path
ended done first rest path is = rw is refl

-- one more member of an object was read
one_more_entry : {A : Type 0} (done : List (List ℕ × A)) (key : List ℕ) (value : A) (first : Reading A) (rest : Reading (List (List ℕ × A))) → first ≡ Ok value
    → after done (first >>= (λ v. rest >>= (λ vs. Ok ((key, v) ∷ vs)))) ≡ after (done ++ (key, value) ∷ []) rest
one_more_entry done key value first (Ok values) is = rw is (ap Ok (sym (append_assoc done ((key, value) ∷ []) values)))
one_more_entry done key value first (Err path) is = rw is refl

pub members_more : {A : Type 0} (form : Data → Reading A) (key : List ℕ) (d : Data) (ms : Members) (done : List (List ℕ × A)) (value : A) → under (Key key) (form d) ≡ Ok value
    → after done (members form (member key d ms)) ≡ after (done ++ (key, value) ∷ []) (members form ms)
members_more form key d ms done value is = one_more_entry done key value (under (Key key) (form d)) (members form ms) is
