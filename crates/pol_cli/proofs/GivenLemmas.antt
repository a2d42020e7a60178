-- What follows from the words that the system gave, or didn't give.
use Rattle.std.proofs.Common.{◌≡◌, ◌⊎◌, ℕ, List, [], ◌∷◌, Result, Ok, Err, refl, ap, subst, ◌∙◌, inl, inr, drop, map}
use Rattle.std.specs.IoError.{error_kind}
use Rattle.std.specs.Prelude.{IfErr, IfOk}
use Rattle.std.specs.Vec.Iter.{into_iter_items}
use Rattle.std.specs.declared.io.Error.{Error}
use Rattle.std.specs.declared.io.ErrorKind.{ErrorKind}
use Rattle.std.specs.declared.io.ErrorKind.TheVariants.{OutOfMemory}
use Rattle.std.specs.declared.string.String.{String}
use Rattle.std.specs.declared.vec.IntoIter.{IntoIter}
use Rattle.pol_cli.specs.Given.{behind_name, why_not_given, words_behind}
use Rattle.pol_cli.specs.declared.reason.Reason.{Reason}
use Rattle.pol_cli.specs.declared.reason.Reason.TheVariants.{NoMemory, Usage}
use Rattle.pol_words.specs.declared.plan.Words.{Words}

-- the first word left out before its text is read, or after
pub behind-drop : {A : Type 0} (text : A → List ℕ) (all : List A) → map text (drop 1 all) ≡ behind_name (map text all)
behind-drop text [] = refl
behind-drop text (name ∷ words) = refl

-- what no line is given for
why-cases : (kind : ErrorKind) → (why_not_given kind ≡ Usage) ⊎ (why_not_given kind ≡ NoMemory)
why-cases OutOfMemory = inr refl
why-cases kind = inl refl

module _ {X Z : Type 0} where
  -- what is read of a line that was given, or of none
  abbrev pub ReadsLine : Result (IntoIter (String X) Z) Error → Result Words Reason → Type 0
  ReadsLine given read = IfOk given (λ line. (read ≡ Ok (record { list = words_behind (into_iter_items line) })) ⊎ (read ≡ Err NoMemory))

  abbrev pub ReadsNone : Result (IntoIter (String X) Z) Error → Result Words Reason → Type 0
  ReadsNone given read = IfErr given (λ error. read ≡ Err (why_not_given (error_kind error)))

  -- what holds of the words that were read holds of the line
  pub read-line : (given : Result (IntoIter (String X) Z) Error) (words : Words) (P : List (List ℕ) → Type 0) → ReadsLine given (Ok words) → P words.list
      → IfOk given (λ line. P (words_behind (into_iter_items line)))
  read-line (Ok line) words P (inl is) holds = let same : words ≡ record { list = words_behind (into_iter_items line) } = cc in subst P (ap (λ words. words.list) same) holds
  read-line (Ok line) words P (inr is) holds = cc
  read-line (Err error) words P reads holds = tt

  -- where words were read a line was given
  pub read-given : (given : Result (IntoIter (String X) Z) Error) (words : Words) (P : Error → Type 0) → ReadsNone given (Ok words) → IfErr given P
  read-given (Ok line) words P reads = tt
  read-given (Err error) words P reads = cc

  -- where none were read of a line, memory was wanting
  pub unread-line : (given : Result (IntoIter (String X) Z) Error) (reason : Reason) (P : Reason → List (List ℕ) → Type 0) → ReadsLine given (Err reason)
      → ((words : List (List ℕ)) → reason ≡ NoMemory → P reason words) → IfOk given (λ line. P reason (words_behind (into_iter_items line)))
  unread-line (Ok line) reason P (inl is) holds = cc
  unread-line (Ok line) reason P (inr is) holds = let same : reason ≡ NoMemory = cc in holds _ same
  unread-line (Err error) reason P reads holds = tt

  -- where no line was given, its want is the reason
  pub unread-none : (given : Result (IntoIter (String X) Z) Error) (reason : Reason) (P : Reason → Type 0) → ReadsNone given (Err reason) → P reason
      → IfErr given (λ error. P (why_not_given (error_kind error)))
  unread-none (Ok line) reason P reads holds = tt
  unread-none (Err error) reason P reads holds = let same : reason ≡ why_not_given (error_kind error) = cc in subst P same holds

  -- the reasons for which no words are read
  pub unread-reason : (given : Result (IntoIter (String X) Z) Error) (reason : Reason) → ReadsLine given (Err reason) → ReadsNone given (Err reason) → (reason ≡ Usage) ⊎ (reason ≡ NoMemory)
  unread-reason (Ok line) reason (inl is) none = cc
  unread-reason (Ok line) reason (inr is) none = inr cc
  unread-reason (Err error) reason line none =
      let same : reason ≡ why_not_given (error_kind error) = cc in
      elim (why-cases (error_kind error)) [
        | inl usage ↦ inl (same ∙ usage)
        | inr memory ↦ inr (same ∙ memory)
      ]
