-- What seven writers write, one behind another.
use Rattle.std.proofs.Common.{◌≡◌, ℕ, List, ◌++◌, Result, Ok, Err, ap, ◌∙◌, append_assoc}
use Rattle.std.specs.Prelude.{OnOk}

moved : (before after piece rest : List ℕ) → after ≡ before ++ piece → after ++ rest ≡ before ++ (piece ++ rest)
moved before after piece rest is = ap (λ (bytes : List ℕ). bytes ++ rest) is ∙ append_assoc before piece rest

pub seven_written : {A E : Type 0} (result : Result A E) (start one two three four five six last p q r s t u v : List ℕ)
    → one ≡ start ++ p → two ≡ one ++ q → three ≡ two ++ r → four ≡ three ++ s → five ≡ four ++ t → six ≡ five ++ u
    → OnOk result (last ≡ six ++ v) → OnOk result (last ≡ start ++ (p ++ (q ++ (r ++ (s ++ (t ++ (u ++ v)))))))
seven_written (Ok value) start one two three four five six last p q r s t u v first second third fourth fifth sixth seventh =
    seventh
    ∙ moved five six u v sixth
    ∙ moved four five t (u ++ v) fifth
    ∙ moved three four s (t ++ (u ++ v)) fourth
    ∙ moved two three r (s ++ (t ++ (u ++ v))) third
    ∙ moved one two q (r ++ (s ++ (t ++ (u ++ v)))) second
    ∙ moved start one p (q ++ (r ++ (s ++ (t ++ (u ++ v))))) first
seven_written (Err why) start one two three four five six last p q r s t u v first second third fourth fifth sixth seventh = seventh
