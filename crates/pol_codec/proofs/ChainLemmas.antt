-- What nine writers write, one behind another.
use Rattle.std.proofs.Common.{◌≡◌, ℕ, List, ◌++◌, Result, Ok, Err, ap, ◌∙◌, append_assoc}
use Rattle.std.specs.Prelude.{OnOk}

moved : (before after piece rest : List ℕ) → after ≡ before ++ piece → after ++ rest ≡ before ++ (piece ++ rest)
moved before after piece rest is = ap (λ (bytes : List ℕ). bytes ++ rest) is ∙ append_assoc before piece rest

pub nine_written : {A E : Type 0} (result : Result A E) (start one two three four five six seven eight last p q r s t u v w x : List ℕ)
    → one ≡ start ++ p → two ≡ one ++ q → three ≡ two ++ r → four ≡ three ++ s → five ≡ four ++ t → six ≡ five ++ u → seven ≡ six ++ v
    → eight ≡ seven ++ w → OnOk result (last ≡ eight ++ x)
    → OnOk result (last ≡ start ++ (p ++ (q ++ (r ++ (s ++ (t ++ (u ++ (v ++ (w ++ x)))))))))
nine_written (Ok value) start one two three four five six seven eight last p q r s t u v w x first second third fourth fifth sixth seventh eighth ninth =
    ninth
    ∙ moved seven eight w x eighth
    ∙ moved six seven v (w ++ x) seventh
    ∙ moved five six u (v ++ (w ++ x)) sixth
    ∙ moved four five t (u ++ (v ++ (w ++ x))) fifth
    ∙ moved three four s (t ++ (u ++ (v ++ (w ++ x)))) fourth
    ∙ moved two three r (s ++ (t ++ (u ++ (v ++ (w ++ x))))) third
    ∙ moved one two q (r ++ (s ++ (t ++ (u ++ (v ++ (w ++ x)))))) second
    ∙ moved start one p (q ++ (r ++ (s ++ (t ++ (u ++ (v ++ (w ++ x))))))) first
nine_written (Err why) start one two three four five six seven eight last p q r s t u v w x first second third fourth fifth sixth seventh eighth ninth = ninth
