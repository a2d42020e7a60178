use Rattle.std.proofs.Common.{◌≡◌, ℕ, List, Option, None, Some, drop, sym}
use Rattle.std.specs.Bool.{OnTrue, OnFalse}
use Rattle.std.specs.Option.{is_some}
use Rattle.std.specs.Str.{IsValidUpTo}
use Rattle.std.specs.Str.Lossy.{utf8_error_len}
use Rattle.pol_http.specs.Text.{IsBeyondRepair, CanBecomeText}
use Rattle.pol_http.proofs.TextLemmas.{beyond_repair, can_become}
use Rattle.pol_http.proofs.target.is_beyond_repair.Goals as goal

by_len : (bs : List ℕ) (n : ℕ) (len : Option ℕ) → IsValidUpTo bs n → len ≡ utf8_error_len (drop n bs)
    → OnTrue (is_some len) (IsBeyondRepair bs) × OnFalse (is_some len) (CanBecomeText bs)
by_len bs n None valid is = (tt, can_become bs n valid (sym is))
by_len bs n (Some k) valid is = (beyond_repair bs n k valid (sym is), tt)

pub returns-in-Err-clause-beyond : goal.returns-in-Err-clause-beyond
returns-in-Err-clause-beyond c =
    let said = c.in-Err.ensures in
    rw (c.is_some.ensures, c.error_len.ensures) (by_len c.args.text.now _ _ said.cases.1 said.fault).0

pub returns-in-Err-clause-repairable : goal.returns-in-Err-clause-repairable
returns-in-Err-clause-repairable c =
    let said = c.in-Err.ensures in
    rw (c.is_some.ensures, c.error_len.ensures) (by_len c.args.text.now _ _ said.cases.1 said.fault).1
