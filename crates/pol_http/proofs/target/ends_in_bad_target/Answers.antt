use Rattle.std.proofs.Common.{ℕ, List, Bool, true, false}
use Rattle.std.specs.Bool.{OnTrue, OnFalse}
use Rattle.httparse.specs.Grammar.{NeverHasRequest, MayBecomeRequest}
use Rattle.pol_http.specs.Reading.{CanHaveRequest}
use Rattle.pol_http.specs.Text.{IsAfterOnlySpace, IsBeyondRepair, CanBecomeText}
use Rattle.pol_http.proofs.TargetLemmas.{never_from_target, can_from_target, can_without_target}
use Rattle.pol_http.proofs.target.ends_in_bad_target.Goals as goal

bad : (broken : Bool) (bytes target : List ℕ) → IsAfterOnlySpace bytes target → OnTrue broken (IsBeyondRepair target)
    → OnTrue broken (NeverHasRequest bytes)
bad true bytes target after broken = never_from_target bytes target after broken
bad false bytes target after broken = tt

good : (broken : Bool) (bytes target : List ℕ) → MayBecomeRequest bytes → IsAfterOnlySpace bytes target
    → OnFalse broken (CanBecomeText target) → OnFalse broken (CanHaveRequest bytes)
good true bytes target may after can = tt
good false bytes target may after can = can_from_target bytes target may after can

pub returns-in-Some-clause-bad : goal.returns-in-Some-clause-bad
returns-in-Some-clause-bad c =
    bad _ c.args.bytes.now c.in-Some.target.now c.in-Some.ensures.found c.is_beyond_repair.ensures.beyond

pub returns-in-Some-clause-good : goal.returns-in-Some-clause-good
returns-in-Some-clause-good c =
    good _ c.args.bytes.now c.in-Some.target.now c.requires c.in-Some.ensures.found c.is_beyond_repair.ensures.repairable

pub returns-in-None-clause-good : goal.returns-in-None-clause-good
returns-in-None-clause-good c = can_without_target c.args.bytes.now c.requires c.in-None.ensures.none
