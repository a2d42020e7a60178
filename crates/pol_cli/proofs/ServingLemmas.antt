-- What a link that was served, or not called, tells of the run.
use Rattle.std.proofs.Common.{◌≡◌, ◌≢◌, ℕ, List, [], ◌∷◌, refl, sym, ap, subst, ◌∙◌, inl, inr, arith}
use Rattle.pol_server.specs.Both.{BothGoOnAlone, SeenBoth}
use Rattle.pol_server.specs.Ends.{Ends}
use Rattle.pol_server.specs.declared.served.Ending.{Ending}
use Rattle.pol_server.specs.declared.served.Ending.TheVariants as ending
use Rattle.pol_records.specs.Holding.{RisesBy}
use Rattle.pol_cli.specs.Causes.{HasCause}
use Rattle.pol_cli.specs.Disks.{Both}
use Rattle.pol_cli.specs.Reasons.{reason_of, report_of, status_of}
use Rattle.pol_cli.specs.declared.reason.Reason.{Reason}
use Rattle.pol_cli.specs.declared.reason.Reason.TheVariants.{NoMemory, Usage}
use Rattle.pol_cli.specs.declared.report.Report.{Report}
use Rattle.pol_cli.specs.declared.report.ServedLink.{ServedLink}
use Rattle.pol_cli.proofs.CauseLemmas.{cause-ended, status-told}
use Rattle.pol_server.proofs.SeenLemmas.{alone-founding}
use Rattle.pol_server.specs.Opened.{seen_new}
use Rattle.pol_server.specs.Seen.{AreOfPasses, GoesOnAlone, Seen, entry_number}
use Rattle.pol_server.specs.SeenObjects.{AreOfObjectPasses, ObjectsGoOnAlone, SeenObjects, object_entry_number}
use Rattle.pol_cli.specs.Serving.{RunsLink, Serves, seen_fresh}

-- a report with a link that was served has one
pub served-something : (reason : Reason) (report : Report) (link : ServedLink) → report ≡ report_of reason (link ∷ []) → report.served ≢ []
served-something reason report link is none = let contrary : link ∷ [] ≡ [] = sym (ap (λ report. report.served) is) ∙ none in cc

-- a reason is told so in its report
pub reason-told : (P : Reason → Type 0) (reason : Reason) (served : List ServedLink) (report : Report) → report ≡ report_of reason served → P reason → P report.reason
reason-told P reason served report is holds = subst P (sym (ap (λ report. report.reason) is)) holds

-- no ending of a link is a faulty line
planned-by : (how : Ending) → reason_of how ≢ Usage
planned-by ending.Ended is = cc
planned-by ending.Cut is = cc
planned-by ending.Closed is = cc
planned-by ending.ReadFault is = cc
planned-by ending.WriteFault is = cc
planned-by ending.Spent is = cc
planned-by ending.NoMemory is = cc

module _ (old new : SeenBoth) (before after : Ends) (report : Report) where
  pub cause-serves : (disks : Both) → Serves old before after new report → HasCause before after disks report.reason
  cause-serves disks (inl serves) =
      reason-told (HasCause before after disks) (reason_of serves.served.ending) _ report serves.report_is
      (cause-ended before after disks serves.served.ending serves.link.turns serves.link.taken serves.link.rest serves.link.text serves.link.takes serves.link.ends)
  cause-serves disks (inr wanting) = reason-told (HasCause before after disks) NoMemory [] report wanting.2 tt

  pub status-serves : Serves old before after new report → report.status ≡ status_of report.reason
  status-serves (inl serves) = status-told (reason_of serves.served.ending) _ report serves.report_is
  status-serves (inr wanting) = status-told NoMemory [] report wanting.2

  pub planned-serves : Serves old before after new report → report.reason ≢ Usage
  planned-serves (inl serves) = reason-told (λ reason. reason ≢ Usage) (reason_of serves.served.ending) _ report serves.report_is (planned-by serves.served.ending)
  planned-serves (inr wanting) = reason-told (λ reason. reason ≢ Usage) NoMemory [] report wanting.2 (λ is. cc)

  -- no pass was made
  pub made-serves : Serves old before after new report → (new.catalogue.made ≡ old.catalogue.made) × (new.objects.made ≡ old.objects.made)
  made-serves (inl serves) = (ap (λ seen. seen.made) serves.link.stores.catalogue.same, ap (λ seen. seen.made) serves.link.stores.objects.same)
  made-serves (inr wanting) = (ap (λ seen. seen.catalogue.made) wanting.1, ap (λ seen. seen.objects.made) wanting.1)

-- over new stores nobody but the founding passes entered anything
alone-catalogue : (old new : Seen) → old ≡ seen_new old.base old.opened → new.made ≡ old.made → AreOfPasses new.made new.front → GoesOnAlone old.number old.front new.front
alone-catalogue old new is made passes =
    subst (λ old. GoesOnAlone old.number old.front new.front) (sym is)
    (alone-founding entry_number [] new.front (new.front, refl) (subst (λ made. AreOfPasses made new.front) (made ∙ ap (λ seen. seen.made) is) passes))

alone-objects : (old new : SeenObjects) → old ≡ seen_new old.base old.opened → new.made ≡ old.made → AreOfObjectPasses new.made new.front → ObjectsGoOnAlone old.number old.front new.front
alone-objects old new is made passes =
    subst (λ old. ObjectsGoOnAlone old.number old.front new.front) (sym is)
    (alone-founding object_entry_number [] new.front (new.front, refl) (subst (λ made. AreOfObjectPasses made new.front) (made ∙ ap (λ seen. seen.made) is) passes))

pub alone-serves : (old new : SeenBoth) (before after : Ends) (report : Report) → Serves old before after new report
    → old.catalogue ≡ seen_new old.catalogue.base old.catalogue.opened → AreOfPasses new.catalogue.made new.catalogue.front
    → old.objects ≡ seen_new old.objects.base old.objects.opened → AreOfObjectPasses new.objects.made new.objects.front → BothGoOnAlone old new
alone-serves old new before after report serves is passes objects_is objects_passes =
    let made = made-serves old new before after report serves in
    record {
      catalogue = alone-catalogue old.catalogue new.catalogue is made.0 passes;
      objects = alone-objects old.objects new.objects objects_is made.1 objects_passes;
    }

-- where a count stands at 0 no call was marked
no-marks : (failed first : ℕ) → RisesBy failed first 0 → failed ≡ 0
no-marks failed first (inl within) = omega (arith, within)
no-marks failed first (inr last) = absurd (omega (arith, last))

module _ (secret : List ℕ) (before after : Ends) (report : Report) where
  -- what stores that are fresh serve, on disks whose counts stand at 0
  pub runs-fresh : (old new : SeenBoth) (first objects_first : ℕ) → old ≡ seen_fresh secret
      → AreOfPasses new.catalogue.made new.catalogue.front → AreOfObjectPasses new.objects.made new.objects.front
      → RisesBy new.catalogue.failed first 0 → RisesBy new.objects.failed objects_first 0 → Serves old before after new report → RunsLink secret before after report
  runs-fresh old new first objects_first is passes objects_passes marked objects_marked serves =
      let fresh : Serves (seen_fresh secret) before after new report = subst (λ old. Serves old before after new report) is serves in
      record {
        new = new;
        serves = fresh;
        alone = alone-serves (seen_fresh secret) new before after report fresh refl passes refl objects_passes;
        unmarked = record { catalogue = no-marks _ first marked; objects = no-marks _ objects_first objects_marked };
      }

  pub cause-link : (disks : Both) → RunsLink secret before after report → HasCause before after disks report.reason
  cause-link disks runs = cause-serves (seen_fresh secret) runs.new before after report disks runs.serves

  pub status-link : RunsLink secret before after report → report.status ≡ status_of report.reason
  status-link runs = status-serves (seen_fresh secret) runs.new before after report runs.serves

  pub planned-link : RunsLink secret before after report → report.reason ≢ Usage
  planned-link runs = planned-serves (seen_fresh secret) runs.new before after report runs.serves

-- memory was wanting before the link was called
pub runs-nothing : (secret : List ℕ) (ends : Ends) (report : Report) → report ≡ report_of NoMemory [] → RunsLink secret ends ends report
runs-nothing secret ends report is = record {
  new = seen_fresh secret;
  serves = inr (refl, refl, is);
  alone = record { catalogue = ([], refl, tt); objects = ([], refl, tt) };
  unmarked = record { catalogue = refl; objects = refl };
}
