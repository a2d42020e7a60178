-- What bodies lead to.
use Rattle.std.proofs.Common.{ℕ, List, [], ◌∷◌, ◌++◌, refl, subst}
use Rattle.pol_codec.specs.Objects.{object_change}
use Rattle.pol_codec.specs.declared.objects.ObjectChange.{ObjectChange}
use Rattle.pol_forms.specs.Form.{IsFormOf}
use Rattle.pol_forms.proofs.LawLemmas.{tell_values}
use Rattle.pol_object_store.specs.Reopened.{IsFitting, IsUnfit, LeadTo, LeadsBy}
use Rattle.pol_objects.specs.Objects.{Object}

pub lead_nowhere : (objects : List Object) → LeadTo objects [] objects
unfolding LeadTo
lead_nowhere objects = refl

-- bodies behind others
pub lead_both : (objects now next : List Object) (bodies more : List (List ℕ)) → LeadTo objects bodies now → LeadTo now more next → LeadTo objects (bodies ++ more) next
unfolding LeadTo
lead_both objects now next [] more leads on = subst (λ (l : List Object). LeadTo l more next) leads on
lead_both objects now next (first ∷ bodies) more leads on = (leads.0, leads.1, lead_both leads.0 now next bodies more leads.2 on)

-- one body more
pub lead_push : (objects now next : List Object) (bodies : List (List ℕ)) (body : List ℕ) → LeadTo objects bodies now → LeadsBy body now next
    → LeadTo objects (bodies ++ body ∷ []) next
unfolding LeadTo
lead_push objects now next bodies body leads by = lead_both objects now next bodies (body ∷ []) leads (next, by, refl)

-- a body is unfit where the change that it is the form of doesn't fit
pub misfit_unfit : (body : List ℕ) (objects : List Object) (made : ObjectChange) → IsFormOf object_change made body → (IsFitting objects made → ⊥) → IsUnfit body objects
misfit_unfit body objects made form misfit next by =
    misfit (subst (λ (c : ObjectChange). IsFitting objects c) (tell_values object_change body by.change made by.form form) by.fits)
