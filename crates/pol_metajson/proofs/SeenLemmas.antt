-- Ids that were seen.
use Rattle.std.proofs.Common.{◌≡◌, ℕ, Bool, true, false, not, nat_eq, List, [], ◌∷◌, ◌++◌, if◌then◌else◌, Ok, refl, sym, ap, ◌∙◌}
use Rattle.std.specs.Prelude.{⊤}
use Rattle.std.specs.List.{list_any}
use Rattle.std.proofs.lemmas.Cmp.{nat_eq_equiv}
use Rattle.indexmap.specs.IndexSet.{insert_key}
use Rattle.pol_readers.specs.Forms.{holds}
use Rattle.pol_readers.specs.Reading.{Gives, under}
use Rattle.pol_readers.specs.declared.path.Step.TheVariants.{Key}
use Rattle.pol_metajson.specs.Schema.{is_seen}

-- a set finds an id exactly where it was seen
pub found_seen : (ids : List ℕ) (id : ℕ) → list_any (nat_eq id) ids ≡ is_seen ids id
found_seen [] id = refl
found_seen (other ∷ ids) id = rw (nat_eq_equiv.symm id other, found_seen ids id) refl

none : (b : Bool) → not b ≡ true → b ≡ false
none true is = absurd (cc)
none false is = refl

-- one that is new goes last
pub new_last : (ids keys : List ℕ) (id : ℕ) (is_new : Bool) → is_new ≡ not (list_any (nat_eq id) ids) → keys ≡ insert_key nat_eq ids id
    → is_new ≡ true → keys ≡ ids ++ id ∷ []
new_last ids keys id is_new told inserted new =
    inserted ∙ ap (λ b. if b then ids else ids ++ id ∷ []) (none (list_any (nat_eq id) ids) (sym told ∙ new))

pub ruleset seen = (found_seen, new_last)

-- a rule that passes holds
pub rule_holds : (key : List ℕ) (rule : Bool) (nothing : ⊤) → Gives (Ok nothing) (under (Key key) (holds rule)) → rule ≡ true
unfolding holds
rule_holds key true nothing is = refl
rule_holds key false nothing is = absurd (cc)
