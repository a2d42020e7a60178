use Rattle.std.proofs.Common.{Some, None, refl}
use Rattle.pol_declaration.specs.declared.fault.Why.TheVariants.{Unlisted}
use Rattle.pol_declaration.specs.Reading.{bad}
use Rattle.pol_declaration.proofs.KeyLemmas.{listed_told}
use Rattle.pol_declaration.proofs.form.listed_keys.Goals as goal

pub returns-in-Some : goal.returns-in-Some
returns-in-Some c =
    let told = listed_told c.args.keys.now c.args.members.now.entries (Some c.in-Some.key.now) c.in-Some.ensures in
    let here = c.under_key.ensures (bad Unlisted) (rw c.here.ensures refl) in
    rw (told, ← c.as_str.ensures.value) here

pub returns-in-None : goal.returns-in-None
returns-in-None c = listed_told c.args.keys.now c.args.members.now.entries None c.in-None.ensures
