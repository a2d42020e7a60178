use Rattle.std.proofs.Common.{◌≡◌, ◌≢◌, rules}
use Rattle.std.specs.Prelude.{option_copied}
use Rattle.pol_words.proofs.OptionLemmas.{value-first, value-later, value-none}
use Rattle.pol_words.proofs.options.+value_of.Goals as goal

pub returns-in_err-given : goal.returns-in_err-given
returns-in_err-given t c = rw (c.from_residual.ensures) (value-none c.args.words.now c.args.name.now c.in_err-given.ensures)

pub returns-then-eq : goal.returns-then-eq
returns-then-eq t c =
    let same : c.in_ok-given.given.now ≡ c.args.name.now = search rules in
    value-first c.args.words.now (c.in_ok-given.given.now, c.in_ok-given.value.now) c.in_ok-given.rest.now c.in_ok-given.ensures c.args.name.now same

pub returns : goal.returns
returns t c =
    let other : c.in_ok-given.given.now ≢ c.args.name.now = search rules in
    value-later c.args.words.now (c.in_ok-given.given.now, c.in_ok-given.value.now) c.in_ok-given.rest.now c.in_ok-given.ensures c.args.name.now (option_copied c.value_of.result) other c.value_of.ensures
