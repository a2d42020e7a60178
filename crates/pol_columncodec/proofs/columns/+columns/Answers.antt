use Rattle.std.proofs.Common.{◌≡◌, ◌+◌, ◌-◌, List, [], sym, subst}
use Rattle.pol_forms.specs.Reading.{times}
use Rattle.pol_meta.specs.declared.column.Column.{Column}
use Rattle.pol_columnforms.specs.Columns.{field, type_form}
use Rattle.pol_columncodec.proofs.FieldLemmas.{goes_on, with_front}
use Rattle.pol_columncodec.proofs.columns.+columns.Goals as goal

pub read_each-loop-preserved : goal.read_each-loop-preserved
read_each-loop-preserved t c =
    let form = field c.args.depth (type_form c.args.left (c.args.depth + 1)) in
    let total = with_front [] (times form.read c.args.count c.args.unread.now) in
    subst (λ (columns : List Column). with_front columns (times form.read (c.args.count - (c.loop.counter + 1)) c.read_field.new.unread) ≡ total)
    (sym c.in_ok-columns.ensures)
    (goes_on form.read c.loop.columns c.args.count c.loop.counter c.loop.unread c.in_ok-field.field c.read_field.new.unread total c.loop-test.true c.in_ok-field.ensures c.loop.invariant)
