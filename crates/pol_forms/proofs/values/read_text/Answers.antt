use Rattle.pol_forms.specs.Forms.{number}
use Rattle.pol_forms.proofs.TextLemmas.{bytes_told, no_text_told, text_told}
use Rattle.pol_forms.proofs.values.read_text.Goals as goal

pub returns-in-Ok : goal.returns-in-Ok
unfolding number
returns-in-Ok c =
    let bytes = bytes_told c.args.unread.now c.in_ok-length.length c.read.new.unread c.in_ok-bytes.bytes.now c.front.new.self c.in_ok-length.ensures c.in_ok-bytes.ensures in
    rw c.in-Ok.ensures.cases.0 (text_told c.args.unread.now c.in_ok-bytes.bytes.now c.front.new.self bytes c.in-Ok.ensures.cases.1)

pub returns-in-Err : goal.returns-in-Err
unfolding number
returns-in-Err c =
    let bytes = bytes_told c.args.unread.now c.in_ok-length.length c.read.new.unread c.in_ok-bytes.bytes.now c.front.new.self c.in_ok-length.ensures c.in_ok-bytes.ensures in
    no_text_told c.args.unread.now c.in_ok-bytes.bytes.now c.front.new.self bytes c.in-Err.ensures.cases.0
