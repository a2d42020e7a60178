use Rattle.std.proofs.Common.{IsUtf8, sym, ◌∙◌, subst}
use Rattle.std.proofs.lemmas.Result.{IfOk-weaker}
use Rattle.pol_answers.proofs.TokenLemmas.{IsUtf8-text_of_token}
use Rattle.pol_answers.proofs.texts.written_token.Goals as goal

pub returns : goal.returns
returns c =
    let utf8 = subst IsUtf8 (sym c.token_text.ensures) (IsUtf8-text_of_token c.args.serial c.args.word_a c.args.word_b) in
    IfOk-weaker c.from_utf8_lossy.result _ _ (λ token same. same utf8 ∙ c.token_text.ensures) c.from_utf8_lossy.ensures.ok
