use Rattle.std.proofs.Common.{◌≡◌, IfOk, subst}
use Rattle.pol_soundness.specs.Base.{rows_after}
use Rattle.pol_soundness.specs.Judged.{is_sound}
use Rattle.pol_soundness.proofs.SoundLemmas.{sound_told}
use Rattle.pol_soundness.proofs.ValidLemmas.{valid-after}
use Rattle.pol_soundness.proofs.soundness.sound_after.Goals as goal

pub returns : goal.returns
returns c =
    let s = c.args.state.now.rows in
    let changes = c.args.changes.now in
    sound_told (rows_after changes s) c.is_sound-sound.result (valid-after changes s c.requires.changes c.requires.state)
    (subst (λ after. IfOk c.is_sound-sound.result (λ sound. sound ≡ is_sound after)) c.in_ok-after.ensures c.is_sound-sound.ensures)
