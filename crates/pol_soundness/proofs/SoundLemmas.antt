-- The test of a state tells whether it is sound.
use Rattle.std.proofs.Common.{◌≡◌, Bool, ◌&&◌, Result, Ok, Err}
use Rattle.std.specs.Prelude.{Decides, IfOk}
use Rattle.std.proofs.lemmas.Bool.Decides.{Decides-and, Decides-at, Decides-like}
use Rattle.pol_sound_access.specs.Judged.{is_sound_access}
use Rattle.pol_sound_access.proofs.DecidedLemmas.{access-decides}
use Rattle.pol_sound_content.specs.Judged.{is_sound_content}
use Rattle.pol_sound_content.specs.Valid.{HasValidParts}
use Rattle.pol_sound_content.proofs.DecidedLemmas.{content-decides}
use Rattle.pol_soundness.specs.Judged.{is_sound, is_whole}
use Rattle.pol_state.specs.Rows.{Rows}
use Rattle.pol_state.specs.Sound.{IsSound}
use Rattle.pol_soundness.proofs.WholeLemmas.{whole-decides}

module _ (s : Rows) where
  -- the test tells whether a state whose metadata are valid is sound
  pub sound-decides : HasValidParts s.content → Decides (is_sound s) (IsSound s)
  unfolding is_sound
  sound-decides valid =
      let access = is_sound_access s.next_id s.access in
      let content = is_sound_content s.next_id s.content in
      Decides-like (is_sound s)
      (λ all. record {
        orderly = record {
          access = all.1.0;
          content = all.1.1;
          ties = all.0.1.1.0;
          tokens = all.0.1.0;
          tokens_fit = all.0.1.1.1;
          time_bound = all.0.0.0;
          charged_bound = all.0.0.1.0;
        };
        within = all.0.0.1.1;
      })
      (λ sound.
      let orderly = sound.orderly in (
        ((orderly.time_bound, (orderly.charged_bound, sound.within)), (orderly.tokens, (orderly.ties, orderly.tokens_fit))),
        (orderly.access, orderly.content),
      ))
      (Decides-and (is_whole s) (access && content) (whole-decides s) (Decides-and access content (access-decides s.next_id s.access) (content-decides s.content valid s.next_id)))

-- and so does what is answered by it
pub sound_told : {E : Type 0} (s : Rows) (result : Result Bool E) → HasValidParts s.content → IfOk result (λ sound. sound ≡ is_sound s) → IfOk result (λ sound. Decides sound (IsSound s))
sound_told s (Ok sound) valid is = Decides-at sound (is_sound s) is (sound-decides s valid)
sound_told s (Err why) valid is = is
