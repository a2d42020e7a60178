-- What is tested without memory tells what it should.
use Rattle.std.proofs.Common.{◌≡◌, ◌≤◌, ◌^◌, ◌&&◌, nat_le, None}
use Rattle.std.specs.Prelude.{Decides}
use Rattle.std.specs.List.{AllByRecursion}
use Rattle.std.proofs.lemmas.Bool.Decides.{Decides-and}
use Rattle.pol_content.specs.Ties.{AreTied}
use Rattle.pol_sound_access.proofs.DecidedLemmas.{at-most}
use Rattle.pol_sound_bounds.specs.Judged.{bounds_fit}
use Rattle.pol_sound_bounds.proofs.BoundLemmas.{bounds-decide}
use Rattle.pol_soundness.specs.Judged.{are_fit, are_sound_tokens, are_tied, is_whole, is_within_bounds}
use Rattle.pol_state.specs.Bounds.{over_limit}
use Rattle.pol_state.specs.Rows.{Rows}
use Rattle.pol_state.specs.Sound.{FitsTable, IsSoundTokens}
use Rattle.pol_soundness.proofs.DecidedLemmas.{sound_tokens-decide, ties-decide, tokens-fit}

module _ (s : Rows) where
  abbrev pub Within : Type 0
  Within = (s.time ≤ 2 ^ 62) × ((s.charged ≤ 2 ^ 30) × (over_limit s ≡ None))

  pub within-decides : Decides (is_within_bounds s) Within
  within-decides =
      let charged = nat_le s.charged (2 ^ 30) in
      let bounds = bounds_fit s.access s.content s.next_id s.next_serial in
      Decides-and (nat_le s.time (2 ^ 62)) (charged && bounds) (at-most s.time (2 ^ 62)) (Decides-and charged bounds (at-most s.charged (2 ^ 30)) (bounds-decide s))

  -- what the test without memory tells
  abbrev pub Whole : Type 0
  Whole =
      Within
      × (IsSoundTokens s.next_id s.next_serial s.tokens
      × (AreTied s.access s.content × AllByRecursion (FitsTable s.content.tables) s.tokens.tokens))

  pub whole-decides : Decides (is_whole s) Whole
  unfolding is_whole
  whole-decides =
      let tokens = are_sound_tokens s.next_id s.next_serial s.tokens in
      let tied = are_tied s.access s.content in
      let fit = are_fit s.content.tables s.tokens.tokens in
      Decides-and (is_within_bounds s) (tokens && (tied && fit)) within-decides
      (Decides-and tokens (tied && fit) (sound_tokens-decide s.next_id s.next_serial s.tokens)
      (Decides-and tied fit (ties-decide s.access s.content) (tokens-fit s.content.tables s.tokens.tokens)))
