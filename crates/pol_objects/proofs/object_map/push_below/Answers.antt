use Rattle.std.proofs.Common.{◌≡◌, ◌++◌, ◌∙◌, ◌∷◌, [], None, ap, append_assoc, drop, map, rules, subst, sym, true, vec_items}
use Rattle.std.specs.List.{AllByRecursion, take_while}
use Rattle.pol_blocks.specs.Blocks.{flat, number_of}
use Rattle.pol_locations.specs.Location.{parse_refusal, segments_of}
use Rattle.pol_objects.specs.Objects.{kept_objects}
use Rattle.pol_objects.proofs.Covered.{each-drop, early-first, is_early, range-at}
use Rattle.pol_objects.proofs.Kept.{texts_pass}
use Rattle.pol_objects.proofs.object_map.push_below.Goals as goal

pub loop-entry-init : goal.loop-entry-init
loop-entry-init c =
    let blocks = c.args.by_text.now in
    let text = c.args.text.now in
    let number = number_of blocks c.place_of-place.result in
    let left : c.into_iter-entry-iterator.result ≡ drop number (flat blocks) = search rules in
    let pass : AllByRecursion (λ entry. parse_refusal entry.0 ≡ None) (flat blocks) =
    subst (λ all. AllByRecursion (λ entry. parse_refusal entry.0 ≡ None) all) (sym c.requires.under) (texts_pass (kept_objects (flat blocks)) c.requires.located) in (
      ap (λ some. vec_items c.args.paths.now ++ map (λ entry. segments_of entry.0) some)
          (ap (take_while (is_early text)) left ∙ range-at text c.as_bytes.result.now blocks c.place_of-place.result (c.as_bytes.ensures ∙ c.in_ok-first.ensures) c.requires.rising c.place_of-place.ensures),
      subst (λ all. AllByRecursion (λ entry. parse_refusal entry.0 ≡ None) all) (sym left)
          (each-drop (λ entry. parse_refusal entry.0 ≡ None) number (flat blocks) pass),
    )

pub loop-entry-preserved : goal.loop-entry-preserved
loop-entry-preserved c =
    let text = c.args.text.now in
    let entry = c.in-Some.entry.now in
    let rest = c.next.new.self in
    let steps : c.loop-entry.entry-iterator ≡ entry ∷ rest = search rules in
    let early : is_early text entry ≡ true = search rules in
    let pushed : vec_items c.push.new.self ≡ vec_items c.loop-entry.paths ++ segments_of entry.0 ∷ [] = search rules in
    let left : take_while (is_early text) c.loop-entry.entry-iterator ≡ entry ∷ take_while (is_early text) rest =
    ap (take_while (is_early text)) steps ∙ early-first (is_early text) entry rest early in
    let pass = subst (λ all. AllByRecursion (λ entry. parse_refusal entry.0 ≡ None) all) steps c.loop-entry.invariant.1 in (
      ap (λ front. front ++ map (λ entry. segments_of entry.0) (take_while (is_early text) rest)) pushed
          ∙ append_assoc (vec_items c.loop-entry.paths) (segments_of entry.0 ∷ []) (map (λ entry. segments_of entry.0) (take_while (is_early text) rest))
          ∙ ap (λ some. vec_items c.loop-entry.paths ++ map (λ entry. segments_of entry.0) some) (sym left)
          ∙ c.loop-entry.invariant.0,
      pass.1,
    )
