use Rattle.std.proofs.Common.{◌∙◌, ap}
use Rattle.std.specs.BTreeMap.{insert_entry}
use Rattle.pol_blocks.specs.Blocks.{flat}
use Rattle.pol_objects.specs.Objects.{byte_order, object_with}
use Rattle.pol_objects.proofs.Kept.{added, new-text}
use Rattle.pol_objects.proofs.object_map.ObjectMap.insert.Goals as goal

pub insert-requires-clause-new : goal.insert-requires-clause-new
insert-requires-clause-new c =
    let new = rw (← c.self.view_is) at c.requires.new in
    new-text (flat c.self.inside.by_text) c.in_ok-entry.entry.0 c.args.path.now c.self.invariant c.in_ok-text.ensures.located
    (ap (λ entry. entry.0) c.in_ok-entry.ensures ∙ c.in_ok-text.ensures.text) new

pub invariant_of-self-2 : goal.invariant_of-self-2
invariant_of-self-2 c =
    let new = rw (← c.self.view_is) at c.requires.new in
    let entry = c.in_ok-entry.entry in
    let entries = flat c.self.inside.by_text in
    (added entries (flat c.insert.new.entries) entry.0 (object_with c.args.path.now c.args.bytes) c.self.invariant
    (ap (λ entry. entry.0) c.in_ok-entry.ensures ∙ c.in_ok-text.ensures.text) c.in_ok-text.ensures.located new
    (c.in_ok-insert.ensures.put ∙ ap (λ some. insert_entry byte_order entries entry.0 some.1) c.in_ok-entry.ensures) c.in_ok-insert.ensures.rising).kept

pub returns-clause-added : goal.returns-clause-added
returns-clause-added c =
    let new = rw (← c.self.view_is) at c.requires.new in
    let entry = c.in_ok-entry.entry in
    let entries = flat c.self.inside.by_text in
    rw (← c.self.view_is)
    (added entries (flat c.insert.new.entries) entry.0 (object_with c.args.path.now c.args.bytes) c.self.invariant
    (ap (λ entry. entry.0) c.in_ok-entry.ensures ∙ c.in_ok-text.ensures.text) c.in_ok-text.ensures.located new
    (c.in_ok-insert.ensures.put ∙ ap (λ some. insert_entry byte_order entries entry.0 some.1) c.in_ok-entry.ensures) c.in_ok-insert.ensures.rising).holds
