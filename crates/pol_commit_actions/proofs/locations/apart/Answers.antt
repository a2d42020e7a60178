use Rattle.std.proofs.Common.{◌∙◌, ap, rules, sym}
use Rattle.std.specs.Option.{option_map}
use Rattle.pol_commands.specs.declared.reply.Refusal.TheVariants.{LocationOverlap}
use Rattle.pol_table_rows.specs.declared.row.TableRow.{TableRow}
use Rattle.pol_commit_actions.specs.Seen.{committed_tables}
use Rattle.pol_commit_actions.proofs.OverlapLemmas.{ids-seen, overlap_is}
use Rattle.pol_commit_actions.proofs.locations.apart.Goals as goal

pub returns-in-None : goal.returns-in-None
returns-in-None c =
    let s = c.args.asked.now.state.now.rows in
    let row = c.args.row.now in
    let ids = c.requires.ids ∙ ids-seen c.args.tables.now in (
      overlap_is s c.requires.sound (committed_tables c.args.tables.now) c.requires.replaced row c.args.ids.now ids c.requires.among
          ∙ ap (option_map (λ (other : TableRow). LocationOverlap row.location other.location)) (sym c.in-None.ensures),
      tt,
    )

pub returns-in_ok-clone-in-Some-2 : goal.returns-in_ok-clone-in-Some-2
returns-in_ok-clone-in-Some-2 c =
    let s = c.args.asked.now.state.now.rows in
    let row = c.args.row.now in
    let ids = c.requires.ids ∙ ids-seen c.args.tables.now in
    overlap_is s c.requires.sound (committed_tables c.args.tables.now) c.requires.replaced row c.args.ids.now ids c.requires.among
    ∙ ap (option_map (λ (other : TableRow). LocationOverlap row.location other.location)) (sym c.in-Some.ensures)
    ∙ search rules
