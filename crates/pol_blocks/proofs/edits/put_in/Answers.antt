use Rattle.pol_blocks.proofs.Replaced.{put-in, put-kept}
use Rattle.pol_blocks.proofs.edits.put_in.Goals as goal

pub returns-clause-put : goal.returns-clause-put
returns-clause-put g c =
    put-in c.args.parts.now.items c.args.spot.block c.index_mut.result.now c.insert.new.self c.requires.block c.index_mut.ensures.value c.args.spot.offset c.args.item c.insert.result c.requires.within c.requires.room c.insert.ensures.items

pub returns-clause-error : goal.returns-clause-error
returns-clause-error g c =
    put-kept c.args.parts.now.items c.args.spot.block c.index_mut.result.now c.insert.new.self c.requires.block c.index_mut.ensures.value c.args.spot.offset c.args.item c.insert.result c.insert.ensures.items
