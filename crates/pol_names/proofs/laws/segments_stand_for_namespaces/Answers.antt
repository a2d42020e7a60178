use Rattle.std.proofs.lemmas.List.Splits.{join_with_byte-slice_split}
use Rattle.pol_names.proofs.Levels.{levels_of-segment_of}
use Rattle.pol_names.proofs.laws.segments_stand_for_namespaces.Goals as goal

pub returns-clause-read_back : goal.returns-clause-read_back
returns-clause-read_back c = levels_of-segment_of

pub returns-clause-write_back : goal.returns-clause-write_back
returns-clause-write_back c = join_with_byte-slice_split 0x1F
