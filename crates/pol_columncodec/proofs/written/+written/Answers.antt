use Rattle.std.proofs.Common.{◌+◌}
use Rattle.std.proofs.lemmas.List.{nil_from_length}
use Rattle.pol_columnforms.specs.Columns.{type_form}
use Rattle.pol_columncodec.proofs.WrittenLemmas.{list_left_out, map_left_out, none_told, pair_told, struct_left_out}
use Rattle.pol_columncodec.proofs.written.+written.Goals as goal

pub write_struct-returns-then-left-eq0 : goal.write_struct-returns-then-left-eq0
write_struct-returns-then-left-eq0 t c = record {
  bytes = struct_left_out c.args.left c.args.depth c.args.columns.now c.args.written.now.items c.if-left-eq0.true;
}

pub write_list-returns-then-left-eq0 : goal.write_list-returns-then-left-eq0
write_list-returns-then-left-eq0 t c = record {
  bytes = list_left_out c.args.left c.args.depth c.args.columns.now c.args.written.now.items c.if-left-eq0.true;
}

pub write_map-returns-then-left-eq0 : goal.write_map-returns-then-left-eq0
write_map-returns-then-left-eq0 t c = record {
  bytes = map_left_out c.args.left c.args.depth c.args.columns.now c.args.written.now.items c.if-left-eq0.true;
}

pub write_pair-returns-in_default : goal.write_pair-returns-in_default
write_pair-returns-in_default t c = record {
  bytes = none_told c.args.depth (type_form c.args.left (c.args.depth + 1)) c.args.columns.now c.write_element.result
      c.args.written.now.items c.write_typed.new.written.items c.write_element.new.written.items
      (nil_from_length c.args.columns.now c.in_default.ensures.cases) c.in_ok-write_typed.ensures.bytes c.write_element.ensures.bytes;
}

pub write_pair-returns : goal.write_pair-returns
write_pair-returns t c = record {
  bytes = pair_told c.args.depth (type_form c.args.left (c.args.depth + 1)) c.args.columns.now c.in-Some.key.now c.in-Some.others.now
      c.parted.result.0.now c.parted.result.1.now c.write_element-2.result
      c.args.written.now.items c.write_typed-2.new.written.items c.write_element-2.new.written.items
      c.in-Some.ensures.cases.0 c.parted.ensures.inner c.parted.ensures.beside c.in_ok-write_typed-2.ensures.bytes c.write_element-2.ensures.bytes;
}
