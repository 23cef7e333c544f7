-- The table is its rule at each opcode in turn, so what stands at an opcode is the rule at it.
use Rattle.std.proofs.Common.{◌∙◌, arith}
use Rattle.std.proofs.lemmas.List.FromFn.{get_or-map-range_with_len}
use Rattle.isa.specs.Table.{packed}
use Rattle.isa.proofs.table.packed_entry.Goals as goal

pub returns : goal.returns
returns c =
    c.at_place.ensures
    ∙ get_or-map-range_with_len packed 0 256 c.args.opcode c.args.opcode 0 (omega arith) (omega arith)
