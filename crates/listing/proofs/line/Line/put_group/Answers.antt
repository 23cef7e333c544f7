use Rattle.listing.proofs.Grown.{also}
use Rattle.listing.proofs.line.Line.put_group.Goals as goal

pub returns : goal.returns
returns c =
    let bytes = simp c.bytes.ensures at c.put_hex.ensures in
    also (also (also (also (also c.put_address.ensures c.put.ensures) bytes) c.put-2.ensures) c.put_name.ensures) c.put_end.ensures
