use Rattle.std.proofs.Common.{◌∙◌, ap, arith}
use Rattle.listing.specs.Text.{hexes}
use Rattle.listing.proofs.Grown.{address_digits, spelt}
use Rattle.listing.proofs.line.Line.put_address.Goals as goal

pub returns : goal.returns
returns c = spelt _ (ap hexes c.to_be_bytes.ensures ∙ address_digits c.args.address (omega arith)) c.put_hex.ensures
