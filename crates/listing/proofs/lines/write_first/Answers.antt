use Rattle.std.proofs.Common.{◌≡◌, ℕ, List, length, take, ap, ◌∙◌, arith}
use Rattle.listing.specs.Groups.{said}
use Rattle.listing.specs.Lines.{group_size, line_at, overwritten}
use Rattle.listing.specs.Text.{line_text}
use Rattle.listing.proofs.Fits.{line_at_fits, whole_line, whole_size}
use Rattle.listing.proofs.Parts.{sized}
use Rattle.listing.proofs.lines.write_first.Goals as goal

pub overflow_cast-result-2 : goal.overflow_cast-result-2
overflow_cast-result-2 c =
    let first = c.in-Some.ensures.steps in
    omega (arith, (sized _ _ _ first.some first.group c.bytes.ensures).most)

pub returns : goal.returns
returns c =
    let first = c.in-Some.ensures.steps in
    let group = said c.in-Some.placed.group in
    let line : c.of-line.result ≡ line_at c.args.code.address c.args.code.bytes.now =
    whole_line c.args.code.address c.args.code.bytes.now c.of-line.result group first.some first.group
    (c.of-line.ensures ∙ ap (λ (a : ℕ). take 24 (line_text a group)) first.address)
    in
    let length-of : length c.text.result.now ≡ length (line_at c.args.code.address c.args.code.bytes.now) =
    ap length (c.text.ensures.value ∙ line)
    in
    let size : length c.bytes.result.now ≡ group_size c.args.code.bytes.now =
    ap length c.bytes.ensures ∙ whole_size c.args.code.bytes.now group first.some first.group
    in
    let sizes = sized c.args.code.bytes.now c.bytes.result.now group first.some first.group c.bytes.ensures in
    record {
      lengths = cc;
      bound = (omega (arith, length-of, line_at_fits c.args.code.address c.args.code.bytes.now), sizes.most);
      buffer = c.put_line.ensures ∙ ap (λ (text : List ℕ). overwritten text c.args.buffer.now) line;
    }
