use Rattle.std.proofs.Common.{drop, length, sym, ap, ◌∙◌, arith}
use Rattle.stack_core.specs.Parts.{bytes_of}
use Rattle.bytes.proofs.Ranges.{drop-slice_range}
use Rattle.folded_lines.proofs.Buffers.{held_length}
use Rattle.folded_lines.proofs.line_buffer.LineBuffer.drop_front.Goals as goal

pub returns : goal.returns
returns c =
    let buffer = c.self.inside in
    let long = held_length buffer c.self.invariant in
    sym (drop-slice_range (bytes_of buffer.bytes) buffer.start buffer.end c.args.len (omega (arith, c.requires, ap length c.self.view_is, long, c.self.invariant.low, c.self.invariant.high)))
    ∙ ap (drop c.args.len) c.self.view_is
