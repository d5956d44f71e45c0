use Rattle.std.proofs.Common.{arith, ap, length, length-take}
use Rattle.folded_lines.proofs.FoundLines.{fed_line}
use Rattle.folded_lines.proofs.stream_lines.StreamLines.line_before.Goals as goal

pub returns : goal.returns
returns g c =
    let line = c.without_cr.ensures in
    fed_line c.args.self.now.state c.args.self.now.buffer c.args.at c.front.result.now c.without_cr.result.now c.requires.unfailed c.requires.feed c.front.ensures line.text line.front line.short
    (omega (arith, ap length c.front.ensures, length-take c.args.at c.args.self.now.buffer))
