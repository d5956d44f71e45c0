use Rattle.std.proofs.Common.{◌∙◌, ap, ◌*◌, ◌/◌}
use Rattle.svg_texts.proofs.Shades.{tenths_of}
use Rattle.svg_texts.proofs.fills.tenths.Goals as goal

pub returns : goal.returns
returns c = tenths_of c.from-count.result c.args.number ∙ ap (λ count. count * c.args.number / 10) c.from-count.ensures
