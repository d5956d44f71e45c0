use Rattle.svg_texts.specs.Fills.{name_fill}
use Rattle.svg_texts.proofs.fills.append_name_fill.Goals as goal

pub returns-clause-ok : goal.returns-clause-ok
unfolding name_fill
returns-clause-ok c = rw (← c.hash_of.ensures, ← c.colour_of.ensures.colour) c.append_fill_of_number.ensures.ok
