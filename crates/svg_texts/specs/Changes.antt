-- What changed of a path from one profile to the other: what is said of it, and its colour.
use Rattle.std.specs.Prelude.{List, ℕ, Option, None, Some}
use Rattle.function_sums.specs.ChangeTable.{points}
use Rattle.function_sums.specs.FunctionChanges.{share_after, share_before}
use Rattle.function_sums.specs.declared.changes.Change.{Change}
use Rattle.view_texts.specs.WeightTexts.{change_text}
use Rattle.svg_texts.specs.Fills.{change_fill}
use Rattle.svg_texts.specs.declared.changes.Compared.{Compared}

-- of its weights, in percent of that before; and of their shares of both wholes, the difference of these as they are written
abbrev pub said_of : Option Change → Change → List ℕ
said_of None weights = change_text weights.before weights.after
said_of (Some whole) weights = points whole weights

abbrev pub said_change : Compared → List ℕ
said_change compared = said_of compared.whole compared.weights

-- the colour of a change of weights, or of the shares themselves
abbrev pub colour_by : Option Change → Change → List ℕ
colour_by None weights = change_fill weights.before weights.after
colour_by (Some whole) weights = change_fill (share_before whole weights) (share_after whole weights)

abbrev pub compared_fill : Compared → List ℕ
compared_fill compared = colour_by compared.whole compared.weights
