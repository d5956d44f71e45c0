-- What a plan asks to tell of the types of the weights.
use Rattle.std.specs.Prelude.{Bool, true, false}
use Rattle.command_line.specs.declared.plans.Form.{Form}
use Rattle.command_line.specs.declared.plans.Form.TheVariants as form
use Rattle.command_line.specs.declared.plans.View.{View}
use Rattle.command_line.specs.declared.plans.View.TheVariants.{Fold, Graph, Chart, Pairs, PairBoxes, Top, Diff}

-- the text of the view tells them
abbrev pub view_tells : View → Bool
view_tells Fold = false
view_tells (Graph width) = false
view_tells (Chart width) = false
view_tells Pairs = false
view_tells (PairBoxes width) = false
view_tells (Top top) = true
view_tells (Diff table) = true

-- what is written of the view tells them
abbrev pub form_tells : Form → View → Bool
form_tells form.Text view = view_tells view
form_tells (form.Page page) view = true
form_tells (form.Picture picture) view = true
form_tells form.Types view = view_tells view
form_tells form.Live view = view_tells view
form_tells (form.Callers table) view = true
form_tells (form.Callees table) view = true
form_tells (form.Peek table) view = true
