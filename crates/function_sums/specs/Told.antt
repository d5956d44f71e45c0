-- What the texts of functions tell beside the weights of functions, and how they say a weight.
use Rattle.std.specs.Prelude.{ℕ, Bool, List, [], ◌++◌, Option, None, codes, decimal, if◌then◌else◌}
use Rattle.std.specs.Str.{bytes_eq}
use Rattle.view_texts.specs.WeightTexts.{weight_text}
use Rattle.function_sums.specs.declared.telling.Telling.{Telling}

-- what all samples weigh, with those that a filter leaves out, where that is told; the sample type and the unit that all weights
-- have, which are empty where there is none
pub record Told : Type 0 where
  pub whole : Option ℕ
  pub type_name : List ℕ
  pub unit : List ℕ

abbrev pub nothing_told : Told
nothing_told = record { whole = None; type_name = []; unit = [] }

abbrev pub told_of : Telling → Told
told_of telling = record { whole = telling.whole; type_name = telling.type_name.now; unit = telling.unit.now }

-- a weight as it is read at a glance, or exactly
abbrev pub said : Bool → List ℕ → ℕ → List ℕ
said is_exact unit weight = if is_exact then decimal weight else weight_text unit weight

-- a text behind its label, unless it is empty
abbrev pub labelled : List ℕ → List ℕ → List ℕ
labelled label text = if bytes_eq text [] then [] else label ++ text

-- how many of all are shown, and of what, a function's name behind it
abbrev pub shown_of : ℕ → ℕ → List ℕ → List ℕ → List ℕ
shown_of shown count what name =
    codes "Showing " ++ (decimal shown ++ (codes " of " ++ (decimal count ++ (what ++ name))))

-- the type of the weights, and their unit where they don't say it themselves
abbrev pub kind_of : Bool → Told → List ℕ
kind_of is_exact told = labelled (codes ", type ") told.type_name ++ (if is_exact then labelled (codes ", unit ") told.unit else [])

-- what stands above a table of weights that are parts of the whole
abbrev pub whole_heading : Bool → Told → ℕ → List ℕ
whole_heading is_exact told whole =
    kind_of is_exact told ++ (codes ", total " ++ (said is_exact told.unit whole ++ codes "\n"))

-- and above one of changes
abbrev pub sides_heading : Bool → Told → ℕ → ℕ → List ℕ
sides_heading is_exact told before after =
    kind_of is_exact told ++ (codes ", total " ++ (said is_exact told.unit before ++ (codes " before, " ++ (said is_exact told.unit after ++ codes " after\n"))))
