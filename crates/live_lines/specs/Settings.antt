-- What no sample changes, as numbers.
use Rattle.std.specs.Prelude.{ℕ, suc, List, [], ◌∷◌, ◌++◌, Option, None, Some, length}
use Rattle.live_lines.specs.declared.form.LiveForm.{LiveForm}
use Rattle.live_lines.specs.declared.form.LiveForm.TheVariants.{Lines, Pages, Table}

abbrev pub known_numbers : Option (List ℕ) → List ℕ
known_numbers None = []
known_numbers (Some bytes) = 1 ∷ bytes

-- numbers behind how many they are
abbrev pub counted_numbers : List ℕ → List ℕ
counted_numbers numbers = length numbers ∷ numbers

abbrev pub form_number : LiveForm → ℕ
form_number Lines = 0
form_number Pages = 1
form_number (Table every) = suc (suc every)

-- which outlet it is, by its ghost name, what stood in it and how many of its calls had failed, and what is written; and what no end
-- changes of who is told how sources end
abbrev pub live_setting : ℕ → Option (List ℕ) → ℕ → LiveForm → ℕ → ℕ → ℕ → List ℕ → List ℕ
live_setting name contents failures form sources width every kept =
    name ∷ failures ∷ form_number form ∷ sources ∷ width ∷ every ∷ (counted_numbers (known_numbers contents) ++ kept)
