-- Worked filters, computed on the definitions.
use Rattle.std.proofs.Common.{◌≡◌, ℕ, true, false, refl, List, [], ◌∷◌, codes}
use Rattle.sample_tables.specs.declared.samples.Sample.{Sample}
use Rattle.run_options.specs.declared.filters.Filter.{Filter}
use Rattle.run_options.specs.Filters.{everything, has_text, kept_samples}

in_the_middle : has_text (codes "ars") (codes "parse") ≡ true
in_the_middle = refl

at_the_end : has_text (codes "se") (codes "parse") ≡ true
at_the_end = refl

in_another_case : has_text (codes "Parse") (codes "parse") ≡ false
in_another_case = refl

longer_than_the_name : has_text (codes "parser") (codes "parse") ≡ false
longer_than_the_name = refl

abbrev main : List ℕ
main = codes "main"

abbrev read : Sample
read = record { stack = main ∷ codes "parse" ∷ codes "read" ∷ []; weight = 3 }

abbrev layout : Sample
layout = record { stack = main ∷ codes "layout" ∷ []; weight = 5 }

abbrev idle : Sample
idle = record { stack = []; weight = 7 }

abbrev three : List Sample
three = read ∷ layout ∷ idle ∷ []

abbrev asks : List (List ℕ) → List (List ℕ) → Filter
asks focus hide = record { focus = focus; hide = hide }

all_of_three : kept_samples everything three ≡ three
all_of_three = refl

-- a frame in the middle of a stack counts too
in_focus : kept_samples (asks (codes "pars" ∷ []) []) three ≡ read ∷ []
in_focus = refl

-- one of the texts is enough
in_either_focus : kept_samples (asks (codes "read" ∷ codes "out" ∷ []) []) three ≡ read ∷ layout ∷ []
in_either_focus = refl

hidden : kept_samples (asks [] (codes "layout" ∷ [])) three ≡ read ∷ idle ∷ []
hidden = refl

-- what is hidden is left out, in the focus too
hidden_in_focus : kept_samples (asks (main ∷ []) (codes "read" ∷ [])) three ≡ layout ∷ []
hidden_in_focus = refl

nothing_in_focus : kept_samples (asks (codes "paint" ∷ []) []) three ≡ []
nothing_in_focus = refl
