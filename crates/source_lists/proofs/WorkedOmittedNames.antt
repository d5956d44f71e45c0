-- Worked stacks of which frames are left out, computed on the definitions.
use Rattle.std.proofs.Common.{◌≡◌, ℕ, refl, List, [], ◌∷◌, None, Some, codes}
use Rattle.stack_core.specs.Reading.{Rest}
use Rattle.stack_core.specs.declared.endings.SourceEnd.TheVariants as ends
use Rattle.source_lists.specs.OmittedNames.{shown_rests, stack_without}
use Rattle.source_lists.proofs.WorkedFromNames.{main, parse, read}

in_the_middle : stack_without (parse ∷ []) (main ∷ parse ∷ read ∷ []) ≡ main ∷ read ∷ []
in_the_middle = refl

-- each frame of the name, wherever it stands
several_times : stack_without (parse ∷ []) (parse ∷ main ∷ parse ∷ parse ∷ []) ≡ main ∷ []
several_times = refl

two_names : stack_without (main ∷ read ∷ []) (main ∷ parse ∷ read ∷ []) ≡ parse ∷ []
two_names = refl

-- the whole name counts
part_of_a_name : stack_without (codes "pars" ∷ []) (main ∷ parse ∷ []) ≡ main ∷ parse ∷ []
part_of_a_name = refl

abbrev some_read : Rest
some_read = record {
  samples = record { stack = main ∷ parse ∷ read ∷ []; weight = 3 } ∷ record { stack = main ∷ read ∷ []; weight = 5 } ∷ record { stack = parse ∷ []; weight = 2 } ∷ [];
  ending = ends.Clean 1;
}

-- each sample stays with its weight, also one of whose stack nothing is left
weights_stay : shown_rests None (parse ∷ main ∷ []) (some_read ∷ [])
    ≡ record { samples = record { stack = read ∷ []; weight = 3 } ∷ record { stack = read ∷ []; weight = 5 } ∷ record { stack = []; weight = 2 } ∷ []; ending = ends.Clean 1 } ∷ []
weights_stay = refl

-- stacks begin at a name before its frames are left out
begun_first : shown_rests (Some parse) (parse ∷ []) (some_read ∷ [])
    ≡ record { samples = record { stack = read ∷ []; weight = 3 } ∷ record { stack = []; weight = 2 } ∷ []; ending = ends.Clean 1 } ∷ []
begun_first = refl

without_names : shown_rests None [] (some_read ∷ []) ≡ some_read ∷ []
without_names = refl
