-- Worked stacks that begin at a frame of a name, computed on the definitions.
use Rattle.std.proofs.Common.{◌≡◌, ℕ, refl, List, [], ◌∷◌, None, Some, codes}
use Rattle.sample_tables.specs.declared.samples.Sample.{Sample}
use Rattle.stack_core.specs.Reading.{Rest}
use Rattle.stack_core.specs.declared.endings.SourceEnd.TheVariants as ends
use Rattle.source_lists.specs.FromNames.{rests_from, samples_from, stack_from}

abbrev pub main : List ℕ
main = codes "main"

abbrev pub parse : List ℕ
parse = codes "parse"

abbrev pub read : List ℕ
read = codes "read"

in_the_middle : stack_from parse (main ∷ parse ∷ read ∷ []) ≡ parse ∷ read ∷ []
in_the_middle = refl

at_the_root : stack_from main (main ∷ parse ∷ []) ≡ main ∷ parse ∷ []
at_the_root = refl

-- of several the one nearest to the root
twice : stack_from parse (main ∷ parse ∷ read ∷ parse ∷ []) ≡ parse ∷ read ∷ parse ∷ []
twice = refl

-- the whole name counts
part_of_a_name : stack_from (codes "pars") (main ∷ parse ∷ []) ≡ []
part_of_a_name = refl

abbrev through_parse : Sample
through_parse = record { stack = main ∷ parse ∷ read ∷ []; weight = 3 }

abbrev elsewhere : Sample
elsewhere = record { stack = main ∷ read ∷ []; weight = 5 }

abbrev in_parse : Sample
in_parse = record { stack = read ∷ parse ∷ []; weight = 2 }

abbrev idle : Sample
idle = record { stack = []; weight = 7 }

cut_samples : samples_from parse (through_parse ∷ elsewhere ∷ idle ∷ in_parse ∷ [])
    ≡ record { stack = parse ∷ read ∷ []; weight = 3 } ∷ record { stack = parse ∷ []; weight = 2 } ∷ []
cut_samples = refl

-- stacks that were apart may be equal then
equal_stacks : samples_from read (through_parse ∷ elsewhere ∷ []) ≡ record { stack = read ∷ []; weight = 3 } ∷ record { stack = read ∷ []; weight = 5 } ∷ []
equal_stacks = refl

abbrev some_read : Rest
some_read = record { samples = through_parse ∷ elsewhere ∷ []; ending = ends.Clean 1 }

nowhere : rests_from (Some (codes "nowhere")) (some_read ∷ []) ≡ record { samples = []; ending = ends.Clean 1 } ∷ []
nowhere = refl

without_a_name : rests_from None (some_read ∷ []) ≡ some_read ∷ []
without_a_name = refl
