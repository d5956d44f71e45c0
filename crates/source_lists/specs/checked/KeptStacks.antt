-- Which stacks of a list are kept.
use Rattle.std.specs.Prelude.{ℕ, Bool, ◌||◌, ◌&&◌, List, [], None, map, not}
use Rattle.std.specs.List.{filter, list_any}
use Rattle.sample_tables.specs.Rows.{name_at}
use Rattle.sample_tables.specs.declared.samples.Sample.{Sample}
use Rattle.stack_core.specs.Ledgers.{LedgerState, ListState}
use Rattle.stack_core.specs.Reading.{Rest}
use Rattle.run_options.specs.Filters.{keeps}
use Rattle.source_lists.specs.declared.kept_stacks.Keeping.{Keeping}
use Rattle.source_lists.specs.declared.kept_stacks.Keeping.TheVariants.{Begun, Filtered}
use Rattle.source_lists.specs.checked.NameMarks.{begins, is_marked}

-- the stacks that are kept
abbrev pub passes : Keeping → List (List ℕ) → Bool
passes (Filtered asked) stack = keeps asked.now stack
passes (Begun from) stack = list_any (begins from.now) stack

-- a stack is kept by the marks of its numbers
abbrev pub keeps_marked : Bool → List Bool → List Bool → List ℕ → Bool
keeps_marked has_focus focus hide numbers =
    (not has_focus || list_any (is_marked focus) numbers) && not (list_any (is_marked hide) numbers)

-- for each stack of the list whether it passes
abbrev pub are_passing : (List (List ℕ) → Bool) → ListState → List Bool
are_passing passes list = map (λ frames. passes (map (name_at list.told) frames)) list.stacks

abbrev pub all_are_passing : (List (List ℕ) → Bool) → List ListState → List (List Bool)
all_are_passing passes lists = map (are_passing passes) lists

-- the samples whose stacks pass, and the same of what is read of a source
abbrev pub passing_samples : (List (List ℕ) → Bool) → List Sample → List Sample
passing_samples passes samples = filter (λ sample. passes sample.stack) samples

abbrev pub passing_rest : (List (List ℕ) → Bool) → Rest → Rest
passing_rest passes rest = record { samples = passing_samples passes rest.samples; ending = rest.ending }

-- a ledger that has names and stacks, and nothing else
abbrev pub begun : List (List ℕ) → List (List ℕ) → LedgerState
begun told stacks = record { samples = []; close = None; told = told; rows = []; stacks = stacks; entries = [] }
