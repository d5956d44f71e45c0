-- What is known of a source that was read, before its strict fault is told.
use Rattle.std.specs.Prelude.{◌≡◌, ◌<◌, ℕ, Bool, true, false, List, [], ◌∷◌, length, Option, Some, None, IfSome}
use Rattle.stack_core.specs.Ledgers.{ListState}
use Rattle.stack_core.specs.declared.endings.SourceEnd.TheVariants.{Clean}
use Rattle.ring_collect.specs.Collection.{seen_as_rest}
use Rattle.folded_lines.specs.declared.strictness.StrictFault.{StrictFault}
use Rattle.run_options.specs.declared.formats.Format.{Format}
use Rattle.run_options.specs.declared.options.Options.{Options}
use Rattle.source_lists.specs.Sources.{asked_rest, known_input}
use Rattle.source_lists.specs.Strictness.{source_fault}

-- something is there
abbrev pub has_some : {A : Type 0} → List A → Bool
has_some [] = false
has_some (item ∷ items) = true

-- all of a source was read, no line of it is ignored, and a sample was kept
pub record IsSound (list : ListState) : Type 0 where
  pub clean : list.ending ≡ Clean 0
  pub some : 0 < length list.samples

-- the list is there, and has what the options ask for of the source
abbrev pub IsReadAs : Options → Format × List ℕ → Option ListState → Type 0
IsReadAs options source None = ⊥
IsReadAs options source (Some list) = seen_as_rest list ≡ asked_rest options source.0 source.1

-- what is wrong with an input, where its bytes are known and this is its list
abbrev pub HasFault : Format × Option (List ℕ) → Option ListState → Option StrictFault → Type 0
HasFault input found fault = IfSome (known_input input) (λ source. (options : Options) → IsReadAs options source found → fault ≡ source_fault options source)

-- the same of inputs and the lists at their places
abbrev pub HaveFaults : List (Format × Option (List ℕ)) → List ListState → List (Option StrictFault) → Type 0
HaveFaults [] lists [] = Unit {0}
HaveFaults [] lists (fault ∷ faults) = ⊥
HaveFaults (input ∷ inputs) lists [] = ⊥
HaveFaults (input ∷ inputs) [] (fault ∷ faults) = HaveFaults inputs [] faults
HaveFaults (input ∷ inputs) (list ∷ lists) (fault ∷ faults) = HasFault input (Some list) fault × HaveFaults inputs lists faults
