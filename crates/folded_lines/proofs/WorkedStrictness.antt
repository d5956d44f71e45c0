-- Worked examples of a strict reading, computed on the definitions.
use Rattle.std.proofs.Common.{◌≡◌, [], ◌∷◌, Some, None, codes, refl}
use Rattle.stack_core.specs.declared.endings.ReadKind.TheVariants.{Compressed, TwoColumns}
use Rattle.folded_lines.specs.StrictReading.{strict_at, strict_fault}
use Rattle.folded_lines.specs.declared.strictness.StrictKind.TheVariants.{NoCount, NoSamples, Read}
use Rattle.folded_lines.proofs.Computing.{computing}

no_bytes : strict_fault [] ≡ Some (strict_at 0 NoSamples)
unfolding computing
no_bytes = refl

all_samples : strict_fault (codes "a;b 2\na 0") ≡ None
unfolding computing
all_samples = refl

first_of_two : strict_fault (codes "a;b 2\nno count\nb 1\nnor here\n") ≡ Some (strict_at 2 NoCount)
unfolding computing
first_of_two = refl

empty_line : strict_fault (codes "\na 1\n") ≡ Some (strict_at 1 NoCount)
unfolding computing
empty_line = refl

ignored_before_a_fault : strict_fault (codes "a 1\nno count\na 1 2\n") ≡ Some (strict_at 2 NoCount)
unfolding computing
ignored_before_a_fault = refl

fault_before_an_ignored : strict_fault (codes "a 1\na 1 2\nno count\n") ≡ Some (strict_at 2 (Read TwoColumns))
unfolding computing
fault_before_an_ignored = refl

compressed : strict_fault (0x1f ∷ 0x8b ∷ 0x08 ∷ []) ≡ Some (strict_at 1 (Read Compressed))
compressed = refl
