-- Worked examples of text in parts and of names that do not read back, computed on the definitions.
use Rattle.std.proofs.Common.{◌≡◌, ℕ, true, false, List, [], ◌∷◌, ◌++◌, codes, refl}
use Rattle.std.specs.Fmt.{digits}
use Rattle.sample_tables.specs.declared.samples.Sample.{Sample}
use Rattle.stack_core.specs.declared.endings.ReadKind.TheVariants.{TwoColumns}
use Rattle.stack_core.specs.declared.endings.SourceEnd.TheVariants as ends
use Rattle.folded_lines.specs.LastNames.{last_ends_in_number, is_open}
use Rattle.folded_lines.specs.Reading.{read_folded}
use Rattle.folded_lines.specs.ReadingBack.{text_of}
use Rattle.folded_lines.specs.TextParts.{samples_of_parts}
use Rattle.folded_lines.proofs.Computing.{computing}

abbrev numbered : Sample
numbered = record { stack = codes "a 1" ∷ []; weight = 2 }

-- the ';' hides the number from the line's reader, and the written line has no ';'
open_line : (read_folded (codes "a 1; 2\n") ≡ record { samples = numbered ∷ []; ending = ends.Clean 0 }) × (is_open (codes "a 1; 2") ≡ true) × (last_ends_in_number numbered.stack ≡ true)
unfolding computing
open_line = (refl, refl, refl)

open_line_back : read_folded (text_of (numbered ∷ [])) ≡ record { samples = []; ending = ends.Fault (record { kind = TwoColumns; at = 1 }) }
unfolding computing digits
open_line_back = refl

-- a number in an inner name, or behind a ':', is none at the end
inner_number : (is_open (codes "a 1;b 2") ≡ false) × (last_ends_in_number (codes "a 1" ∷ codes "b" ∷ []) ≡ false) × (last_ends_in_number (codes "a 1:2" ∷ []) ≡ false)
unfolding computing
inner_number = (refl, refl, refl)

abbrev one : List ℕ
one = codes "a;b 1\nx\n"

abbrev other : List ℕ
other = codes "c 2\ny"

parts_of_a_text : (read_folded (one ++ other) ≡ record { samples = samples_of_parts (one ∷ other ∷ []); ending = ends.Clean 2 }) × (samples_of_parts (one ∷ other ∷ []) ≡ record { stack = codes "a" ∷ codes "b" ∷ []; weight = 1 } ∷ record { stack = codes "c" ∷ []; weight = 2 } ∷ [])
unfolding computing
parts_of_a_text = (refl, refl)

-- a cut within a line changes what is read
cut_in_a_line : (read_folded (codes "a 12\n") ≡ record { samples = record { stack = codes "a" ∷ []; weight = 12 } ∷ []; ending = ends.Clean 0 }) × (samples_of_parts (codes "a 1" ∷ codes "2\n" ∷ []) ≡ record { stack = codes "a" ∷ []; weight = 1 } ∷ [])
unfolding computing
cut_in_a_line = (refl, refl)
