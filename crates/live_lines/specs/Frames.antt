-- What stands on a terminal while samples come: a frame each time that so many more came, in the place of the one before, and at the
-- end a table in the place of the last one.
use Rattle.std.specs.Prelude.{ℕ, ◌-◌, ◌==◌, Bool, false, nat_le, nat_lt, if◌then◌else◌, List, [], ◌∷◌, ◌++◌, Some, codes, decimal, length, replicate}
use Rattle.std.specs.List.{flat_map}
use Rattle.sample_tables.specs.declared.samples.Sample.{Sample}
use Rattle.function_sums.specs.FunctionList.{functions_of}
use Rattle.run_options.specs.declared.orders.FunctionOrder.TheVariants.{Own}
use Rattle.function_sums.specs.Told.{nothing_told}
use Rattle.function_sums.specs.TopTexts.{top_table}
use Rattle.view_texts.specs.WeightTexts.{weight_text}
use Rattle.merging.specs.Snapshots.{first_samples, samples_of_pairs, snapshot_places}
use Rattle.live_lines.specs.Terminal.{plain_text}

-- the cursor goes to the first column, up by 13 lines, and what stands below is cleared
abbrev pub clear_frame : List ℕ
clear_frame = 13 ∷ 27 ∷ codes "[13A" ++ 27 ∷ codes "[J"

-- the terminal cuts long lines from now on, or wraps them
abbrev pub cut_lines : List ℕ
cut_lines = 27 ∷ codes "[?7l"

abbrev pub wrap_lines : List ℕ
wrap_lines = 27 ∷ codes "[?7h"

-- the one word of one, and the other of any other count
abbrev pub word_of : ℕ → List ℕ → List ℕ → List ℕ
word_of count one many = if count == 1 then one else many

-- how many samples of how many sources came
abbrev pub frame_heading : ℕ → ℕ → List ℕ
frame_heading at sources =
    weight_text [] at ++ (word_of at (codes " sample of ") (codes " samples of ") ++ (decimal sources ++ word_of sources (codes " source\n") (codes " sources\n")))

-- the table of the 10 functions with the greatest weights of their own, as `top` writes it
abbrev pub frame_table : List Sample → List ℕ
frame_table samples = top_table false nothing_told Own 10 samples

-- an empty line for each function that is missing: so each frame has 13 lines
abbrev pub blank_lines : List Sample → List ℕ
blank_lines samples = replicate (10 - length (functions_of Own samples)) 10

-- a frame, in the place of another if one stands there
abbrev pub frame_of : Bool → ℕ → ℕ → List Sample → List ℕ
frame_of has_frame at sources samples =
    (if has_frame then clear_frame else [])
    ++ (cut_lines ++ (plain_text 0 (frame_heading at sources ++ (frame_table samples ++ blank_lines samples)) ++ wrap_lines))

-- the last table, in the place of a frame if one stands there
abbrev pub table_of : Bool → List Sample → List ℕ
table_of has_frame samples = (if has_frame then clear_frame else []) ++ plain_text 0 (frame_table samples)

-- the frame of the first m pairs, where there is one for every so many
abbrev pub frame_at : ℕ → ℕ → List (ℕ × Sample) → ℕ → List ℕ
frame_at every sources pairs m = frame_of (nat_lt every m) m sources (first_samples pairs m)

-- the table of all pairs
abbrev pub last_table : ℕ → List (ℕ × Sample) → List ℕ
last_table every pairs = table_of (nat_le every (length pairs)) (samples_of_pairs pairs)

-- all frames, and then the table
abbrev pub frames_text : ℕ → ℕ → List (ℕ × Sample) → List ℕ
frames_text every sources pairs =
    flat_map (frame_at every sources pairs) (snapshot_places (Some every) (length pairs)) ++ last_table every pairs
