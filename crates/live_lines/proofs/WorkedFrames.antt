-- Worked examples of frames, computed on the definitions.
use Rattle.std.proofs.Common.{◌≡◌, ℕ, List, [], ◌∷◌, ◌++◌, codes, refl}
use Rattle.std.specs.Fmt.{digits}
use Rattle.sample_tables.specs.declared.samples.Sample.{Sample}
use Rattle.function_sums.specs.FunctionList.{functions_of}
use Rattle.function_sums.specs.Columns.{lines_text}
use Rattle.function_sums.specs.FunctionTable.{functions_table}
use Rattle.view_texts.specs.WeightTexts.{weight_text}
use Rattle.live_lines.specs.Frames.{clear_frame, cut_lines, frame_at, last_table, wrap_lines}
use Rattle.live_lines.specs.Terminal.{plain_text}

-- a sample of the first source, and then one of the second
abbrev pairs : List (ℕ × Sample)
pairs =
    (0, record { stack = codes "main" ∷ codes "read" ∷ []; weight = 7 }) ∷ (1, record { stack = codes "main" ∷ []; weight = 1 }) ∷ []

abbrev rows : List ℕ
rows =
    codes "Showing 2 of 2 functions, total 8\n"
    ++ (codes "own    own%     sum%  total   total%  name\n"
    ++ (codes "  7  87.50%   87.50%      7   87.50%  read\n"
    ++ codes "  1  12.50%  100.00%      8  100.00%  main\n"))

-- the frame of both takes the place of that of the first, and has 13 lines
second_frame : frame_at 1 2 pairs 2 ≡ clear_frame ++ (cut_lines ++ ((codes "2 samples of 2 sources\n" ++ (rows ++ codes "\n\n\n\n\n\n\n\n")) ++ wrap_lines))
unfolding functions_of functions_table lines_text weight_text digits
second_frame = refl

-- the first one takes no place
only_frame : frame_at 2 2 pairs 2 ≡ cut_lines ++ ((codes "2 samples of 2 sources\n" ++ (rows ++ codes "\n\n\n\n\n\n\n\n")) ++ wrap_lines)
unfolding functions_of functions_table lines_text weight_text digits
only_frame = refl

-- the table behind a frame, and behind none
last_of_two : last_table 2 pairs ≡ clear_frame ++ rows
unfolding functions_of functions_table lines_text weight_text digits
last_of_two = refl

last_of_none : last_table 3 pairs ≡ rows
unfolding functions_of functions_table lines_text weight_text digits
last_of_none = refl

-- an escape, a letter, a line feed, U+009B and é
marks : plain_text 0 (27 ∷ 97 ∷ 10 ∷ 194 ∷ 155 ∷ 195 ∷ 169 ∷ []) ≡ 63 ∷ 97 ∷ 10 ∷ 194 ∷ 191 ∷ 195 ∷ 169 ∷ []
marks = refl
