-- Worked examples, computed on the definitions.
use Rattle.std.proofs.Common.{◌≡◌, ℕ, List, [], ◌∷◌, ◌++◌, true, false, None, Some, codes, refl}
use Rattle.std.specs.Prelude.{encode_utf8_all}
use lib.Utf8.{encode}
use Rattle.std.specs.Fmt.{digits}
use Rattle.json.specs.Print.{escape_byte}
use Rattle.sample_tables.specs.declared.samples.Sample.{Sample}
use Rattle.function_sums.specs.Calls.{calls_of}
use Rattle.function_sums.specs.declared.call_sides.CallSide.TheVariants.{Callers, Callees}
use Rattle.function_sums.specs.declared.changes.Change.{Change}
use Rattle.function_sums.specs.declared.changes.FunctionChange.{FunctionChange}
use Rattle.function_sums.specs.declared.sums.FunctionSum.{FunctionSum}
use Rattle.view_texts.specs.Quotients.{decimals, quotient_text}
use Rattle.view_texts.specs.WeightTexts.{weight_text}
use Rattle.function_sums.specs.CallTexts.{calls_table}
use Rattle.function_sums.specs.ChangeJson.{changes_line}
use Rattle.function_sums.specs.ChangeTable.{changes_table, shares_table, signed}
use Rattle.function_sums.specs.GrownLine.{grown_line}
use Rattle.function_sums.specs.Columns.{characters, lines_text}
use Rattle.function_sums.specs.FunctionJson.{functions_line}
use Rattle.function_sums.specs.FunctionTable.{functions_table, listed_table}
use Rattle.function_sums.specs.Told.{Told, nothing_told}

abbrev sum : List ℕ → ℕ → ℕ → FunctionSum
sum name own total = record { name = name; own = own; total = total }

abbrev two : List FunctionSum
two = sum (codes "read") 7 7 ∷ sum (codes "main") 1 8 ∷ []

-- 8 of 32 milliseconds are kept by a filter
abbrev kept : Told
kept = record { whole = Some 32; type_name = codes "cpu"; unit = codes "milliseconds" }

table : functions_table false nothing_told 2 8 two
    ≡ codes "Showing 2 of 2 functions, total 8\n"
    ++ (codes "own    own%     sum%  total   total%  name\n"
    ++ (codes "  7  87.50%   87.50%      7   87.50%  read\n"
    ++ codes "  1  12.50%  100.00%      8  100.00%  main\n"))
unfolding functions_table lines_text weight_text digits
table = refl

empty_table : functions_table false nothing_told 0 0 []
    ≡ codes "Showing 0 of 0 functions, total 0\n"
    ++ codes "own  own%  sum%  total  total%  name\n"
unfolding functions_table lines_text weight_text digits
empty_table = refl

kept_table : functions_table false kept 5 8 two
    ≡ codes "Showing 2 of 5 functions, type cpu, total 8 ms\n"
    ++ (codes " own    own%     sum%  total   total%  whole%  name\n"
    ++ (codes "7 ms  87.50%   87.50%   7 ms   87.50%  21.88%  read\n"
    ++ codes "1 ms  12.50%  100.00%   8 ms  100.00%  25.00%  main\n"))
unfolding functions_table lines_text weight_text quotient_text decimals digits
kept_table = refl

exact_table : functions_table true kept 5 8 (sum (codes "read") 7 7 ∷ [])
    ≡ codes "Showing 1 of 5 functions, type cpu, unit milliseconds, total 8\n"
    ++ (codes "own    own%    sum%  total  total%  whole%  name\n"
    ++ codes "  7  87.50%  87.50%      7  87.50%  21.88%  read\n")
unfolding functions_table lines_text digits
exact_table = refl

-- of nothing each is nothing
kept_of_nothing : functions_table true (record nothing_told { whole = Some 0 }) 1 0 (sum (codes "a") 0 0 ∷ [])
    ≡ codes "Showing 1 of 1 functions, total 0\n"
    ++ (codes "own   own%   sum%  total  total%  whole%  name\n"
    ++ codes "  0  0.00%  0.00%      0   0.00%   0.00%  a\n")
unfolding functions_table lines_text digits
kept_of_nothing = refl

-- the sign of a microsecond is one character of two bytes
two_characters : characters (encode_utf8_all (codes "µs")) ≡ 2
unfolding encode
two_characters = refl

line : functions_line None nothing_told 8 two
    ≡ codes "{\"functions\":[{\"name\":\"read\",\"own\":7,\"total\":7},{\"name\":\"main\",\"own\":1,\"total\":8}],\"total\":8,\"unit\":\"\",\"view\":\"top\"}\n"
unfolding functions_line escape_byte digits
line = refl

kept_line : functions_line None kept 8 (sum (codes "main") 1 8 ∷ [])
    ≡ codes "{\"functions\":[{\"name\":\"main\",\"own\":1,\"total\":8}],\"total\":8,\"unit\":\"milliseconds\",\"view\":\"top\",\"whole\":32}\n"
unfolding functions_line escape_byte digits
kept_line = refl

-- the callers of a function, behind it
callers_line : functions_line (Some Callers) nothing_told 8 (sum (codes "read") 7 8 ∷ sum (codes "main") 1 5 ∷ [])
    ≡ codes "{\"functions\":[{\"name\":\"read\",\"own\":7,\"total\":8},{\"name\":\"main\",\"own\":1,\"total\":5}],\"total\":8,\"unit\":\"\",\"view\":\"callers\"}\n"
unfolding functions_line escape_byte digits
callers_line = refl

-- the table of callees has the function first, and parts of its total
abbrev samples : List Sample
samples =
    record { stack = codes "main" ∷ codes "read" ∷ codes "copy" ∷ []; weight = 3 } ∷
    record { stack = codes "main" ∷ codes "read" ∷ []; weight = 5 } ∷
    record { stack = codes "main" ∷ []; weight = 9 } ∷ []

callees_table : calls_table true nothing_told Callees (codes "read") 10 samples
    ≡ codes "Showing 1 of 1 callees of read, total 8\n"
    ++ (codes "own    own%  total   total%  name\n"
    ++ (codes "  5  62.50%      8  100.00%  read\n"
    ++ codes "  3  37.50%      3   37.50%  copy\n"))
unfolding calls_of listed_table lines_text digits
callees_table = refl

callers_of_nobody : calls_table true nothing_told Callers (codes "nobody") 10 samples
    ≡ codes "Showing 0 of 0 callers of nobody, total 0\n"
    ++ (codes "own   own%  total  total%  name\n"
    ++ codes "  0  0.00%      0   0.00%  nobody\n")
unfolding calls_of listed_table lines_text digits
callers_of_nobody = refl

-- ---- changes

abbrev from : ℕ → ℕ → Change
from before after = record { before = before; after = after }

abbrev change : List ℕ → Change → Change → FunctionChange
change name own total = record { name = name; own = own; total = total }

signs : (signed true [] (from 8 20) ≡ codes "+12")
    × (signed false (codes "seconds") (from 4 1) ≡ codes "-3 s")
    × (signed true [] (from 7 7) ≡ codes "0")
unfolding digits weight_text quotient_text decimals
signs = (refl, refl, refl)

table_of_changes : changes_table true nothing_told 3 6 12345679 (change (codes "read") (from 4 12345678) (from 4 7) ∷ change (codes "main") (from 2 1) (from 6 6) ∷ [])
    ≡ codes "Showing 2 of 3 functions, total 6 before, 12345679 after\n"
    ++ (codes "own before     after     change  total before  after  change  name\n"
    ++ (codes "         4  12345678  +12345674             4      7      +3  read\n"
    ++ codes "         2         1         -1             6      6       0  main\n"))
unfolding changes_table lines_text digits
table_of_changes = refl

no_changes : changes_table true nothing_told 0 0 0 []
    ≡ codes "Showing 0 of 0 functions, total 0 before, 0 after\n"
    ++ codes "own before  after  change  total before  after  change  name\n"
unfolding changes_table lines_text digits
no_changes = refl

line_of_changes : changes_line (codes "bytes") 9 11 (change (codes "read") (from 4 7) (from 5 8) ∷ [])
    ≡ codes "{\"functions\":[{\"name\":\"read\",\"own_after\":7,\"own_before\":4,\"total_after\":8,\"total_before\":5}],\"total_after\":11,\"total_before\":9,\"unit\":\"bytes\",\"view\":\"diff\"}\n"
unfolding changes_line escape_byte digits
line_of_changes = refl

-- 60 of a hundred are 10 of a hundred after, and one of three thirds is none; shares of different wholes
table_of_shares : shares_table true nothing_told 3 (from 10 100) (change (codes "f") (from 6 10) (from 6 10) ∷ change (codes "g") (from 4 45) (from 10 100) ∷ [])
    ≡ codes "Showing 2 of 3 functions, total 10 before, 100 after\n"
    ++ (codes "own before   after   points  total before    after   points  name\n"
    ++ (codes "    60.00%  10.00%  -50.00%        60.00%   10.00%  -50.00%  f\n"
    ++ codes "    40.00%  45.00%   +5.00%       100.00%  100.00%    0.00%  g\n"))
unfolding shares_table lines_text digits
table_of_shares = refl

grown_names : grown_line 5 (codes "f" ∷ codes "g h" ∷ []) ≡ codes "flamecollect: grew by more than 5 %: f, g h\n"
unfolding digits
grown_names = refl

none_grown : grown_line 5 [] ≡ []
none_grown = refl
