-- How many samples are left at some line, and their limits.
use Rattle.std.proofs.Common.{◌≡◌, ℕ, zero, suc, ◌+◌, ◌≤◌, Bool, true, false, cond, nat_lt, Option, Some, None, List, [], ◌∷◌, length, drop, length-drop, sum_by, All, refl, ap, arith}
use Rattle.std.specs.Str.Parse.{digits_value}
use Rattle.std.proofs.lemmas.Bool.{ltb-false}
use Rattle.std.proofs.lemmas.List.Elements.{All-nil, All-cons}
use Rattle.std.proofs.lemmas.List.Sums.{sum_by-cons}
use Rattle.bstr.specs.Text.{line_len, lines_of}
use Rattle.bstr.proofs.lemmas.LineLemmas.{line_len-bounds, lines-step, lines-nil}
use Rattle.sample_tables.specs.Samples.{IsLimited}
use Rattle.stack_core.specs.Reading.{IsSourceLimited}
use Rattle.sample_tables.specs.declared.samples.TheConstants.{FRAME_LIMIT, WEIGHT_LIMIT}
use Rattle.sample_tables.specs.declared.samples.Sample.{Sample as StackSample}
use Rattle.stack_core.specs.declared.endings.ReadKind.TheVariants.{DecimalWeight, TwoColumns, TooDeep, TotalTooLarge}
use Rattle.folded_lines.specs.Line.{Line}
use Rattle.folded_lines.specs.Line.{Ignored, Fault, Sample}
use Rattle.folded_lines.specs.Lines.{columns, has_point, ends_in_number, names_of, sample_of, read_columns, read_line}
use Rattle.folded_lines.specs.checked.Scanning.{within_total, scan, IsWithin}
use Rattle.folded_lines.proofs.ScanLemmas.{scan_line}

short_by : (taken ignored total : ℕ) (lines : List (List ℕ)) (read : Line) → ((n i t : ℕ) → length (scan n i t lines).samples ≤ length lines)
    → length (scan_line taken ignored total lines read).samples ≤ suc (length lines)
short_by taken ignored total lines Ignored rest = omega (arith, rest (taken + 1) (ignored + 1) total)
short_by taken ignored total lines (Fault kind) rest = omega arith
short_by taken ignored total lines (Sample sample) rest = omega (arith, rest (taken + 1) ignored (total + sample.weight))

-- no more samples than lines
pub scan-short : (lines : List (List ℕ)) (taken ignored total : ℕ) → length (scan taken ignored total lines).samples ≤ length lines
scan-short [] taken ignored total = omega arith
scan-short (line ∷ lines) taken ignored total = short_by taken ignored total lines (within_total total (read_line line)) (scan-short lines)

pub lines_short : (fuel : ℕ) (bytes : List ℕ) → length bytes ≤ fuel → length (lines_of bytes) ≤ length bytes
lines_short fuel [] le = omega (arith, ap length lines-nil)
lines_short zero (b ∷ bytes) le = absurd (omega arith)
lines_short (suc fuel) (b ∷ bytes) le =
    let all = b ∷ bytes in
    let bounds = line_len-bounds all (omega arith) in
    let long = length-drop (line_len all) all in
    omega (arith, ap length (lines-step all (omega arith)), lines_short fuel (drop (line_len all) all) (omega arith))

pub by_test : (P : Line → Type 0) (b : Bool) (x y : Line) → (b ≡ true → P x) → (b ≡ false → P y) → P (cond b x y)
by_test P true x y when other = when refl
by_test P false x y when other = other refl

sample_within : (total : ℕ) (head count : List ℕ) → IsWithin total (within_total total (sample_of head count))
sample_within total head count =
    let stack = names_of head in
    let weight = digits_value 10 count in
    by_test (λ l. IsWithin total (within_total total l)) (nat_lt FRAME_LIMIT (length stack)) (Fault TooDeep) (Sample (record { stack = stack; weight = weight }))
    (λ _. tt)
    (λ few. by_test (IsWithin total) (nat_lt WEIGHT_LIMIT (total + weight)) (Fault TotalTooLarge) (Sample (record { stack = stack; weight = weight }))
    (λ _. tt)
    (λ fits.
    let sum : total + weight ≤ WEIGHT_LIMIT = ltb-false WEIGHT_LIMIT (total + weight) fits in
    (record { depth = ltb-false FRAME_LIMIT (length stack) few; weight = omega arith }, sum)))

columns_within : (total : ℕ) (parts : Option (List ℕ × List ℕ)) → IsWithin total (within_total total (read_columns parts))
columns_within total None = tt
columns_within total (Some (head, count)) =
    let P : Line → Type 0 = λ l. IsWithin total (within_total total l) in
    by_test P _ Ignored _ (λ _. tt) (λ _.
    by_test P (has_point count) (Fault DecimalWeight) _ (λ _. tt) (λ _.
    by_test P (ends_in_number (columns head)) (Fault TwoColumns) (sample_of head count) (λ _. tt) (λ _. sample_within total head count)))

-- a sample that a line gives keeps the limits
pub IsWithin-line : (total : ℕ) (line : List ℕ) → IsWithin total (within_total total (read_line line))
IsWithin-line total line = columns_within total (columns line)

-- the samples keep the limits, also together with a weight before them
pub record AreLimitedAfter (total : ℕ) (samples : List StackSample) : Type 0 where
  pub each : All IsLimited samples
  pub sum : total + sum_by (λ sample. sample.weight) samples ≤ WEIGHT_LIMIT

limited_by : (taken ignored total : ℕ) (lines : List (List ℕ)) (read : Line) → total ≤ WEIGHT_LIMIT → IsWithin total read
    → ((n i t : ℕ) → t ≤ WEIGHT_LIMIT → AreLimitedAfter t (scan n i t lines).samples) → AreLimitedAfter total (scan_line taken ignored total lines read).samples
limited_by taken ignored total lines Ignored fits within rest = rest (taken + 1) (ignored + 1) total fits
limited_by taken ignored total lines (Fault kind) fits within rest = record { each = All-nil IsLimited; sum = omega arith }
limited_by taken ignored total lines (Sample sample) fits within rest =
    let later = rest (taken + 1) ignored (total + sample.weight) within.1 in
    record { each = All-cons IsLimited sample _ within.0 later.each; sum = omega (arith, later.sum, sum_by-cons (λ (s : StackSample). s.weight) sample (scan (taken + 1) ignored (total + sample.weight) lines).samples) }

scan-limited : (lines : List (List ℕ)) (taken ignored total : ℕ) → total ≤ WEIGHT_LIMIT → AreLimitedAfter total (scan taken ignored total lines).samples
scan-limited [] taken ignored total fits = record { each = All-nil IsLimited; sum = omega arith }
scan-limited (line ∷ lines) taken ignored total fits =
    limited_by taken ignored total lines (within_total total (read_line line)) fits (IsWithin-line total line) (scan-limited lines)

pub IsSourceLimited-scan : (lines : List (List ℕ)) → IsSourceLimited (scan 0 0 0 lines).samples
IsSourceLimited-scan lines =
    let all = scan-limited lines 0 0 0 (omega arith) in
    record { each = all.each; total = omega arith }
