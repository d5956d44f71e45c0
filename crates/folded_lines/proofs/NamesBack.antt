-- Which samples of a text read back.
use Rattle.std.proofs.Common.{◌≡◌, ◌≢◌, ℕ, suc, zero, ◌+◌, ◌-◌, ◌<◌, ◌≤◌, ◌==◌, ◌&&◌, nat_lt, true, false, Bool, cond, Option, Some, None, List, [], ◌∷◌, length, map, take, drop, get_or-take, length-take-le, length-drop, slice_index, All, refl, sym, ap, subst, ◌∙◌, arith, ⊎_elim}
use Rattle.std.specs.Option.{option_map}
use Rattle.std.specs.Str.Parse.{digits_value}
use Rattle.std.proofs.lemmas.Bool.{cases_Bool, cond-true, cond-false, lt-ltb, ltb-false, eq-eqb, eqb-false, false≢true}
use Rattle.std.proofs.lemmas.List.{take-take}
use Rattle.std.proofs.lemmas.List.Elements.{All-nil, All-cons, All-head, All-tail, All-take, All-more, All-weaker}
use Rattle.bstr.specs.Text.{line_len, no_cr, without_terminator}
use Rattle.bstr.proofs.lemmas.LineLemmas.{line_len-bounds, lines-nil}
use Rattle.stack_core.specs.Reading.{Rest}
use Rattle.sample_tables.specs.declared.samples.TheConstants.{FRAME_LIMIT, WEIGHT_LIMIT}
use Rattle.sample_tables.specs.declared.samples.Sample.{Sample as StackSample}
use Rattle.stack_core.specs.declared.endings.ReadKind.TheVariants.{Compressed, DecimalWeight, TwoColumns, TooDeep, TotalTooLarge}
use Rattle.folded_lines.specs.Line.{Line}
use Rattle.folded_lines.specs.Line.{Ignored, Fault, Sample}
use Rattle.folded_lines.specs.LastNames.{last_ends_in_number, ends_in_semicolon, is_open}
use Rattle.folded_lines.specs.Lines.{text_lines, last_blank, columns, has_point, ends_in_number, names_of, sample_of, read_columns, read_line}
use Rattle.folded_lines.specs.Reading.{cut_short, read_after, begins_compressed, read_folded}
use Rattle.folded_lines.specs.ReadingBack.{IsPlain}
use Rattle.folded_lines.specs.checked.Scanning.{within_total, scan}
use Rattle.folded_lines.proofs.LimitLemmas.{by_test}
use Rattle.folded_lines.proofs.NameLemmas.{names_are_plain, names_end_some, ends_plainly, names_end_plainly}
use Rattle.folded_lines.proofs.ReadLemmas.{read_after-all}
use Rattle.folded_lines.proofs.NumberLemmas.{and_true}
use Rattle.folded_lines.proofs.ScanLemmas.{scan_line, text_lines-step}
use Rattle.folded_lines.proofs.TextLemmas.{HasNoFeed}

-- ---- no line has an LF in it

before_feed : (bytes : List ℕ) → HasNoFeed (take (line_len bytes - 1) bytes)
unfolding line_len
before_feed [] = All-nil (λ b. b ≢ 10)
before_feed (b ∷ []) = by (b == 10)
  where
    by : (t : Bool) → HasNoFeed (take (cond t 1 1 - 1) (b ∷ []))
    by true = All-nil (λ c. c ≢ 10)
    by false = All-nil (λ c. c ≢ 10)
before_feed (b ∷ c ∷ bytes) = by (b == 10) refl (before_feed (c ∷ bytes))
  where
    by : (t : Bool) → (b == 10) ≡ t → HasNoFeed (take (line_len (c ∷ bytes) - 1) (c ∷ bytes)) → HasNoFeed (take (cond t 1 (suc (line_len (c ∷ bytes))) - 1) (b ∷ c ∷ bytes))
    by true is later = All-nil (λ x. x ≢ 10)
    by false is later =
        let more : suc (line_len (c ∷ bytes)) - 1 ≡ suc (line_len (c ∷ bytes) - 1) = omega (arith, (line_len-bounds (c ∷ bytes) (omega arith)).0) in
        subst (λ n. HasNoFeed (take n (b ∷ c ∷ bytes))) (sym more) (All-cons (λ x. x ≢ 10) b (take (line_len (c ∷ bytes) - 1) (c ∷ bytes)) (eqb-false b 10 is) later)

no_cr-clean : (bytes : List ℕ) → HasNoFeed bytes → HasNoFeed (no_cr bytes)
no_cr-clean bytes none = by (nat_lt 0 (length bytes) && slice_index bytes (length bytes - 1) == 13)
  where
    by : (t : Bool) → HasNoFeed (cond t (take (length bytes - 1) bytes) bytes)
    by true = All-take (λ b. b ≢ 10) (length bytes - 1) bytes none
    by false = none

line_clean : (bytes : List ℕ) → 0 < length bytes → HasNoFeed (without_terminator (take (line_len bytes) bytes))
line_clean bytes some =
    let line = take (line_len bytes) bytes in
    let bounds = line_len-bounds bytes some in
    let long : length line ≡ line_len bytes = length-take-le (line_len bytes) bytes bounds.1 in
    let last : length line - 1 ≡ line_len bytes - 1 = ap (λ n. n - 1) long in
    let front : take (length line - 1) line ≡ take (line_len bytes - 1) bytes = ap (λ k. take k line) last ∙ take-take (line_len bytes - 1) (line_len bytes) bytes (omega arith) in
    let more : line_len bytes - 1 + 1 ≡ line_len bytes = omega arith in
    ⊎_elim
    (λ fed. subst HasNoFeed (sym (cond-true _ _ _ fed ∙ ap no_cr front)) (no_cr-clean (take (line_len bytes - 1) bytes) (before_feed bytes)))
    (λ open_end.
    let other : slice_index bytes (line_len bytes - 1) ≢ 10 =
    λ is. false≢true (sym open_end ∙ and_true _ _ (lt-ltb 0 (length line) (omega arith)) (eq-eqb _ 10 (ap (slice_index line) last ∙ get_or-take (line_len bytes) bytes (line_len bytes - 1) 0 (omega arith) ∙ is))) in
    subst HasNoFeed (sym (cond-false _ _ _ open_end ∙ ap (λ n. take n bytes) (sym more)))
    (All-more (λ b. b ≢ 10) bytes (line_len bytes - 1) 0 (omega arith) (before_feed bytes) other))
    (cases_Bool (nat_lt 0 (length line) && slice_index line (length line - 1) == 10))

clean_within : (fuel : ℕ) (bytes : List ℕ) → length bytes ≤ fuel → All HasNoFeed (text_lines bytes)
clean_within fuel [] le = subst (λ lines. All HasNoFeed (map without_terminator lines)) (sym lines-nil) (All-nil HasNoFeed)
clean_within zero (b ∷ bytes) le = absurd (omega arith)
clean_within (suc fuel) (b ∷ bytes) le =
    let whole = b ∷ bytes in
    let some : 0 < length whole = omega arith in
    let bounds = line_len-bounds whole some in
    let rest = drop (line_len whole) whole in
    subst (All HasNoFeed) (sym (text_lines-step whole some))
    (All-cons HasNoFeed (without_terminator (take (line_len whole) whole)) (text_lines rest) (line_clean whole some)
    (clean_within fuel rest (omega (arith, length-drop (line_len whole) whole))))

lines_clean : (bytes : List ℕ) → All HasNoFeed (text_lines bytes)
lines_clean bytes = clean_within (length bytes) bytes (omega arith)

-- ---- what holds of each line's sample holds of a text's

abbrev OfSample : (StackSample → Type 0) → Line → Type 0
OfSample P Ignored = Unit {0}
OfSample P (Fault kind) = Unit {0}
OfSample P (Sample sample) = P sample

within_all : (P : StackSample → Type 0) (total : ℕ) (line : Line) → OfSample P line → OfSample P (within_total total line)
within_all P total Ignored here = tt
within_all P total (Fault kind) here = tt
within_all P total (Sample sample) here =
    by_test (OfSample P) (nat_lt WEIGHT_LIMIT (total + sample.weight)) (Fault TotalTooLarge) (Sample sample) (λ _. tt) (λ _. here)

line_all : (P : StackSample → Type 0) (taken ignored total : ℕ) (lines : List (List ℕ)) (read : Line) → OfSample P read
    → ((n i t : ℕ) → All P (scan n i t lines).samples) → All P (scan_line taken ignored total lines read).samples
line_all P taken ignored total lines Ignored here rest = rest (taken + 1) (ignored + 1) total
line_all P taken ignored total lines (Fault kind) here rest = All-nil P
line_all P taken ignored total lines (Sample sample) here rest =
    All-cons P sample (scan (taken + 1) ignored (total + sample.weight) lines).samples here (rest (taken + 1) ignored (total + sample.weight))

scan_all : (P : StackSample → Type 0) (lines : List (List ℕ)) (taken ignored total : ℕ) → All (λ line. OfSample P (read_line line)) lines
    → All P (scan taken ignored total lines).samples
scan_all P [] taken ignored total all = All-nil P
scan_all P (line ∷ lines) taken ignored total all =
    line_all P taken ignored total lines (within_total total (read_line line))
    (within_all P total (read_line line) (All-head (λ l. OfSample P (read_line l)) line lines all))
    (λ n i t. scan_all P lines n i t (All-tail (λ l. OfSample P (read_line l)) line lines all))

read_all : (P : StackSample → Type 0) (bytes : List ℕ) → All (λ line. OfSample P (read_line line)) (text_lines bytes) → All P (read_folded bytes).samples
read_all P bytes all = by (begins_compressed bytes)
  where
    by : (t : Bool) → All P (cond t (cut_short [] Compressed) (read_after [] (map read_line (text_lines bytes)))).samples
    by true = All-nil P
    by false = subst (λ (r : Rest). All P r.samples) (sym (read_after-all (text_lines bytes))) (scan_all P (text_lines bytes) 0 0 0 all)

-- ---- the sample of a line

-- the sample reads back, unless its last name ends in a number
abbrev IsNearlyPlain : StackSample → Type 0
IsNearlyPlain sample = last_ends_in_number sample.stack ≡ false → IsPlain sample

nearly_plain : (head count : List ℕ) → HasNoFeed head → length (names_of head) ≤ FRAME_LIMIT → IsNearlyPlain (record { stack = names_of head; weight = digits_value 10 count })
nearly_plain head count none few other =
    record { names = names_are_plain head none; last = ends_plainly (names_of head) (names_end_some head) other; depth = few }

abbrev open_end : Option (List ℕ × List ℕ) → Bool
open_end parts = elim parts [ None ↦ false | Some p ↦ ends_in_semicolon p.0 ]

-- P holds of the sample that a line gives, where P holds of each that passes the tests
columns_all : (P : StackSample → Type 0) (head count : List ℕ) → (ends_in_number (columns head) ≡ false → length (names_of head) ≤ FRAME_LIMIT → P (record { stack = names_of head; weight = digits_value 10 count }))
    → OfSample P (read_columns (Some (head, count)))
columns_all P head count holds =
    let Q : Line → Type 0 = OfSample P in
    by_test Q _ Ignored _ (λ _. tt) (λ _.
    by_test Q (has_point count) (Fault DecimalWeight) _ (λ _. tt) (λ _.
    by_test Q (ends_in_number (columns head)) (Fault TwoColumns) (sample_of head count) (λ _. tt) (λ other.
    by_test Q (nat_lt FRAME_LIMIT (length (names_of head))) (Fault TooDeep) _ (λ _. tt) (λ few. holds other (ltb-false FRAME_LIMIT (length (names_of head)) few)))))

line_plain : (line : List ℕ) → HasNoFeed line → OfSample IsNearlyPlain (read_line line)
line_plain line none = by (last_blank line)
  where
    by : (o : Option ℕ) → OfSample IsNearlyPlain (read_columns (option_map (λ k. (take k line, drop (k + 1) line)) o))
    by None = tt
    by (Some k) = columns_all IsNearlyPlain (take k line) (drop (k + 1) line) (λ other few. nearly_plain (take k line) (drop (k + 1) line) (All-take (λ b. b ≢ 10) k line none) few)

line_closed : (line : List ℕ) → HasNoFeed line → is_open line ≡ false → OfSample IsPlain (read_line line)
line_closed line none closed = by (last_blank line) closed
  where
    by : (o : Option ℕ) → open_end (option_map (λ k. (take k line, drop (k + 1) line)) o) ≡ false → OfSample IsPlain (read_columns (option_map (λ k. (take k line, drop (k + 1) line)) o))
    by None closed = tt
    by (Some k) closed =
        let head = take k line in
        columns_all IsPlain head (drop (k + 1) line) (λ other few.
        nearly_plain head (drop (k + 1) line) (All-take (λ b. b ≢ 10) k line none) few (names_end_plainly head closed other))

pub samples_plain : (bytes : List ℕ) → All (λ sample. last_ends_in_number sample.stack ≡ false → IsPlain sample) (read_folded bytes).samples
samples_plain bytes =
    read_all IsNearlyPlain bytes (All-weaker HasNoFeed (λ line. OfSample IsNearlyPlain (read_line line)) line_plain (text_lines bytes) (lines_clean bytes))

all_closed : (lines : List (List ℕ)) → All HasNoFeed lines → All (λ line. is_open line ≡ false) lines → All (λ line. OfSample IsPlain (read_line line)) lines
all_closed [] clean closed = All-nil (λ line. OfSample IsPlain (read_line line))
all_closed (line ∷ lines) clean closed =
    All-cons (λ l. OfSample IsPlain (read_line l)) line lines
    (line_closed line (All-head HasNoFeed line lines clean) (All-head (λ l. is_open l ≡ false) line lines closed))
    (all_closed lines (All-tail HasNoFeed line lines clean) (All-tail (λ l. is_open l ≡ false) line lines closed))

pub closed_plain : (bytes : List ℕ) → All (λ line. is_open line ≡ false) (text_lines bytes) → All IsPlain (read_folded bytes).samples
closed_plain bytes closed = read_all IsPlain bytes (all_closed (text_lines bytes) (lines_clean bytes) closed)
