-- A text of written lines reads back as the samples.
use Rattle.std.proofs.Common.{◌≡◌, ◌≢◌, ℕ, zero, suc, ◌+◌, ◌-◌, ◌^◌, ◌<◌, ◌≤◌, true, false, nat_lt, ◌==◌, List, [], ◌∷◌, ◌++◌, length, length-append, map, take, take_all, slice_index, sum_by, All, IsUtf8, refl, sym, ap, ◌∙◌, arith, append_assoc, inr, ⊎_elim}
use Rattle.std.specs.List.{list_all, join_with_byte}
use Rattle.std.specs.Char.{is_ascii_digit}
use Rattle.std.specs.Fmt.{decimal}
use Rattle.std.proofs.lemmas.Bool.{cases_Bool, cond-true, cond-false, and_parts, and_right, ne_eqb, eqb-true, eq-eqb, le-ltb, lt-ltb}
use Rattle.std.proofs.lemmas.Fmt.{IsAscii-decimal}
use Rattle.std.proofs.lemmas.List.{take-append-le, get_or_append_left}
use Rattle.std.proofs.lemmas.List.Elements.{All-head, All-tail, All-weaker, All-append, All-cons, All-nil, All-get_or}
use Rattle.std.proofs.lemmas.List.Sums.{sum_by-cons}
use Rattle.std.proofs.lemmas.Str.{IsUtf8-append, IsUtf8-nil, IsUtf8-from_ascii, lead_after_ascii}
use Rattle.bstr.specs.Text.{lines_of, no_cr, without_terminator}
use Rattle.bstr.proofs.lemmas.LineLemmas.{lines-append, lines-one, lines-nil}
use Rattle.sample_tables.specs.declared.samples.TheConstants.{WEIGHT_LIMIT}
use Rattle.sample_tables.specs.declared.samples.Sample.{Sample as StackSample}
use Rattle.stack_core.specs.declared.endings.SourceEnd.TheVariants as ends
use Rattle.folded_lines.specs.Line.{Sample}
use Rattle.folded_lines.specs.Lines.{text_lines, read_line}
use Rattle.folded_lines.specs.Reading.{begins_compressed, read_folded}
use Rattle.folded_lines.specs.ReadingBack.{text_of, IsPlainName, IsPlain}
use Rattle.folded_lines.specs.checked.Scanning.{within_total, followed_by, scan}
use Rattle.folded_lines.specs.Writing.{column_of, line_of}
use Rattle.folded_lines.proofs.BackLemmas.{body, read_line-body, last-append}
use Rattle.folded_lines.proofs.DecimalLemmas.{IsWritten-decimal}
use Rattle.folded_lines.proofs.NumberLemmas.{and_true, digit_at, range_of}
use Rattle.folded_lines.proofs.ReadLemmas.{read_after-all}
use Rattle.folded_lines.proofs.ScanLemmas.{scan_line}

take_whole : (bytes : List ℕ) → take (length bytes) bytes ≡ bytes
take_whole bytes = take_all (length bytes) bytes (omega arith)

-- one ASCII byte
one_ascii : (b : ℕ) → b < 128 → IsUtf8 (b ∷ [])
one_ascii b low = IsUtf8-from_ascii (b ∷ []) ascii
  where
    ascii : (i : ℕ) → slice_index (b ∷ []) i < 128
    ascii zero = low
    ascii (suc i) = omega arith

-- bytes that are no LF
abbrev pub HasNoFeed : List ℕ → Type 0
HasNoFeed bytes = All (λ b. b ≢ 10) bytes

digits_have_no_feed : (ds : List ℕ) → list_all is_ascii_digit ds ≡ true → HasNoFeed ds
digits_have_no_feed [] all = All-nil (λ b. b ≢ 10)
digits_have_no_feed (d ∷ ds) all =
    let parts = and_parts _ _ all in
    let range = range_of d parts.0 in
    All-cons (λ b. b ≢ 10) d ds (λ e. omega arith) (digits_have_no_feed ds parts.1)

names_have_no_feed : (stack : List (List ℕ)) → All IsPlainName stack → HasNoFeed (join_with_byte 59 stack)
names_have_no_feed [] names = All-nil (λ b. b ≢ 10)
names_have_no_feed (x ∷ []) names = All-weaker (λ b. (b ≢ 59) × (b ≢ 10)) (λ b. b ≢ 10) (λ b apart. apart.1) x (All-head IsPlainName x [] names).whole
names_have_no_feed (x ∷ y ∷ xs) names =
    All-append (λ b. b ≢ 10) x (59 ∷ join_with_byte 59 (y ∷ xs))
    (All-weaker (λ b. (b ≢ 59) × (b ≢ 10)) (λ b. b ≢ 10) (λ b apart. apart.1) x (All-head IsPlainName x (y ∷ xs) names).whole)
    (All-cons (λ b. b ≢ 10) 59 (join_with_byte 59 (y ∷ xs)) (λ e. omega arith) (names_have_no_feed (y ∷ xs) (All-tail IsPlainName x (y ∷ xs) names)))

body_has_no_feed : (sample : StackSample) → IsPlain sample → sample.weight < 2 ^ 64 → HasNoFeed (body sample)
body_has_no_feed sample plain fits =
    All-append (λ b. b ≢ 10) (join_with_byte 59 sample.stack) (column_of sample.weight) (names_have_no_feed sample.stack plain.names)
    (All-cons (λ b. b ≢ 10) 32 (decimal sample.weight) (λ e. omega arith) (digits_have_no_feed (decimal sample.weight) (IsWritten-decimal sample.weight fits).digits))

body-last : (sample : StackSample) → sample.weight < 2 ^ 64 → slice_index (body sample) (length (body sample) - 1) ≢ 13
body-last sample fits is =
    let count = decimal sample.weight in
    let written = IsWritten-decimal sample.weight fits in
    let place : length (32 ∷ count) - 1 ≡ suc (length count - 1) = omega (arith, written.some) in
    let last : slice_index (body sample) (length (body sample) - 1) ≡ slice_index count (length count - 1) =
    last-append (join_with_byte 59 sample.stack) 32 count ∙ ap (slice_index (32 ∷ count)) place in
    let range = range_of (slice_index count (length count - 1)) (digit_at count (length count - 1) written.digits (omega (arith, written.some))) in
    omega arith

-- a line with its LF
with_feed : (sample : StackSample) → line_of sample.stack sample.weight ≡ body sample ++ 10 ∷ []
with_feed sample = sym (append_assoc (join_with_byte 59 sample.stack) (column_of sample.weight) (10 ∷ []))

no_cr-same : (bytes : List ℕ) → slice_index bytes (length bytes - 1) ≢ 13 → no_cr bytes ≡ bytes
no_cr-same bytes other = cond-false _ _ _ (and_right (nat_lt 0 (length bytes)) _ (ne_eqb _ 13 other))

feed_last : (bytes : List ℕ) → slice_index (bytes ++ 10 ∷ []) (length (bytes ++ 10 ∷ []) - 1) ≡ 10
feed_last bytes = last-append bytes 10 []

without_terminator-fed : (bytes : List ℕ) → slice_index bytes (length bytes - 1) ≢ 13 → without_terminator (bytes ++ 10 ∷ []) ≡ bytes
without_terminator-fed bytes other =
    let line = bytes ++ 10 ∷ [] in
    let long : length line ≡ length bytes + 1 = length-append bytes (10 ∷ []) in
    let ends = and_true (nat_lt 0 (length line)) (slice_index line (length line - 1) == 10) (lt-ltb 0 (length line) (omega arith)) (eq-eqb _ 10 (feed_last bytes)) in
    let short : length line - 1 ≡ length bytes = omega arith in
    cond-true _ _ _ ends ∙ ap (λ n. no_cr (take n line)) short ∙ ap no_cr (take-append-le (length bytes) bytes (10 ∷ []) (omega arith) ∙ take_whole bytes) ∙ no_cr-same bytes other

lines_of-fed : (bytes rest : List ℕ) → HasNoFeed bytes → lines_of ((bytes ++ 10 ∷ []) ++ rest) ≡ (bytes ++ 10 ∷ []) ∷ lines_of rest
lines_of-fed bytes rest none =
    let line = bytes ++ 10 ∷ [] in
    let long : length line ≡ length bytes + 1 = length-append bytes (10 ∷ []) in
    lines-append (length line) line rest (omega arith) (inr (feed_last bytes))
    ∙ ap (λ t. t ++ lines_of rest) (lines-one line (omega arith) (λ k within is.
    let inside : k < length bytes = omega arith in
    All-get_or (λ b. b ≢ 10) bytes k 0 inside none (sym (get_or_append_left bytes (10 ∷ []) 0 k inside) ∙ is)))

text_lines-back : (samples : List StackSample) → All IsPlain samples → sum_by (λ s. s.weight) samples ≤ WEIGHT_LIMIT → text_lines (text_of samples) ≡ map body samples
text_lines-back [] plain fits = ap (map without_terminator) lines-nil
text_lines-back (s ∷ samples) plain fits =
    let sum = sum_by-cons (λ (x : StackSample). x.weight) s samples in
    let here = All-head IsPlain s samples plain in
    ap (λ t. text_lines (t ++ text_of samples)) (with_feed s)
    ∙ ap (map without_terminator) (lines_of-fed (body s) (text_of samples) (body_has_no_feed s here (omega arith)))
    ∙ ap (λ t. t ∷ text_lines (text_of samples)) (without_terminator-fed (body s) (body-last s (omega arith)))
    ∙ ap (λ t. body s ∷ t) (text_lines-back samples (All-tail IsPlain s samples plain) (omega arith))

scan-back : (samples : List StackSample) (taken total : ℕ) → All IsPlain samples → total + sum_by (λ s. s.weight) samples ≤ WEIGHT_LIMIT
    → scan taken 0 total (map body samples) ≡ record { samples = samples; ending = ends.Clean 0 }
scan-back [] taken total plain fits = refl
scan-back (s ∷ samples) taken total plain fits =
    let sum = sum_by-cons (λ (x : StackSample). x.weight) s samples in
    let here = All-head IsPlain s samples plain in
    let read : within_total total (read_line (body s)) ≡ Sample s =
    ap (within_total total) (read_line-body s here (omega arith)) ∙ cond-false _ _ _ (le-ltb WEIGHT_LIMIT (total + s.weight) (omega arith)) in
    ap (scan_line taken 0 total (map body samples)) read
    ∙ ap (followed_by s) (scan-back samples (taken + 1) (total + s.weight) (All-tail IsPlain s samples plain) (omega arith))

IsUtf8-join : (stack : List (List ℕ)) → All IsPlainName stack → IsUtf8 (join_with_byte 59 stack)
IsUtf8-join [] names = IsUtf8-nil
IsUtf8-join (x ∷ []) names = (All-head IsPlainName x [] names).text
IsUtf8-join (x ∷ y ∷ xs) names =
    IsUtf8-append x (59 ∷ join_with_byte 59 (y ∷ xs)) (All-head IsPlainName x (y ∷ xs) names).text
    (IsUtf8-append (59 ∷ []) (join_with_byte 59 (y ∷ xs)) (one_ascii 59 (omega arith)) (IsUtf8-join (y ∷ xs) (All-tail IsPlainName x (y ∷ xs) names)))

IsUtf8-line : (s : StackSample) → IsPlain s → s.weight < 2 ^ 64 → IsUtf8 (line_of s.stack s.weight)
IsUtf8-line s plain fits =
    IsUtf8-append (join_with_byte 59 s.stack) (column_of s.weight ++ 10 ∷ []) (IsUtf8-join s.stack plain.names)
    (IsUtf8-append (column_of s.weight) (10 ∷ [])
    (IsUtf8-append (32 ∷ []) (decimal s.weight) (one_ascii 32 (omega arith)) (IsUtf8-from_ascii (decimal s.weight) (IsAscii-decimal s.weight fits)))
    (one_ascii 10 (omega arith)))

IsUtf8-text : (samples : List StackSample) → All IsPlain samples → sum_by (λ s. s.weight) samples ≤ WEIGHT_LIMIT → IsUtf8 (text_of samples)
IsUtf8-text [] plain fits = IsUtf8-nil
IsUtf8-text (s ∷ samples) plain fits =
    let sum = sum_by-cons (λ (x : StackSample). x.weight) s samples in
    IsUtf8-append (line_of s.stack s.weight) (text_of samples) (IsUtf8-line s (All-head IsPlain s samples plain) (omega arith))
    (IsUtf8-text samples (All-tail IsPlain s samples plain) (omega arith))

second_byte : (bytes : List ℕ) → IsUtf8 bytes → slice_index bytes 0 ≡ 0x1f → slice_index bytes 1 ≡ 0x8b → ⊥
second_byte [] text first second = omega arith
second_byte (b ∷ []) text first second = omega arith
second_byte (b ∷ c ∷ bytes) text first second =
    let lead : 192 ≤ c = lead_after_ascii (b ∷ c ∷ bytes) 0 text (omega arith) (omega arith) (omega arith) in
    omega arith

-- text does not begin as gzip does
not_compressed : (bytes : List ℕ) → IsUtf8 bytes → begins_compressed bytes ≡ false
not_compressed bytes text = ⊎_elim
    (λ is. let parts = and_parts _ _ is in absurd (second_byte bytes text (eqb-true _ 0x1f parts.0) (eqb-true _ 0x8b parts.1)))
    (λ other. other)
    (cases_Bool (begins_compressed bytes))

pub read_folded-text_of : (samples : List StackSample) → All IsPlain samples → sum_by (λ s. s.weight) samples ≤ WEIGHT_LIMIT
    → read_folded (text_of samples) ≡ record { samples = samples; ending = ends.Clean 0 }
read_folded-text_of samples plain fits =
    cond-false _ _ _ (not_compressed (text_of samples) (IsUtf8-text samples plain fits))
    ∙ read_after-all (text_lines (text_of samples)) ∙ ap (scan 0 0 0) (text_lines-back samples plain fits) ∙ scan-back samples 0 0 plain (omega arith)
