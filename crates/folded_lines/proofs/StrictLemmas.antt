-- The first fault of a text that is read strictly, by its first line that is ignored and by the ending to which it reads.
use Rattle.std.proofs.Common.{◌≡◌, ◌≢◌, ℕ, ◌+◌, ◌<◌, ◌≤◌, nat_lt, true, false, Bool, cond, Option, Some, None, List, [], ◌∷◌, ◌++◌, length, map, count_by, All, refl, sym, ap, ◌∙◌, arith, length-append}
use Rattle.std.specs.Prelude.{option_map, unwrap_or}
use Rattle.std.proofs.lemmas.Bool.{cond-false, cond-true, eqb-true, false≢true, le-ltb, lt-ltb, true≢false}
use Rattle.std.proofs.lemmas.List.Elements.{All-head, All-tail}
use Rattle.std.proofs.lemmas.List.Sums.{sum_by-cons}
use Rattle.bstr.specs.Text.{without_terminator}
use Rattle.bstr.proofs.lemmas.LineLemmas.{lines-nil}
use Rattle.sample_tables.specs.declared.samples.TheConstants.{WEIGHT_LIMIT}
use Rattle.sample_tables.specs.declared.samples.Sample.{Sample as StackSample}
use Rattle.stack_core.specs.Parts.{ignored_of}
use Rattle.stack_core.specs.Reading.{Rest}
use Rattle.stack_core.specs.declared.endings.ReadFault.{ReadFault}
use Rattle.stack_core.specs.declared.endings.ReadKind.{ReadKind}
use Rattle.stack_core.specs.declared.endings.ReadKind.TheVariants.{Compressed, TotalTooLarge}
use Rattle.stack_core.specs.declared.endings.SourceEnd.{SourceEnd}
use Rattle.stack_core.specs.declared.endings.SourceEnd.TheVariants as ends
use Rattle.folded_lines.specs.Line.{Line}
use Rattle.folded_lines.specs.Line.{Ignored, Fault, Sample}
use Rattle.folded_lines.specs.Lines.{text_lines, read_line}
use Rattle.folded_lines.specs.Reading.{samples_of, is_ignored, total_weight, fault_after, whole, cut_short, read_after, begins_compressed, read_folded}
use Rattle.folded_lines.specs.StrictReading.{fault_of_ending, fault_without, strict_at, strict_fault, strict_fault_after, strict_kind_after}
use Rattle.folded_lines.specs.declared.strictness.StrictFault.{StrictFault}
use Rattle.folded_lines.specs.declared.strictness.StrictKind.{StrictKind}
use Rattle.folded_lines.specs.declared.strictness.StrictKind.TheVariants.{NoCount, Read}
use Rattle.folded_lines.specs.checked.Strictness.{earlier, fault_of_counted, first_ignored, is_counted, lines_in, or_without}
use Rattle.folded_lines.proofs.PartReading.{IsFine, fine_from, fine_text}
use Rattle.folded_lines.proofs.ReadLemmas.{after_fault}
use Rattle.folded_lines.proofs.ScanLemmas.{text_lines-step}
use Rattle.folded_lines.proofs.UnstoppedLemmas.{unstopped-read_folded}

-- ---- places

-- a line that is ignored stands behind those before it
first_above : (lines : List Line) (before number : ℕ) → first_ignored before lines ≡ Some number → before < number
first_above [] before number is = cc
first_above (Ignored ∷ lines) before number is = omega (arith, ap (λ found. unwrap_or found 0) is)
first_above (Fault kind ∷ lines) before number is = omega (arith, first_above lines (before + 1) number is)
first_above (Sample sample ∷ lines) before number is = omega (arith, first_above lines (before + 1) number is)

abbrev place_of : SourceEnd → ℕ
place_of (ends.Clean ignored) = 0
place_of (ends.Fault fault) = fault.at
place_of (ends.Stopped after) = 0

-- so does one with a fault
fault_line_above : (before : List Line) (line : Line) (lines : List Line) (fault : ReadFault) → ((is : (read_after (before ++ line ∷ []) lines).ending ≡ ends.Fault fault) → length (before ++ line ∷ []) < fault.at)
    → (found : Option ReadKind) → (after_fault before line lines found).ending ≡ ends.Fault fault → length before < fault.at
fault_line_above before line lines fault more None is = omega (arith, more is, length-append before (line ∷ []))
fault_line_above before line lines fault more (Some kind) is = omega (arith, ap place_of is)

fault_above : (lines before : List Line) (fault : ReadFault) → (read_after before lines).ending ≡ ends.Fault fault → length before < fault.at
fault_above [] before fault is = cc
fault_above (line ∷ lines) before fault is =
    fault_line_above before line lines fault (fault_above lines (before ++ line ∷ []) fault) (fault_after before line) is

-- ---- which comes first

ignored_first : (number : ℕ) (ending : SourceEnd) → ((fault : ReadFault) → ending ≡ ends.Fault fault → number < fault.at) → earlier (Some number) ending ≡ Some (strict_at number NoCount)
ignored_first number (ends.Clean ignored) above = refl
ignored_first number (ends.Fault fault) above = cond-true _ _ _ (lt-ltb number fault.at (above fault refl))
ignored_first number (ends.Stopped after) above = refl

fault_first : (fault : ReadFault) (first : Option ℕ) → ((number : ℕ) → first ≡ Some number → fault.at ≤ number) → earlier first (ends.Fault fault) ≡ Some (strict_at fault.at (Read fault.kind))
fault_first fault None below = refl
fault_first fault (Some number) below = cond-false _ _ _ (le-ltb number fault.at (below number refl))

-- the first fault, by what is read and by the first line that is ignored
abbrev by_rest : ℕ → Option ℕ → Rest → Option StrictFault
by_rest count first rest = or_without count rest.samples (earlier first rest.ending)

abbrev strictly_behind : List Line → Line → List Line → Option StrictKind → Option StrictFault
strictly_behind before line lines found =
    elim found [ None ↦ strict_fault_after (before ++ line ∷ []) lines | Some kind ↦ Some (strict_at (length before + 1) kind) ]

module _ (before : List Line) (lines : List Line) (rest : (b : List Line) → strict_fault_after b lines ≡ by_rest (length b + length lines) (first_ignored (length b) lines) (read_after b lines)) where
  one_more : (line : Line) → length (before ++ line ∷ []) ≡ length before + 1
  one_more line = length-append before (line ∷ [])

  at_ignored : Some (strict_at (length before + 1) NoCount) ≡ by_rest (length before + length (Ignored ∷ lines)) (Some (length before + 1)) (read_after (before ++ Ignored ∷ []) lines)
  at_ignored =
      let behind = read_after (before ++ Ignored ∷ []) lines in
      sym (ap (or_without (length before + length (Ignored ∷ lines)) behind.samples)
      (ignored_first (length before + 1) behind.ending (λ fault is. omega (arith, one_more Ignored, fault_above lines (before ++ Ignored ∷ []) fault is))))

  at_fault : (line : Line) (kind : ReadKind) → Some (strict_at (length before + 1) (Read kind)) ≡ by_rest (length before + length (line ∷ lines)) (first_ignored (length before + 1) lines) (cut_short before kind)
  at_fault line kind =
      let fault : ReadFault = record { kind = kind; at = length before + 1 } in
      sym (ap (or_without (length before + length (line ∷ lines)) (samples_of before))
      (fault_first fault (first_ignored (length before + 1) lines) (λ number is. omega (arith, first_above lines (length before + 1) number is))))

  at_sample : (line : Line) → strict_fault_after (before ++ line ∷ []) lines ≡ by_rest (length before + length (line ∷ lines)) (first_ignored (length before + 1) lines) (read_after (before ++ line ∷ []) lines)
  at_sample line =
      let behind = read_after (before ++ line ∷ []) lines in
      let all : length (before ++ line ∷ []) + length lines ≡ length before + length (line ∷ lines) = omega (arith, one_more line) in
      rest (before ++ line ∷ []) ∙ (λ i. by_rest (all i) (first_ignored (one_more line i) lines) behind)

  by_fit : (sample : StackSample) (above : Bool) → strictly_behind before (Sample sample) lines (option_map Read (cond above (Some TotalTooLarge) None))
      ≡ by_rest (length before + length (Sample sample ∷ lines)) (first_ignored (length before + 1) lines) (after_fault before (Sample sample) lines (cond above (Some TotalTooLarge) None))
  by_fit sample true = at_fault (Sample sample) TotalTooLarge
  by_fit sample false = at_sample (Sample sample)

  at_line : (line : Line) → strictly_behind before line lines (strict_kind_after before line)
      ≡ by_rest (length before + length (line ∷ lines)) (first_ignored (length before) (line ∷ lines)) (after_fault before line lines (fault_after before line))
  at_line Ignored = at_ignored
  at_line (Fault kind) = at_fault (Fault kind) kind
  at_line (Sample sample) = by_fit sample (nat_lt WEIGHT_LIMIT (total_weight (samples_of before) + sample.weight))

strict_lines : (lines before : List Line) → strict_fault_after before lines ≡ by_rest (length before + length lines) (first_ignored (length before) lines) (read_after before lines)
strict_lines [] before = ap (λ n. fault_without n (samples_of before)) (omega arith)
strict_lines (line ∷ lines) before = at_line before lines (strict_lines lines) line

strict_text : (bytes : List ℕ) → strict_fault bytes ≡ by_rest (length (lines_in bytes)) (first_ignored 0 (lines_in bytes)) (read_folded bytes)
strict_text bytes = by (begins_compressed bytes)
  where
    gzip : ReadFault
    gzip = record { kind = Compressed; at = 1 }

    by : (t : Bool) → cond t (Some (strict_at 1 (Read Compressed))) (strict_fault_after [] (lines_in bytes))
        ≡ by_rest (length (lines_in bytes)) (first_ignored 0 (lines_in bytes)) (cond t (cut_short [] Compressed) (read_after [] (lines_in bytes)))
    by true =
        sym (ap (or_without (length (lines_in bytes)) [])
        (fault_first gzip (first_ignored 0 (lines_in bytes)) (λ number is. omega (arith, first_above (lines_in bytes) 0 number is))))
    by false =
        strict_lines (lines_in bytes) []
        ∙ ap (λ n. by_rest n (first_ignored 0 (lines_in bytes)) (read_after [] (lines_in bytes))) (omega arith)

-- ---- lines that all have a count

abbrev one_if : Line → ℕ
one_if line = cond (is_ignored line) 1 0

none_first : (lines : List Line) (before : ℕ) → count_by is_ignored lines ≡ 0 → first_ignored before lines ≡ None
none_first [] before none = refl
none_first (Ignored ∷ lines) before none = absurd (omega (arith, none, sum_by-cons one_if Ignored lines))
none_first (Fault kind ∷ lines) before none = none_first lines (before + 1) (omega (arith, none, sum_by-cons one_if (Fault kind) lines))
none_first (Sample sample ∷ lines) before none = none_first lines (before + 1) (omega (arith, none, sum_by-cons one_if (Sample sample) lines))

none_counted : (lines : List Line) (before : ℕ) → first_ignored before lines ≡ None → count_by is_ignored lines ≡ 0
none_counted [] before none = refl
none_counted (Ignored ∷ lines) before none = cc
none_counted (Fault kind ∷ lines) before none = omega (arith, none_counted lines (before + 1) none, sum_by-cons one_if (Fault kind) lines)
none_counted (Sample sample ∷ lines) before none = omega (arith, none_counted lines (before + 1) none, sum_by-cons one_if (Sample sample) lines)

no_lines : (lines : List Line) → All IsFine lines → count_by is_ignored lines ≡ 0 → samples_of lines ≡ [] → lines ≡ []
no_lines [] fine none empty = refl
no_lines (Ignored ∷ lines) fine none empty = absurd (omega (arith, none, sum_by-cons one_if Ignored lines))
no_lines (Fault kind ∷ lines) fine none empty = absurd (All-head IsFine (Fault kind) lines fine)
no_lines (Sample sample ∷ lines) fine none empty = cc

-- text has a line
some_lines : (byte : ℕ) (text : List ℕ) → lines_in (byte ∷ text) ≢ []
some_lines byte text none =
    let step = ap (map read_line) (text_lines-step (byte ∷ text) (omega arith)) in
    cc

module _ (bytes : List ℕ) (ignored : ℕ) (clean : (read_folded bytes).ending ≡ ends.Clean ignored) where
  fine : All IsFine (lines_in bytes)
  fine = (fine_from bytes (ignored, clean)).lines

  read : read_folded bytes ≡ whole (lines_in bytes)
  read = fine_text bytes (fine_from bytes (ignored, clean))

  pub counted_is : count_by is_ignored (lines_in bytes) ≡ ignored
  counted_is = ap ignored_of (sym (ap (λ (rest : Rest). rest.ending) read) ∙ clean)

  pub no_text : ignored ≡ 0 → (read_folded bytes).samples ≡ [] → lines_in bytes ≡ []
  no_text none empty = no_lines (lines_in bytes) fine (counted_is ∙ none) (sym (ap (λ (rest : Rest). rest.samples) read) ∙ empty)

  pub none_ignored : ignored ≡ 0 → first_ignored 0 (lines_in bytes) ≡ None
  none_ignored none = none_first (lines_in bytes) 0 (counted_is ∙ none)

-- ---- what is wrong with a text

faultless : (count : ℕ) (samples : List StackSample) → samples ≢ [] → or_without count samples None ≡ None
faultless count [] some = absurd (some refl)
faultless count (sample ∷ samples) some = refl

-- all lines are samples
pub strict_counted : (bytes : List ℕ) → (read_folded bytes).ending ≡ ends.Clean 0 → strict_fault bytes ≡ fault_of_counted bytes
strict_counted [] clean = ap (λ lines. strict_fault_after [] (map read_line (map without_terminator lines))) lines-nil
strict_counted (byte ∷ text) clean =
    let bytes = byte ∷ text in
    let samples = (read_folded bytes).samples in
    strict_text bytes
    ∙ (λ i. or_without (length (lines_in bytes)) samples (earlier (none_ignored bytes 0 clean refl i) (clean i)))
    ∙ faultless (length (lines_in bytes)) samples (λ empty. some_lines byte text (no_text bytes 0 clean refl empty))

-- some line is ignored, or has a fault
by_ending : (count : ℕ) (samples : List StackSample) (first : Option ℕ) (ending : SourceEnd) → ((after : ℕ) → ending ≢ ends.Stopped after)
    → ((ignored : ℕ) → ending ≡ ends.Clean ignored → first ≡ None → ⊥) → or_without count samples (earlier first ending) ≡ earlier first ending
by_ending count samples None (ends.Clean ignored) read some = absurd (some ignored refl refl)
by_ending count samples None (ends.Fault fault) read some = refl
by_ending count samples None (ends.Stopped after) read some = absurd (read after refl)
by_ending count samples (Some number) (ends.Clean ignored) read some = refl
by_ending count samples (Some number) (ends.Fault fault) read some = by (nat_lt number fault.at)
  where
    by : (t : Bool) → or_without count samples (cond t (Some (strict_at number NoCount)) (Some (strict_at fault.at (Read fault.kind)))) ≡ cond t (Some (strict_at number NoCount)) (Some (strict_at fault.at (Read fault.kind)))
    by true = refl
    by false = refl
by_ending count samples (Some number) (ends.Stopped after) read some = refl

pub strict_looked : (bytes : List ℕ) → (read_folded bytes).ending ≢ ends.Clean 0 → strict_fault bytes ≡ earlier (first_ignored 0 (lines_in bytes)) (read_folded bytes).ending
strict_looked bytes other =
    let rest = read_folded bytes in
    let lines = lines_in bytes in
    strict_text bytes
    ∙ by_ending (length lines) rest.samples (first_ignored 0 lines) rest.ending (unstopped-read_folded bytes)
    (λ ignored clean none. other (clean ∙ ap ends.Clean (sym (counted_is bytes ignored clean) ∙ none_counted lines 0 none)))

pub counted_clean : (ending : SourceEnd) → is_counted ending ≡ true → ending ≡ ends.Clean 0
counted_clean (ends.Clean ignored) counted = ap ends.Clean (eqb-true ignored 0 counted)
counted_clean (ends.Fault fault) counted = absurd (false≢true counted)
counted_clean (ends.Stopped after) counted = absurd (false≢true counted)

pub not_counted : (ending : SourceEnd) → is_counted ending ≡ false → ending ≢ ends.Clean 0
not_counted ending other clean = absurd (true≢false (sym (ap is_counted clean) ∙ other))

-- ---- laws

accepted_by : (count : ℕ) (samples : List StackSample) (first : Option ℕ) (ending : SourceEnd) → ((after : ℕ) → ending ≢ ends.Stopped after)
    → ((ignored : ℕ) → ending ≡ ends.Clean ignored → first ≡ None → ignored ≡ 0) → or_without count samples (earlier first ending) ≡ None → (samples ≢ []) × (ending ≡ ends.Clean 0)
accepted_by count [] None (ends.Clean ignored) read zero none = cc
accepted_by count (sample ∷ samples) None (ends.Clean ignored) read zero none = ((λ empty. cc), ap ends.Clean (zero ignored refl refl))
accepted_by count samples None (ends.Fault fault) read zero none = cc
accepted_by count samples None (ends.Stopped after) read zero none = absurd (read after refl)
accepted_by count samples (Some number) (ends.Clean ignored) read zero none = cc
accepted_by count samples (Some number) (ends.Fault fault) read zero none = by (nat_lt number fault.at) none
  where
    by : (t : Bool) → or_without count samples (cond t (Some (strict_at number NoCount)) (Some (strict_at fault.at (Read fault.kind)))) ≡ None → (samples ≢ []) × (ends.Fault fault ≡ ends.Clean 0)
    by true none = cc
    by false none = cc
accepted_by count samples (Some number) (ends.Stopped after) read zero none = cc

pub accepted : (bytes : List ℕ) → strict_fault bytes ≡ None → ((read_folded bytes).samples ≢ []) × ((read_folded bytes).ending ≡ ends.Clean 0)
accepted bytes none =
    let rest = read_folded bytes in
    let lines = lines_in bytes in
    accepted_by (length lines) rest.samples (first_ignored 0 lines) rest.ending (unstopped-read_folded bytes)
    (λ ignored clean first. sym (counted_is bytes ignored clean) ∙ none_counted lines 0 first) (sym (strict_text bytes) ∙ none)

counted_lines : (lines : List (List ℕ)) (before : ℕ) → All (λ line. is_ignored (read_line line) ≡ false) lines → first_ignored before (map read_line lines) ≡ None
counted_lines [] before counted = refl
counted_lines (line ∷ lines) before counted =
    let here = All-head (λ l. is_ignored (read_line l) ≡ false) line lines counted in
    cond-false _ _ _ here ∙ counted_lines lines (before + 1) (All-tail (λ l. is_ignored (read_line l) ≡ false) line lines counted)

same_by : (count : ℕ) (samples : List StackSample) (ending : SourceEnd) → ((ignored : ℕ) → ending ≡ ends.Clean ignored → samples ≢ []) → ((after : ℕ) → ending ≢ ends.Stopped after)
    → or_without count samples (earlier None ending) ≡ fault_of_ending ending
same_by count samples (ends.Clean ignored) some read = faultless count samples (some ignored refl)
same_by count samples (ends.Fault fault) some read = refl
same_by count samples (ends.Stopped after) some read = absurd (read after refl)

pub reads_the_same : (bytes : List ℕ) → bytes ≢ [] → All (λ line. is_ignored (read_line line) ≡ false) (text_lines bytes) → strict_fault bytes ≡ fault_of_ending (read_folded bytes).ending
reads_the_same [] some counted = absurd (some refl)
reads_the_same (byte ∷ text) some counted =
    let bytes = byte ∷ text in
    let rest = read_folded bytes in
    let first = counted_lines (text_lines bytes) 0 counted in
    strict_text bytes ∙ ap (λ found. by_rest (length (lines_in bytes)) found rest) first
    ∙ same_by (length (lines_in bytes)) rest.samples rest.ending
    (λ ignored clean empty. some_lines byte text (no_text bytes ignored clean (sym (counted_is bytes ignored clean) ∙ none_counted (lines_in bytes) 0 first) empty)) (unstopped-read_folded bytes)
