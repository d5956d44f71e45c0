-- Reading line after line gives what the whole text is defined to give.
use Rattle.std.proofs.Common.{◌≡◌, ℕ, ◌+◌, Bool, true, false, cond, nat_lt, Option, Some, None, List, [], ◌∷◌, ◌++◌, length, map, count_by, refl, sym, ap, subst, ◌∙◌, arith, append_assoc, length-append}
use Rattle.std.proofs.lemmas.List.{append-nil}
use Rattle.std.proofs.lemmas.List.Elements.{All-nil}
use Rattle.std.proofs.lemmas.List.Sums.{sum_by_push}
use Rattle.stack_core.specs.Reading.{Rest, IsSourceLimited}
use Rattle.sample_tables.specs.Samples.{IsLimited}
use Rattle.sample_tables.specs.declared.samples.TheConstants.{WEIGHT_LIMIT}
use Rattle.sample_tables.specs.declared.samples.Sample.{Sample as StackSample}
use Rattle.stack_core.specs.declared.endings.ReadKind.{ReadKind}
use Rattle.stack_core.specs.declared.endings.ReadKind.TheVariants.{Compressed, TotalTooLarge}
use Rattle.stack_core.specs.declared.endings.SourceEnd.{SourceEnd}
use Rattle.stack_core.specs.declared.endings.SourceEnd.TheVariants as ends
use Rattle.folded_lines.specs.Line.{Line}
use Rattle.folded_lines.specs.Line.{Ignored, Fault, Sample}
use Rattle.folded_lines.specs.declared.cursor.Cursor.{Cursor}
use Rattle.folded_lines.specs.Lines.{text_lines, read_line}
use Rattle.folded_lines.specs.Reading.{samples_of, is_ignored, total_weight, fault_after, cut_short, read_after, begins_compressed, read_folded}
use Rattle.folded_lines.specs.checked.Scanning.{within_total, scan}
use Rattle.folded_lines.proofs.ScanLemmas.{scan_line}
use Rattle.folded_lines.proofs.LimitLemmas.{IsSourceLimited-scan}

-- what is left, behind samples that are given
abbrev behind : List StackSample → Rest → Rest
behind samples rest = record { samples = samples ++ rest.samples; ending = rest.ending }

-- what is left after these lines, by their counts
abbrev scan_after : List Line → List (List ℕ) → Rest
scan_after before lines = scan (length before) (count_by is_ignored before) (total_weight (samples_of before)) lines

pub samples_of-append : (xs ys : List Line) → samples_of (xs ++ ys) ≡ samples_of xs ++ samples_of ys
samples_of-append [] ys = refl
samples_of-append (Ignored ∷ xs) ys = samples_of-append xs ys
samples_of-append (Fault kind ∷ xs) ys = samples_of-append xs ys
samples_of-append (Sample sample ∷ xs) ys = ap (λ t. sample ∷ t) (samples_of-append xs ys)

pub samples_of-ignored : (xs : List Line) → samples_of (xs ++ Ignored ∷ []) ≡ samples_of xs
samples_of-ignored xs = samples_of-append xs (Ignored ∷ []) ∙ append-nil (samples_of xs)

nothing_behind : (samples : List StackSample) (ending : SourceEnd) → behind samples (record { samples = []; ending = ending }) ≡ record { samples = samples; ending = ending }
nothing_behind samples ending = ap (λ (t : List StackSample). record { samples = t; ending = ending }) (append-nil samples)

counts : (n i t n' i' t' : ℕ) (front front' : List StackSample) (lines : List (List ℕ)) → front ≡ front' → n ≡ n' → i ≡ i' → t ≡ t'
    → behind front (scan n i t lines) ≡ behind front' (scan n' i' t' lines)
counts n i t n' i' t' front front' lines f a b c =
    ap (λ g. behind g (scan n i t lines)) f ∙ ap (λ k. behind front' (scan k i t lines)) a
    ∙ ap (λ k. behind front' (scan n' k t lines)) b ∙ ap (λ k. behind front' (scan n' i' k lines)) c

one_more : (before : List Line) (line : Line) → length (before ++ line ∷ []) ≡ length before + 1
one_more before line = length-append before (line ∷ [])

abbrev pub after_fault : List Line → Line → List Line → Option ReadKind → Rest
after_fault before line lines fault =
    elim fault [ None ↦ read_after (before ++ line ∷ []) lines | Some kind ↦ cut_short before kind ]

-- the case of each line, where the lines after it are read so
module _ (before : List Line) (lines : List (List ℕ)) (rest : (b : List Line) → read_after b (map read_line lines) ≡ behind (samples_of b) (scan_after b lines)) where
  at_ignored : read_after before (Ignored ∷ map read_line lines)
      ≡ behind (samples_of before) (scan_line (length before) (count_by is_ignored before) (total_weight (samples_of before)) lines Ignored)
  at_ignored =
      rest (before ++ Ignored ∷ [])
      ∙ counts _ _ _ (length before + 1) (count_by is_ignored before + 1) (total_weight (samples_of before)) _ (samples_of before) lines
      (samples_of-ignored before) (one_more before Ignored) (sum_by_push (λ l. cond (is_ignored l) 1 0) before Ignored) (ap total_weight (samples_of-ignored before))

  at_fault : (kind : ReadKind) → cut_short before kind
      ≡ behind (samples_of before) (scan_line (length before) (count_by is_ignored before) (total_weight (samples_of before)) lines (Fault kind))
  at_fault kind = sym (nothing_behind (samples_of before) _)

  at_sample : (sample : StackSample) → read_after (before ++ Sample sample ∷ []) (map read_line lines)
      ≡ behind (samples_of before) (scan_line (length before) (count_by is_ignored before) (total_weight (samples_of before)) lines (Sample sample))
  at_sample sample =
      let front = samples_of-append before (Sample sample ∷ []) in
      rest (before ++ Sample sample ∷ [])
      ∙ counts _ _ _ (length before + 1) (count_by is_ignored before) (total_weight (samples_of before) + sample.weight) _ (samples_of before ++ sample ∷ []) lines
      front (one_more before (Sample sample)) (sum_by_push (λ l. cond (is_ignored l) 1 0) before (Sample sample) ∙ omega arith)
      (ap total_weight front ∙ sum_by_push (λ (s : StackSample). s.weight) (samples_of before) sample)
      ∙ ap (λ (t : List StackSample). record { samples = t; ending = (later sample).ending }) (append_assoc (samples_of before) (sample ∷ []) (later sample).samples)
    where
      later : StackSample → Rest
      later s = scan (length before + 1) (count_by is_ignored before) (total_weight (samples_of before) + s.weight) lines

  by_fit : (sample : StackSample) (b : Bool) → after_fault before (Sample sample) (map read_line lines) (cond b (Some TotalTooLarge) None)
      ≡ behind (samples_of before) (scan_line (length before) (count_by is_ignored before) (total_weight (samples_of before)) lines (cond b (Fault TotalTooLarge) (Sample sample)))
  by_fit sample true = at_fault TotalTooLarge
  by_fit sample false = at_sample sample

  at_line : (line : Line) → after_fault before line (map read_line lines) (fault_after before line)
      ≡ behind (samples_of before) (scan_line (length before) (count_by is_ignored before) (total_weight (samples_of before)) lines (within_total (total_weight (samples_of before)) line))
  at_line Ignored = at_ignored
  at_line (Fault kind) = at_fault kind
  at_line (Sample sample) = by_fit sample (nat_lt WEIGHT_LIMIT (total_weight (samples_of before) + sample.weight))

read_after-scan : (lines : List (List ℕ)) (before : List Line) → read_after before (map read_line lines) ≡ behind (samples_of before) (scan_after before lines)
read_after-scan [] before = sym (nothing_behind (samples_of before) (ends.Clean (count_by is_ignored before)))
read_after-scan (line ∷ lines) before = at_line before lines (read_after-scan lines) (read_line line)

-- the samples and the ending of all lines
pub read_after-all : (lines : List (List ℕ)) → read_after [] (map read_line lines) ≡ scan 0 0 0 lines
read_after-all lines = read_after-scan lines []

-- before the first line
abbrev pub start : Cursor
start = record { taken = 0; ignored = 0; total = 0 }

limited_at : (bytes : List ℕ) (compressed : Bool)
    → IsSourceLimited (cond compressed (cut_short [] Compressed) (read_after [] (map read_line (text_lines bytes)))).samples
limited_at bytes true = record { each = All-nil IsLimited; total = omega arith }
limited_at bytes false = subst (λ (r : Rest). IsSourceLimited r.samples) (sym (read_after-all (text_lines bytes))) (IsSourceLimited-scan (text_lines bytes))

pub IsSourceLimited-read_folded : (bytes : List ℕ) → IsSourceLimited (read_folded bytes).samples
IsSourceLimited-read_folded bytes = limited_at bytes (begins_compressed bytes)
