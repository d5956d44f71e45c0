-- How a text reads whose first ignored line ends it, and what a strict reader of a stream may give of known bytes.
use Rattle.std.proofs.Common.{◌≡◌, ◌≢◌, ◌<◌, ◌≤◌, ◌^◌, ℕ, zero, suc, ◌+◌, Bool, true, false, cond, ◌==◌, ◌&&◌, ◌||◌, not, nat_lt, Option, Some, None, IsSomeAnd, List, [], ◌∷◌, ◌++◌, length, map, count_by, All, refl, sym, ap, subst, ◌∙◌, arith, length-append}
use Rattle.std.proofs.lemmas.Bool.{cond-true, cond-false, ne_eqb}
use Rattle.std.proofs.lemmas.List.{append-nil}
use Rattle.std.proofs.lemmas.List.Elements.{All-head, All-nil, All-tail}
use Rattle.std.proofs.lemmas.List.Sums.{sum_by_push}
use Rattle.sample_tables.specs.Samples.{IsLimited}
use Rattle.sample_tables.specs.declared.samples.TheConstants.{WEIGHT_LIMIT}
use Rattle.sample_tables.specs.declared.samples.Sample.{Sample as StackSample}
use Rattle.stack_core.specs.Prefixes.{IsPrefixOf}
use Rattle.stack_core.specs.Parts.{ignored_of}
use Rattle.stack_core.specs.Reading.{IsSourceLimited, Rest}
use Rattle.stack_core.specs.RowReading.{GivesSome}
use Rattle.stack_core.specs.declared.endings.ReadKind.TheVariants.{Compressed, TotalTooLarge}
use Rattle.stack_core.specs.declared.endings.SourceEnd.{SourceEnd}
use Rattle.stack_core.specs.declared.endings.SourceEnd.TheVariants as ends
use Rattle.folded_lines.specs.Line.{Line}
use Rattle.folded_lines.specs.Line.{Ignored, Fault, Sample}
use Rattle.folded_lines.specs.Lines.{text_lines, read_line}
use Rattle.folded_lines.specs.Reading.{samples_of, is_ignored, total_weight, cut_short, read_after, begins_compressed, read_folded}
use Rattle.folded_lines.specs.Streams.{Coming, IsCountable, MayCome, at_failure, ending_at_failure}
use Rattle.folded_lines.specs.StrictReading.{fault_without, strict_at, strict_fault, strict_fault_after}
use Rattle.folded_lines.specs.StrictStreams.{IsTellable, StrictStreamGives, has_ignored, read_coming_strictly, read_strictly, strict_ending_fault, up_to_ignored}
use Rattle.folded_lines.specs.TextParts.{IsWholeLines}
use Rattle.folded_lines.specs.declared.strictness.StrictFault.{StrictFault}
use Rattle.folded_lines.specs.declared.strictness.StrictKind.{StrictKind}
use Rattle.folded_lines.specs.declared.strictness.StrictKind.TheVariants.{NoCount, Read}
use Rattle.folded_lines.specs.checked.Scanning.{ended, scan, within_total}
use Rattle.folded_lines.proofs.LimitLemmas.{IsSourceLimited-scan}
use Rattle.folded_lines.proofs.PartReading.{ends_line, one_feed}
use Rattle.folded_lines.proofs.ReadLemmas.{read_after-all, samples_of-append, samples_of-ignored}
use Rattle.folded_lines.proofs.ScanLemmas.{scan_line, text_lines-none}
use Rattle.folded_lines.proofs.StreamRows.{few_up_to_ignored}
use Rattle.folded_lines.proofs.StreamTexts.{IsFront, all_coming, comes_whole, ends_by, fails_at_once, few_lines, front_same, nothing_front, scan_front, text_lines-two}

-- ---- the first fault

abbrev fault_of : Rest → Option StrictFault
fault_of rest = strict_ending_fault (length rest.samples) rest.ending

-- each of some lines is a sample
record AreSamples (lines : List Line) : Type 0 where
  many : length (samples_of lines) ≡ length lines
  none_ignored : count_by is_ignored lines ≡ 0

samples_more : (lines : List Line) (sample : StackSample) → AreSamples lines → AreSamples (lines ++ Sample sample ∷ [])
samples_more lines sample are = record {
  many = ap length (samples_of-append lines (Sample sample ∷ [])) ∙ length-append (samples_of lines) (sample ∷ []) ∙ ap (λ n. n + 1) are.many ∙ sym (length-append lines (Sample sample ∷ []));
  none_ignored = sum_by_push (λ l. cond (is_ignored l) 1 0) lines (Sample sample) ∙ ap (λ n. n + 0) are.none_ignored;
}

without : (samples : List StackSample) (at : ℕ) → length samples ≡ at → cond (length samples == 0) (Some (strict_at 0 StrictKind.NoSamples)) None ≡ fault_without at samples
without [] at many = ap (λ n. Some (strict_at n StrictKind.NoSamples)) many
without (sample ∷ samples) at many = ap (λ none. cond none (Some (strict_at 0 StrictKind.NoSamples)) None) (ne_eqb (length (sample ∷ samples)) 0 (λ none. omega arith))

abbrev strictly_behind : List Line → List Line → Option StrictKind → Line → Option StrictFault
strictly_behind before lines found line =
    elim found [ None ↦ strict_fault_after (before ++ line ∷ []) lines | Some kind ↦ Some (strict_at (length before + 1) kind) ]

-- behind lines that all are samples
module _ (before : List Line) (are : AreSamples before) (lines : List (List ℕ))
    (rest : (more : List Line) → AreSamples more → fault_of (read_after more (map read_line (up_to_ignored lines))) ≡ strict_fault_after more (map read_line lines)) where
  at_ignored : fault_of (read_after (before ++ Ignored ∷ []) []) ≡ Some (strict_at (length before + 1) NoCount)
  at_ignored =
      let one : count_by is_ignored (before ++ Ignored ∷ []) ≡ 1 = sum_by_push (λ l. cond (is_ignored l) 1 0) before Ignored ∙ ap (λ n. n + 1) are.none_ignored in
      let many : length (samples_of (before ++ Ignored ∷ [])) ≡ length before = ap length (samples_of-ignored before) ∙ are.many in
      λ i. strict_ending_fault (many i) (ends.Clean (one i))

  at_sample : (sample : StackSample) (above : Bool)
      → fault_of (elim (cond above (Some TotalTooLarge) None) [ None ↦ read_after (before ++ Sample sample ∷ []) (map read_line (up_to_ignored lines)) | Some kind ↦ cut_short before kind ])
      ≡ elim (cond above (Some (Read TotalTooLarge)) None) [ None ↦ strict_fault_after (before ++ Sample sample ∷ []) (map read_line lines) | Some kind ↦ Some (strict_at (length before + 1) kind) ]
  at_sample sample true = refl
  at_sample sample false = rest (before ++ Sample sample ∷ []) (samples_more before sample are)

  kind_of : (above : Bool) → cond above (Some (Read TotalTooLarge)) None ≡ elim (cond above (Some TotalTooLarge) None) [ None ↦ None | Some kind ↦ Some (Read kind) ]
  kind_of true = refl
  kind_of false = refl

  at_line : (line : Line) → fault_of (read_after before (line ∷ map read_line (cond (is_ignored line) [] (up_to_ignored lines)))) ≡ strict_fault_after before (line ∷ map read_line lines)
  at_line Ignored = at_ignored
  at_line (Fault kind) = refl
  at_line (Sample sample) =
      let above = nat_lt WEIGHT_LIMIT (total_weight (samples_of before) + sample.weight) in
      at_sample sample above ∙ ap (λ found. strictly_behind before (map read_line lines) found (Sample sample)) (kind_of above)

up_to_fault : (lines : List (List ℕ)) (before : List Line) → AreSamples before → fault_of (read_after before (map read_line (up_to_ignored lines))) ≡ strict_fault_after before (map read_line lines)
up_to_fault [] before are =
    (λ i. strict_ending_fault (length (samples_of before)) (ends.Clean (are.none_ignored i))) ∙ without (samples_of before) (length before) are.many
up_to_fault (line ∷ lines) before are = at_line before are lines (up_to_fault lines) (read_line line)

pub strict_text_fault : (bytes : List ℕ) → fault_of (read_strictly bytes) ≡ strict_fault bytes
strict_text_fault bytes = by (begins_compressed bytes)
  where
    lines : List (List ℕ)
    lines = text_lines bytes

    by : (test : Bool) → fault_of (cond test (cut_short [] Compressed) (read_after [] (map read_line (up_to_ignored lines))))
        ≡ cond test (Some (strict_at 1 (Read Compressed))) (strict_fault_after [] (map read_line lines))
    by true = refl
    by false = up_to_fault lines [] (record { many = refl; none_ignored = refl })

-- ---- lines up to the first that is ignored

abbrev is_passed : List ℕ → Bool
is_passed line = is_ignored (read_line line)

all_up_to : (lines : List (List ℕ)) → All (λ line. is_ignored (read_line line) ≡ false) lines → up_to_ignored lines ≡ lines
all_up_to [] none = refl
all_up_to (line ∷ lines) none =
    ap (λ b. line ∷ cond b [] (up_to_ignored lines)) (All-head (λ line. is_ignored (read_line line) ≡ false) line lines none)
    ∙ ap (λ ls. line ∷ ls) (all_up_to lines (All-tail (λ line. is_ignored (read_line line) ≡ false) line lines none))

pub strict_same : (bytes : List ℕ) → All (λ line. is_ignored (read_line line) ≡ false) (text_lines bytes) → read_strictly bytes ≡ read_folded bytes
strict_same bytes none =
    ap (λ lines. cond (begins_compressed bytes) (cut_short [] Compressed) (read_after [] (map read_line lines))) (all_up_to (text_lines bytes) none)

-- a front of all lines
more_behind : (lines : List (List ℕ)) → (more : List (List ℕ)) × (up_to_ignored lines ++ more ≡ lines)
more_behind [] = ([], refl)
more_behind (line ∷ lines) = by (is_passed line) (more_behind lines)
  where
    by : (here : Bool) → (more : List (List ℕ)) × (up_to_ignored lines ++ more ≡ lines) → (more : List (List ℕ)) × (line ∷ cond here [] (up_to_ignored lines) ++ more ≡ line ∷ lines)
    by true more = (lines, refl)
    by false more = (more.0, ap (λ ls. line ∷ ls) more.1)

-- what reads up to one that is ignored, and what reads on
strict_plain : (bytes : List ℕ) → begins_compressed bytes ≡ false → read_strictly bytes ≡ scan 0 0 0 (up_to_ignored (text_lines bytes))
strict_plain bytes plain = cond-false _ _ _ plain ∙ read_after-all (up_to_ignored (text_lines bytes))

pub strict_first : (bytes : List ℕ) → IsPrefixOf (read_strictly bytes).samples (read_folded bytes).samples
strict_first bytes = by (begins_compressed bytes)
  where
    lines : List (List ℕ)
    lines = text_lines bytes

    fronts : IsFront (scan 0 0 0 (up_to_ignored lines)) (scan 0 0 0 lines)
    fronts = let more = more_behind lines in subst (λ all. IsFront (scan 0 0 0 (up_to_ignored lines)) (scan 0 0 0 all)) more.1 (scan_front (up_to_ignored lines) more.0 0 0 0)

    by : (test : Bool) → IsPrefixOf (cond test (cut_short [] Compressed) (read_after [] (map read_line (up_to_ignored lines)))).samples (cond test (cut_short [] Compressed) (read_after [] (map read_line lines))).samples
    by true = ([], refl)
    by false = subst (λ (front : Rest). IsPrefixOf front.samples (read_after [] (map read_line lines)).samples) (sym (read_after-all (up_to_ignored lines)))
        (subst (λ (all : Rest). IsPrefixOf (scan 0 0 0 (up_to_ignored lines)).samples all.samples) (sym (read_after-all lines)) fronts.samples)

strict_limits_of : (bytes : List ℕ) → IsSourceLimited (read_strictly bytes).samples
strict_limits_of bytes = by (begins_compressed bytes)
  where
    by : (test : Bool) → IsSourceLimited (cond test (cut_short [] Compressed) (read_after [] (map read_line (up_to_ignored (text_lines bytes))))).samples
    by true = record { each = All-nil IsLimited; total = omega arith }
    by false = subst (λ (r : Rest). IsSourceLimited r.samples) (sym (read_after-all (up_to_ignored (text_lines bytes)))) (IsSourceLimited-scan (up_to_ignored (text_lines bytes)))

-- ---- the front of a text

-- lines with one that is ignored, and others behind them
has_front : (one other : List (List ℕ)) → has_ignored one ≡ true → up_to_ignored (one ++ other) ≡ up_to_ignored one
has_front [] other has = cc
has_front (line ∷ one) other has = by (is_passed line) has (has_front one other)
  where
    by : (here : Bool) → (here || has_ignored one) ≡ true → (has_ignored one ≡ true → up_to_ignored (one ++ other) ≡ up_to_ignored one)
        → line ∷ cond here [] (up_to_ignored (one ++ other)) ≡ line ∷ cond here [] (up_to_ignored one)
    by true has rest = refl
    by false has rest = ap (λ ls. line ∷ ls) (rest has)

none_front : (one other : List (List ℕ)) → has_ignored one ≡ false → (up_to_ignored (one ++ other) ≡ one ++ up_to_ignored other) × (up_to_ignored one ≡ one)
none_front [] other none = (refl, refl)
none_front (line ∷ one) other none = by (is_passed line) none (none_front one other)
  where
    by : (here : Bool) → (here || has_ignored one) ≡ false → (has_ignored one ≡ false → (up_to_ignored (one ++ other) ≡ one ++ up_to_ignored other) × (up_to_ignored one ≡ one))
        → (line ∷ cond here [] (up_to_ignored (one ++ other)) ≡ line ∷ (one ++ up_to_ignored other)) × (line ∷ cond here [] (up_to_ignored one) ≡ line ∷ one)
    by true none rest = cc
    by false none rest = (ap (λ ls. line ∷ ls) (rest none).0, ap (λ ls. line ∷ ls) (rest none).1)

strict_lines_front : (one other : List (List ℕ)) → IsFront (scan 0 0 0 (up_to_ignored one)) (scan 0 0 0 (up_to_ignored (one ++ other)))
strict_lines_front one other = by (has_ignored one) refl
  where
    by : (has : Bool) → has_ignored one ≡ has → IsFront (scan 0 0 0 (up_to_ignored one)) (scan 0 0 0 (up_to_ignored (one ++ other)))
    by true has = subst (λ ls. IsFront (scan 0 0 0 (up_to_ignored one)) (scan 0 0 0 ls)) (sym (has_front one other has)) (front_same (scan 0 0 0 (up_to_ignored one)))
    by false none =
        let both = none_front one other none in
        subst (λ ls. IsFront (scan 0 0 0 ls) (scan 0 0 0 (up_to_ignored (one ++ other)))) (sym both.1)
        (subst (λ ls. IsFront (scan 0 0 0 one) (scan 0 0 0 ls)) (sym both.0) (scan_front one (up_to_ignored other) 0 0 0))

-- what a text of whole lines reads to, and one that goes on behind it: all of that where a line is ignored
pub record IsStrictFront (one other : List ℕ) : Type 0 where
  pub front : IsFront (read_strictly one) (read_strictly (one ++ other))
  pub closed : has_ignored (text_lines one) ≡ true → read_strictly (one ++ other) ≡ read_strictly one

plain_strict_front : (one other : List ℕ) → IsWholeLines one → begins_compressed one ≡ false → begins_compressed (one ++ other) ≡ false → IsStrictFront one other
plain_strict_front one other whole here both =
    let lines = text_lines-two one other whole in
    record {
      front = subst (λ front. IsFront front (read_strictly (one ++ other))) (sym (strict_plain one here))
          (subst (IsFront (scan 0 0 0 (up_to_ignored (text_lines one)))) (sym (strict_plain (one ++ other) both))
          (subst (λ ls. IsFront (scan 0 0 0 (up_to_ignored (text_lines one))) (scan 0 0 0 (up_to_ignored ls))) (sym lines) (strict_lines_front (text_lines one) (text_lines other))));
      closed = λ has. strict_plain (one ++ other) both ∙ ap (λ ls. scan 0 0 0 (up_to_ignored ls)) lines ∙ ap (scan 0 0 0) (has_front (text_lines one) (text_lines other) has) ∙ sym (strict_plain one here);
    }

nothing_strictly : read_strictly [] ≡ ended (ends.Clean 0)
nothing_strictly = ap (λ lines. read_after [] (map read_line (up_to_ignored lines))) text_lines-none

gzip_strictly : (bytes : List ℕ) → begins_compressed bytes ≡ true → read_strictly bytes ≡ cut_short [] Compressed
gzip_strictly bytes gzip = cond-true _ _ _ gzip

pub strict_front : (one other : List ℕ) → IsWholeLines one → IsStrictFront one other
strict_front [] other whole = record {
  front = nothing_front (read_strictly other) (read_strictly []) nothing_strictly;
  closed = λ has. absurd (none_there (sym (ap has_ignored text_lines-none) ∙ has));
}
  where
    none_there : false ≡ true → ⊥
    none_there same = cc
strict_front (b ∷ []) other whole =
    let feed = one_feed b (ends_line (b ∷ []) whole) in
    plain_strict_front (b ∷ []) other whole (ap (λ x. begins_compressed (x ∷ [])) feed) (ap (λ x. begins_compressed (x ∷ other)) feed)
strict_front (b ∷ c ∷ one) other whole = by (begins_compressed (b ∷ c ∷ one)) refl
  where
    by : (compressed : Bool) → begins_compressed (b ∷ c ∷ one) ≡ compressed → IsStrictFront (b ∷ c ∷ one) other
    by true is = record {
      front = subst (λ front. IsFront front (read_strictly (b ∷ c ∷ (one ++ other)))) (sym (gzip_strictly (b ∷ c ∷ one) is))
          (subst (IsFront (cut_short [] Compressed)) (sym (gzip_strictly (b ∷ c ∷ (one ++ other)) is)) (front_same (cut_short [] Compressed)));
      closed = λ has. gzip_strictly (b ∷ c ∷ (one ++ other)) is ∙ sym (gzip_strictly (b ∷ c ∷ one) is);
    }
    by false is = plain_strict_front (b ∷ c ∷ one) other whole is is

-- ---- streams

-- where no read failed, all of the bytes came
came_all : (known bytes : List ℕ) (is_sure : Bool) → MayCome (Some known) is_sure [] (record { bytes = bytes; fails = false }) → bytes ≡ known
came_all known bytes is_sure may = may.whole refl ∙ may.of_known

-- and else the front of them
came_first : (known bytes : List ℕ) (is_sure : Bool) → MayCome (Some known) is_sure [] (record { bytes = bytes; fails = true })
    → (other : List ℕ) × (bytes ++ other ≡ known) × IsStrictFront bytes other
came_first known bytes is_sure may =
    let failing = may.failing refl in
    (failing.2.0, failing.2.1 ∙ may.of_known, strict_front bytes failing.2.0 failing.1)

-- what a strict reader may give of known bytes
pub record ReadsStrictly (known : List ℕ) (rest : Rest) : Type 0 where
  pub whole : ((after : ℕ) → rest.ending ≢ ends.Stopped after) → rest ≡ read_strictly known
  pub first : IsPrefixOf rest.samples (read_strictly known).samples

read_all : (known : List ℕ) (rest : Rest) → rest ≡ read_strictly known → ReadsStrictly known rest
read_all known rest is = record { whole = λ _. is; first = ([], append-nil rest.samples ∙ ap (λ (r : Rest). r.samples) is) }

read_first : (known bytes other : List ℕ) (rest : Rest) (has : Bool) → bytes ++ other ≡ known → IsStrictFront bytes other → has_ignored (text_lines bytes) ≡ has
    → rest ≡ cond (not has) (at_failure (read_strictly bytes)) (read_strictly bytes) → ReadsStrictly known rest
read_first known bytes other rest true all front has is = read_all known rest (is ∙ sym (front.closed has) ∙ ap read_strictly all)
read_first known bytes other rest false all front has is =
    let fronts : IsFront (read_strictly bytes) (read_strictly known) = subst (λ text. IsFront (read_strictly bytes) (read_strictly text)) all front.front in
    record {
      whole = λ unstopped. ends_by (read_strictly bytes).samples (read_strictly bytes).ending rest (read_strictly known) is unstopped fronts;
      first = subst (λ (rest : Rest). IsPrefixOf rest.samples (read_strictly known).samples) (sym is) fronts.samples;
    }

reads_by : (known bytes : List ℕ) (is_sure fails : Bool) (rest : Rest) → MayCome (Some known) is_sure [] (record { bytes = bytes; fails = fails })
    → rest ≡ read_coming_strictly (record { bytes = bytes; fails = fails }) → ReadsStrictly known rest
reads_by known bytes is_sure false rest may is = read_all known rest (is ∙ ap read_strictly (came_all known bytes is_sure may))
reads_by known bytes is_sure true rest may is =
    let came = came_first known bytes is_sure may in
    read_first known bytes came.0 rest (has_ignored (text_lines bytes)) came.1 came.2 refl is

pub reads_strictly : (known : List ℕ) (is_sure : Bool) (rest : Rest) → StrictStreamGives (Some known) is_sure rest → ReadsStrictly known rest
reads_strictly known is_sure rest gives = reads_by known gives.0.bytes is_sure gives.0.fails rest gives.1 gives.3

strict_sure_by : (known bytes : List ℕ) (fails : Bool) (rest : Rest) → MayCome (Some known) true [] (record { bytes = bytes; fails = fails })
    → rest ≡ read_coming_strictly (record { bytes = bytes; fails = fails }) → rest ≡ read_strictly known
strict_sure_by known bytes false rest may is = is ∙ ap read_strictly (came_all known bytes true may)
strict_sure_by known bytes true rest may is = let sure : true ≡ false = (may.failing refl).0 in cc

pub strict_sure : (known : List ℕ) (rest : Rest) → StrictStreamGives (Some known) true rest → rest ≡ read_strictly known
strict_sure known rest gives = strict_sure_by known gives.0.bytes gives.0.fails rest gives.1 gives.3

pub strict_whole : (known : List ℕ) (is_sure : Bool) (rest : Rest) → StrictStreamGives (Some known) is_sure rest → ((after : ℕ) → rest.ending ≢ ends.Stopped after) → rest ≡ read_strictly known
strict_whole known is_sure rest gives = (reads_strictly known is_sure rest gives).whole

pub strict_stream_fault : (known : List ℕ) (is_sure : Bool) (rest : Rest) → StrictStreamGives (Some known) is_sure rest → ((after : ℕ) → rest.ending ≢ ends.Stopped after)
    → strict_ending_fault (length rest.samples) rest.ending ≡ strict_fault known
strict_stream_fault known is_sure rest gives unstopped = ap fault_of (strict_whole known is_sure rest gives unstopped) ∙ strict_text_fault known

pub strict_front_first : (known : List ℕ) (is_sure : Bool) (rest : Rest) → StrictStreamGives (Some known) is_sure rest → IsPrefixOf rest.samples (read_strictly known).samples
strict_front_first known is_sure rest gives = (reads_strictly known is_sure rest gives).first

strict_given : (known : Option (List ℕ)) (is_sure : Bool) (coming : Coming) → MayCome known is_sure [] coming → IsCountable coming → GivesSome (StrictStreamGives known is_sure)
strict_given known is_sure coming may few = record { rest = read_coming_strictly coming; is_given = (coming, may, few, refl) }

pub strict_possible : (known : Option (List ℕ)) (is_sure : Bool) → (is_sure ≡ true → IsSomeAnd known (λ bytes. length bytes < 2 ^ 64)) → GivesSome (StrictStreamGives known is_sure)
strict_possible known false short = strict_given known false (record { bytes = []; fails = true }) (fails_at_once known []) (omega (arith, few_lines []))
strict_possible None true short = absurd (short refl)
strict_possible (Some known) true short =
    strict_given (Some known) true (all_coming (Some known) []) (comes_whole (Some known) true []) (omega (arith, few_lines known, short refl))

limits_by : (coming : Coming) (fails : Bool) → IsSourceLimited (cond fails (at_failure (read_strictly coming.bytes)) (read_strictly coming.bytes)).samples
limits_by coming true = strict_limits_of coming.bytes
limits_by coming false = strict_limits_of coming.bytes

-- ---- the place of a fault is a number of 64 bits

-- no more samples and ignored lines than lines
counted_by : (taken ignored total ended_with : ℕ) (lines : List (List ℕ)) (line : Line) → ((n i t : ℕ) → (scan n i t lines).ending ≡ ends.Clean ended_with → length (scan n i t lines).samples + ended_with ≤ length lines + i)
    → (scan_line taken ignored total lines line).ending ≡ ends.Clean ended_with → length (scan_line taken ignored total lines line).samples + ended_with ≤ length lines + 1 + ignored
counted_by taken ignored total ended_with lines Ignored rest is = omega (arith, rest (taken + 1) (ignored + 1) total is)
counted_by taken ignored total ended_with lines (Fault kind) rest is = cc
counted_by taken ignored total ended_with lines (Sample sample) rest is = omega (arith, rest (taken + 1) ignored (total + sample.weight) is)

counted : (lines : List (List ℕ)) (taken ignored total ended_with : ℕ) → (scan taken ignored total lines).ending ≡ ends.Clean ended_with → length (scan taken ignored total lines).samples + ended_with ≤ length lines + ignored
counted [] taken ignored total ended_with is = omega (arith, ap ignored_of is)
counted (line ∷ lines) taken ignored total ended_with is =
    omega (arith, counted_by taken ignored total ended_with lines (within_total total (read_line line)) (λ n i t. counted lines n i t ended_with) is)

tell : (samples many : ℕ) (ending : SourceEnd) → ((ignored : ℕ) → ending ≡ ends.Clean ignored → samples + ignored ≤ many) → many < 2 ^ 64 → IsTellable samples ending
tell samples many (ends.Clean zero) few short = λ some. absurd (some refl)
tell samples many (ends.Clean (suc ignored)) few short = λ some. omega (arith, few (suc ignored) refl)
tell samples many (ends.Fault fault) few short = tt
tell samples many (ends.Stopped after) few short = tt

tell_failed : (samples count : ℕ) (ending : SourceEnd) → IsTellable samples (ending_at_failure count ending)
tell_failed samples count (ends.Clean ignored) = tt
tell_failed samples count (ends.Fault fault) = tt
tell_failed samples count (ends.Stopped after) = tt

tell_strictly : (bytes : List ℕ) → length (text_lines bytes) < 2 ^ 64 → IsTellable (length (read_strictly bytes).samples) (read_strictly bytes).ending
tell_strictly bytes short = by (begins_compressed bytes)
  where
    lines : List (List ℕ)
    lines = up_to_ignored (text_lines bytes)

    by : (test : Bool) → IsTellable (length (cond test (cut_short [] Compressed) (read_after [] (map read_line lines))).samples) (cond test (cut_short [] Compressed) (read_after [] (map read_line lines))).ending
    by true = tt
    by false = subst (λ (rest : Rest). IsTellable (length rest.samples) rest.ending) (sym (read_after-all lines))
        (tell (length (scan 0 0 0 lines).samples) (length lines) (scan 0 0 0 lines).ending (λ ignored is. omega (arith, counted lines 0 0 0 ignored is)) (omega (arith, few_up_to_ignored (text_lines bytes))))

tell_coming : (bytes : List ℕ) (fails : Bool) → length (text_lines bytes) < 2 ^ 64
    → IsTellable (length (cond fails (at_failure (read_strictly bytes)) (read_strictly bytes)).samples) (cond fails (at_failure (read_strictly bytes)) (read_strictly bytes)).ending
tell_coming bytes true short = tell_failed (length (read_strictly bytes).samples) (length (read_strictly bytes).samples) (read_strictly bytes).ending
tell_coming bytes false short = tell_strictly bytes short

pub strict_tellable : (known : Option (List ℕ)) (is_sure : Bool) (rest : Rest) → StrictStreamGives known is_sure rest → IsTellable (length rest.samples) rest.ending
strict_tellable known is_sure rest gives =
    subst (λ (rest : Rest). IsTellable (length rest.samples) rest.ending) (sym gives.3) (tell_coming gives.0.bytes (gives.0.fails && not (has_ignored (text_lines gives.0.bytes))) gives.2)

pub strict_limits : (known : Option (List ℕ)) (is_sure : Bool) (rest : Rest) → StrictStreamGives known is_sure rest → IsSourceLimited rest.samples
strict_limits known is_sure rest gives =
    subst (λ (rest : Rest). IsSourceLimited rest.samples) (sym gives.3) (limits_by gives.0 (gives.0.fails && not (has_ignored (text_lines gives.0.bytes))))
