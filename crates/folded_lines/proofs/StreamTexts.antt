-- What a stream of folded text may give, where its bytes are known.
use Rattle.std.proofs.Common.{◌≡◌, ◌≢◌, ◌⊎◌, ◌<◌, ◌≤◌, ◌^◌, ℕ, ◌+◌, Bool, true, false, Option, Some, None, IfSome, IsSomeAnd, List, [], ◌∷◌, ◌++◌, length, map, refl, sym, ap, subst, ◌∙◌, arith, inl, inr}
use Rattle.std.proofs.lemmas.Bool.{cond-true, cond-false}
use Rattle.std.proofs.lemmas.List.{append-nil, map-append, length-map}
use Rattle.bstr.specs.Text.{lines_of, without_terminator}
use Rattle.bstr.proofs.lemmas.LineLemmas.{EndsLine, lines-append, lines-nil}
use Rattle.stack_core.specs.Prefixes.{IsPrefixOf}
use Rattle.stack_core.specs.Reading.{IsSourceLimited, Rest}
use Rattle.stack_core.specs.RowReading.{GivesSome}
use Rattle.stack_core.specs.declared.endings.ReadKind.TheVariants.{Compressed}
use Rattle.stack_core.specs.declared.endings.ReadFault.{ReadFault}
use Rattle.stack_core.specs.declared.endings.SourceEnd.{SourceEnd}
use Rattle.stack_core.specs.declared.endings.SourceEnd.TheVariants as ends
use Rattle.sample_tables.specs.declared.samples.Sample.{Sample as StackSample}
use Rattle.folded_lines.specs.Line.{Line}
use Rattle.folded_lines.specs.Line.{Ignored, Fault, Sample}
use Rattle.folded_lines.specs.Lines.{text_lines, read_line}
use Rattle.folded_lines.specs.Reading.{cut_short, read_after, begins_compressed, read_folded}
use Rattle.folded_lines.specs.Streams.{Coming, IsCountable, MayCome, StreamGives, ending_at_failure, read_coming}
use Rattle.folded_lines.specs.TextParts.{IsWholeLines}
use Rattle.folded_lines.specs.checked.Scanning.{ended, followed_by, scan, within_total}
use Rattle.folded_lines.proofs.LimitLemmas.{lines_short}
use Rattle.folded_lines.proofs.PartReading.{ends_line, one_feed}
use Rattle.folded_lines.proofs.ReadLemmas.{IsSourceLimited-read_folded, read_after-all}
use Rattle.folded_lines.proofs.ScanLemmas.{scan_line}

-- ---- the front of a text

-- what reads so is the front of what reads otherwise, and all of it where a fault ends it
pub record IsFront (front all : Rest) : Type 0 where
  pub samples : IsPrefixOf front.samples all.samples
  pub fault : (fault : ReadFault) → front.ending ≡ ends.Fault fault → all ≡ front

pub front_same : (rest : Rest) → IsFront rest rest
front_same rest = record { samples = ([], append-nil rest.samples); fault = λ fault is. refl }

front_by : (taken ignored total : ℕ) (lines more : List (List ℕ)) (read : Line) → ((n i t : ℕ) → IsFront (scan n i t lines) (scan n i t (lines ++ more)))
    → IsFront (scan_line taken ignored total lines read) (scan_line taken ignored total (lines ++ more) read)
front_by taken ignored total lines more Ignored rest = rest (taken + 1) (ignored + 1) total
front_by taken ignored total lines more (Fault kind) rest = front_same _
front_by taken ignored total lines more (Sample sample) rest =
    let later = rest (taken + 1) ignored (total + sample.weight) in
    record {
      samples = (later.samples.0, ap (λ samples. sample ∷ samples) later.samples.1);
      fault = λ fault is. ap (followed_by sample) (later.fault fault is);
    }

pub scan_front : (lines more : List (List ℕ)) (taken ignored total : ℕ) → IsFront (scan taken ignored total lines) (scan taken ignored total (lines ++ more))
scan_front [] more taken ignored total = record { samples = (_, refl); fault = λ fault is. cc }
scan_front (line ∷ lines) more taken ignored total = front_by taken ignored total lines more (within_total total (read_line line)) (scan_front lines more)

pub text_lines-two : (one other : List ℕ) → IsWholeLines one → text_lines (one ++ other) ≡ text_lines one ++ text_lines other
text_lines-two one other whole =
    ap (map without_terminator) (lines-append (length one) one other (omega arith) (ends_line one whole)) ∙ map-append without_terminator (lines_of one) (lines_of other)

-- what reads as lines
plain_reads : (text : List ℕ) → begins_compressed text ≡ false → read_folded text ≡ scan 0 0 0 (text_lines text)
plain_reads text plain = cond-false _ _ _ plain ∙ read_after-all (text_lines text)

plain_front : (one other : List ℕ) → IsWholeLines one → begins_compressed one ≡ false → begins_compressed (one ++ other) ≡ false → IsFront (read_folded one) (read_folded (one ++ other))
plain_front one other whole here both =
    let lines : IsFront (scan 0 0 0 (text_lines one)) (scan 0 0 0 (text_lines (one ++ other))) =
    subst (λ all. IsFront (scan 0 0 0 (text_lines one)) (scan 0 0 0 all)) (sym (text_lines-two one other whole)) (scan_front (text_lines one) (text_lines other) 0 0 0) in
    subst (λ front. IsFront front (read_folded (one ++ other))) (sym (plain_reads one here))
    (subst (IsFront (scan 0 0 0 (text_lines one))) (sym (plain_reads (one ++ other) both)) lines)

-- no line reads as nothing
nothing_reads : read_folded [] ≡ ended (ends.Clean 0)
nothing_reads = ap (λ lines. read_after [] (map read_line (map without_terminator lines))) lines-nil

pub nothing_front : (all front : Rest) → front ≡ ended (ends.Clean 0) → IsFront front all
nothing_front all front is =
    subst (λ front. IsFront front all) (sym is) (record { samples = (all.samples, refl); fault = λ fault is. cc })

front_ends : (one other : List ℕ) → IsWholeLines one → EndsLine one → IsFront (read_folded one) (read_folded (one ++ other))
front_ends [] other whole ends = nothing_front (read_folded other) (read_folded []) nothing_reads
front_ends (b ∷ []) other whole ends =
    plain_front (b ∷ []) other whole (ap (λ x. begins_compressed (x ∷ [])) (one_feed b ends)) (ap (λ x. begins_compressed (x ∷ other)) (one_feed b ends))
front_ends (b ∷ c ∷ one) other whole ends = by (begins_compressed (b ∷ c ∷ one)) refl
  where
    by : (compressed : Bool) → begins_compressed (b ∷ c ∷ one) ≡ compressed → IsFront (read_folded (b ∷ c ∷ one)) (read_folded (b ∷ c ∷ (one ++ other)))
    by true is =
        subst (λ front. IsFront front (read_folded (b ∷ c ∷ (one ++ other)))) (sym (cond-true _ _ _ is))
        (subst (IsFront (cut_short [] Compressed)) (sym (cond-true _ _ _ is)) (front_same (cut_short [] Compressed)))
    by false is = plain_front (b ∷ c ∷ one) other whole is is

pub front_reads : (one other : List ℕ) → IsWholeLines one → IsFront (read_folded one) (read_folded (one ++ other))
front_reads one other whole = front_ends one other whole (ends_line one whole)

-- ---- streams

-- where no read failed, all of the bytes came
came_whole : (known bytes : List ℕ) (is_sure : Bool) → MayCome (Some known) is_sure [] (record { bytes = bytes; fails = false }) → bytes ≡ known
came_whole known bytes is_sure may = may.whole refl ∙ may.of_known

-- where a read failed, the front of them
came_front : (known bytes : List ℕ) (is_sure : Bool) → MayCome (Some known) is_sure [] (record { bytes = bytes; fails = true }) → IsFront (read_folded bytes) (read_folded known)
came_front known bytes is_sure may =
    let front = may.failing refl in
    subst (λ text. IsFront (read_folded bytes) (read_folded text)) (front.2.1 ∙ may.of_known) (front_reads bytes front.2.0 front.1)

-- a read may fail at once
abbrev pub none_later : (known : Option (List ℕ)) → (later : List ℕ) × IfSome known (λ known. later ≡ known)
none_later None = ([], tt)
none_later (Some known) = (known, refl)

pub fails_at_once : (known : Option (List ℕ)) (unread : List ℕ) → MayCome known false unread (record { bytes = []; fails = true })
fails_at_once known unread =
    let later = none_later known in
    record { later = later.0; of_known = later.1; whole = λ fails. cc; failing = λ fails. (refl, inl refl, (unread ++ later.0, refl)) }

-- and where none fails, all of the bytes may come
abbrev pub all_coming : Option (List ℕ) → List ℕ → Coming
all_coming known unread = record { bytes = unread ++ (none_later known).0; fails = false }

pub comes_whole : (known : Option (List ℕ)) (is_sure : Bool) (unread : List ℕ) → MayCome known is_sure unread (all_coming known unread)
comes_whole known is_sure unread =
    let later = none_later known in
    record { later = later.0; of_known = later.1; whole = λ fails. refl; failing = λ fails. cc }

pub few_lines : (bytes : List ℕ) → length (text_lines bytes) ≤ length bytes
few_lines bytes = omega (arith, length-map (lines_of bytes) without_terminator, lines_short (length bytes) bytes (omega arith))

given : (known : Option (List ℕ)) (is_sure : Bool) (coming : Coming) → MayCome known is_sure [] coming → IsCountable coming → GivesSome (StreamGives known is_sure)
given known is_sure coming may few = record { rest = read_coming coming; is_given = (coming, may, few, refl) }

-- there is something that may come, and its lines can be counted
pub stream_possible : (known : Option (List ℕ)) (is_sure : Bool) → (is_sure ≡ true → IsSomeAnd known (λ bytes. length bytes < 2 ^ 64)) → GivesSome (StreamGives known is_sure)
stream_possible known false short = given known false (record { bytes = []; fails = true }) (fails_at_once known []) (omega (arith, few_lines []))
stream_possible None true short = absurd (short refl)
stream_possible (Some known) true short =
    given (Some known) true (all_coming (Some known) []) (comes_whole (Some known) true []) (omega (arith, few_lines known, short refl))

sure_by : (known bytes : List ℕ) (fails : Bool) (rest : Rest) → MayCome (Some known) true [] (record { bytes = bytes; fails = fails }) → rest ≡ read_coming (record { bytes = bytes; fails = fails }) → rest ≡ read_folded known
sure_by known bytes false rest may is = is ∙ ap read_folded (came_whole known bytes true may)
sure_by known bytes true rest may is = let sure : true ≡ false = (may.failing refl).0 in cc

pub stream_sure : (known : List ℕ) (rest : Rest) → StreamGives (Some known) true rest → rest ≡ read_folded known
stream_sure known rest gives = sure_by known gives.0.bytes gives.0.fails rest gives.1 gives.3

-- an ending that is no Stopped stays where a read fails
pub ends_by : (samples : List StackSample) (ending : SourceEnd) (rest all : Rest) → rest ≡ record { samples = samples; ending = ending_at_failure (length samples) ending }
    → ((after : ℕ) → rest.ending ≢ ends.Stopped after) → IsFront (record { samples = samples; ending = ending }) all → rest ≡ all
ends_by samples (ends.Clean ignored) rest all is unstopped front = absurd (unstopped (length samples) (ap (λ rest. rest.ending) is))
ends_by samples (ends.Fault fault) rest all is unstopped front = is ∙ sym (front.fault fault refl)
ends_by samples (ends.Stopped after) rest all is unstopped front = absurd (unstopped after (ap (λ rest. rest.ending) is))

whole_by : (known bytes : List ℕ) (is_sure fails : Bool) (rest : Rest) → MayCome (Some known) is_sure [] (record { bytes = bytes; fails = fails })
    → rest ≡ read_coming (record { bytes = bytes; fails = fails }) → ((after : ℕ) → rest.ending ≢ ends.Stopped after) → rest ≡ read_folded known
whole_by known bytes is_sure false rest may is unstopped = is ∙ ap read_folded (came_whole known bytes is_sure may)
whole_by known bytes is_sure true rest may is unstopped =
    ends_by (read_folded bytes).samples (read_folded bytes).ending rest (read_folded known) is unstopped (came_front known bytes is_sure may)

pub stream_whole : (known : List ℕ) (is_sure : Bool) (rest : Rest) → StreamGives (Some known) is_sure rest → ((after : ℕ) → rest.ending ≢ ends.Stopped after) → rest ≡ read_folded known
stream_whole known is_sure rest gives unstopped = whole_by known gives.0.bytes is_sure gives.0.fails rest gives.1 gives.3 unstopped

first_by : (known bytes : List ℕ) (is_sure fails : Bool) (rest : Rest) → MayCome (Some known) is_sure [] (record { bytes = bytes; fails = fails })
    → rest ≡ read_coming (record { bytes = bytes; fails = fails }) → IsPrefixOf rest.samples (read_folded known).samples
first_by known bytes is_sure false rest may is = ([], append-nil rest.samples ∙ ap (λ rest. rest.samples) (is ∙ ap read_folded (came_whole known bytes is_sure may)))
first_by known bytes is_sure true rest may is =
    subst (λ (rest : Rest). IsPrefixOf rest.samples (read_folded known).samples) (sym is) (came_front known bytes is_sure may).samples

pub stream_first : (known : List ℕ) (is_sure : Bool) (rest : Rest) → StreamGives (Some known) is_sure rest → IsPrefixOf rest.samples (read_folded known).samples
stream_first known is_sure rest gives = first_by known gives.0.bytes is_sure gives.0.fails rest gives.1 gives.3

-- the samples are within the limits of a source, whatever comes
limits_by : (coming : Coming) (fails : Bool) → coming.fails ≡ fails → IsSourceLimited (read_coming coming).samples
limits_by coming true is = subst (λ (rest : Rest). IsSourceLimited rest.samples) (sym (cond-true _ _ _ is)) (IsSourceLimited-read_folded coming.bytes)
limits_by coming false is = subst (λ (rest : Rest). IsSourceLimited rest.samples) (sym (cond-false _ _ _ is)) (IsSourceLimited-read_folded coming.bytes)

pub stream_limits : (known : Option (List ℕ)) (is_sure : Bool) (rest : Rest) → StreamGives known is_sure rest → IsSourceLimited rest.samples
stream_limits known is_sure rest gives =
    subst (λ (rest : Rest). IsSourceLimited rest.samples) (sym gives.3) (limits_by gives.0 gives.0.fails refl)

-- where a read failed it ends so, and otherwise it is what the known bytes read as
pub stream_or_stopped : (known : List ℕ) (is_sure : Bool) (rest : Rest) → StreamGives (Some known) is_sure rest → ((after : ℕ) × (rest.ending ≡ ends.Stopped after)) ⊎ (rest ≡ read_folded known)
stream_or_stopped known is_sure rest gives = by rest.ending refl
  where
    by : (ending : SourceEnd) → rest.ending ≡ ending → ((after : ℕ) × (rest.ending ≡ ends.Stopped after)) ⊎ (rest ≡ read_folded known)
    by (ends.Clean ignored) is = inr (stream_whole known is_sure rest gives (λ after stopped. cc))
    by (ends.Fault fault) is = inr (stream_whole known is_sure rest gives (λ after stopped. cc))
    by (ends.Stopped after) is = inl (after, is)
