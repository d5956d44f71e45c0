-- A text reads as its parts do, where it is cut at line ends.
use Rattle.std.proofs.Common.{◌≡◌, ℕ, ◌+◌, ◌-◌, ◌≤◌, nat_lt, true, false, Bool, cond, Some, None, List, [], ◌∷◌, ◌++◌, length, map, append_assoc, slice_index, count_by, sum_by, All, refl, sym, ap, subst, ◌∙◌, arith, inl, inr, ⊎_elim}
use Rattle.std.specs.List.{flat_map, concat}
use Rattle.std.proofs.lemmas.Bool.{cond-false, le-ltb, ltb-false}
use Rattle.std.proofs.lemmas.List.{append-nil, map-append}
use Rattle.std.proofs.lemmas.List.Elements.{All-nil, All-cons, All-head, All-tail, All-append, All-weaker}
use Rattle.std.proofs.lemmas.List.Sums.{sum_by-append, sum_by-cons, sum_by_push}
use Rattle.bstr.specs.Text.{lines_of, without_terminator}
use Rattle.bstr.proofs.lemmas.LineLemmas.{EndsLine, lines-append, lines-nil}
use Rattle.sample_tables.specs.declared.samples.TheConstants.{WEIGHT_LIMIT}
use Rattle.sample_tables.specs.declared.samples.Sample.{Sample as StackSample}
use Rattle.stack_core.specs.Parts.{ignored_of}
use Rattle.stack_core.specs.declared.endings.ReadKind.TheVariants.{Compressed, TotalTooLarge}
use Rattle.stack_core.specs.declared.endings.SourceEnd.TheVariants as ends
use Rattle.folded_lines.specs.Line.{Line}
use Rattle.folded_lines.specs.Line.{Ignored, Fault, Sample}
use Rattle.folded_lines.specs.Lines.{text_lines, read_line}
use Rattle.folded_lines.specs.Reading.{samples_of, is_ignored, total_weight, fault_after, whole, cut_short, read_after, begins_compressed, read_folded}
use Rattle.folded_lines.specs.checked.Strictness.{lines_in}
use Rattle.folded_lines.specs.TextParts.{IsWholeLines, AreCutAtLines, IsFaultless, samples_of_parts, ReadsAsParts}
use Rattle.folded_lines.proofs.BackLemmas.{last-append}
use Rattle.folded_lines.proofs.LossyLemmas.{All-parts}
use Rattle.folded_lines.proofs.ReadLemmas.{after_fault, samples_of-append, samples_of-ignored}

-- ---- lines that are all read

abbrev pub IsFine : Line → Type 0
IsFine Ignored = Unit {0}
IsFine (Fault kind) = ⊥
IsFine (Sample sample) = Unit {0}

total_append : (xs ys : List Line) → total_weight (samples_of (xs ++ ys)) ≡ total_weight (samples_of xs) + total_weight (samples_of ys)
total_append xs ys = ap total_weight (samples_of-append xs ys) ∙ sum_by-append (λ (s : StackSample). s.weight) (samples_of xs) (samples_of ys)

no_fault : (before : List Line) (line : Line) (lines : List Line) → IsFine line → total_weight (samples_of (before ++ line ∷ lines)) ≤ WEIGHT_LIMIT → fault_after before line ≡ None
no_fault before Ignored lines fine fits = refl
no_fault before (Fault kind) lines fine fits = absurd fine
no_fault before (Sample sample) lines fine fits =
    cond-false _ _ _ (le-ltb WEIGHT_LIMIT (total_weight (samples_of before) + sample.weight)
    (omega (arith, fits, total_append before (Sample sample ∷ lines), sum_by-cons (λ (s : StackSample). s.weight) sample (samples_of lines))))

fine_read : (lines before : List Line) → All IsFine lines → total_weight (samples_of (before ++ lines)) ≤ WEIGHT_LIMIT → read_after before lines ≡ whole (before ++ lines)
fine_read [] before fine fits = ap whole (sym (append-nil before))
fine_read (line ∷ lines) before fine fits =
    let same : (before ++ line ∷ []) ++ lines ≡ before ++ line ∷ lines = append_assoc before (line ∷ []) lines in
    ap (after_fault before line lines) (no_fault before line lines (All-head IsFine line lines fine) fits)
    ∙ fine_read lines (before ++ line ∷ []) (All-tail IsFine line lines fine) (subst (λ all. total_weight (samples_of all) ≤ WEIGHT_LIMIT) (sym same) fits)
    ∙ ap whole same

-- lines that are all fine, and whose weights fit
abbrev AreRead : List Line → List Line → Type 0
AreRead before lines = All IsFine lines × (total_weight (samples_of (before ++ lines)) ≤ WEIGHT_LIMIT)

read_behind : (before : List Line) (line : Line) (lines : List Line) → IsFine line → AreRead (before ++ line ∷ []) lines → AreRead before (line ∷ lines)
read_behind before line lines fine rest =
    (All-cons IsFine line lines fine rest.0, subst (λ all. total_weight (samples_of all) ≤ WEIGHT_LIMIT) (append_assoc before (line ∷ []) lines) rest.1)

read_line_fine : (n : ℕ) (before : List Line) (line : Line) (lines : List Line) → total_weight (samples_of before) ≤ WEIGHT_LIMIT → (after_fault before line lines (fault_after before line)).ending ≡ ends.Clean n
    → ((b : List Line) → total_weight (samples_of b) ≤ WEIGHT_LIMIT → (read_after b lines).ending ≡ ends.Clean n → AreRead b lines) → AreRead before (line ∷ lines)
read_line_fine n before Ignored lines fits clean rest =
    read_behind before Ignored lines tt (rest (before ++ Ignored ∷ []) (omega (arith, ap total_weight (samples_of-ignored before))) clean)
read_line_fine n before (Fault kind) lines fits clean rest = cc
read_line_fine n before (Sample sample) lines fits clean rest = by (nat_lt WEIGHT_LIMIT (total_weight (samples_of before) + sample.weight)) refl clean
  where
    by : (t : Bool) → nat_lt WEIGHT_LIMIT (total_weight (samples_of before) + sample.weight) ≡ t
        → (after_fault before (Sample sample) lines (cond t (Some TotalTooLarge) None)).ending ≡ ends.Clean n → AreRead before (Sample sample ∷ lines)
    by true above clean = cc
    by false above clean =
        let sum = sum_by_push (λ (s : StackSample). s.weight) (samples_of before) sample in
        let front = ap total_weight (samples_of-append before (Sample sample ∷ [])) in
        read_behind before (Sample sample) lines tt (rest (before ++ Sample sample ∷ []) (omega (arith, front, sum, ltb-false WEIGHT_LIMIT (total_weight (samples_of before) + sample.weight) above)) clean)

read_fine : (n : ℕ) (lines before : List Line) → total_weight (samples_of before) ≤ WEIGHT_LIMIT → (read_after before lines).ending ≡ ends.Clean n → AreRead before lines
read_fine n [] before fits clean = (All-nil IsFine, omega (arith, fits, ap (λ all. total_weight (samples_of all)) (append-nil before)))
read_fine n (line ∷ lines) before fits clean = read_line_fine n before line lines fits clean (read_fine n lines)

-- ---- texts that are all read

pub record IsFineText (text : List ℕ) : Type 0 where
  pub plain : begins_compressed text ≡ false
  pub lines : All IsFine (lines_in text)
  pub total : total_weight (samples_of (lines_in text)) ≤ WEIGHT_LIMIT

pub fine_text : (text : List ℕ) → IsFineText text → read_folded text ≡ whole (lines_in text)
fine_text text fine = cond-false _ _ _ fine.plain ∙ fine_read (lines_in text) [] fine.lines fine.total

faultless_from : (text : List ℕ) → IsFineText text → IsFaultless text
faultless_from text fine = (count_by is_ignored (lines_in text), ap (λ rest. rest.ending) (fine_text text fine))

pub fine_from : (text : List ℕ) → IsFaultless text → IsFineText text
fine_from text faultless = by (begins_compressed text) refl faultless.1
  where
    by : (t : Bool) → begins_compressed text ≡ t → (cond t (cut_short [] Compressed) (read_after [] (lines_in text))).ending ≡ ends.Clean faultless.0 → IsFineText text
    by true is clean = cc
    by false is clean =
        let read = read_fine faultless.0 (lines_in text) [] (omega arith) clean in
        record { plain = is; lines = read.0; total = read.1 }

-- ---- two texts

pub ends_line : (text : List ℕ) → IsWholeLines text → EndsLine text
ends_line text = ⊎_elim (λ none. inl (ap length none)) (λ some. inr (subst (λ t. slice_index t (length t - 1) ≡ 10) (sym some.1) (last-append some.0 10 [])))

pub one_feed : (b : ℕ) → EndsLine (b ∷ []) → b ≡ 10
one_feed b = ⊎_elim (λ none. absurd (omega arith)) (λ feed. feed)

lines_two : (one other : List ℕ) → IsWholeLines one → lines_in (one ++ other) ≡ lines_in one ++ lines_in other
lines_two one other ends =
    ap (λ lines. map read_line (map without_terminator lines)) (lines-append (length one) one other (omega arith) (ends_line one ends))
    ∙ ap (map read_line) (map-append without_terminator (lines_of one) (lines_of other))
    ∙ map-append read_line (text_lines one) (text_lines other)

plain_two : (one other : List ℕ) → EndsLine one → begins_compressed one ≡ false → begins_compressed other ≡ false → begins_compressed (one ++ other) ≡ false
plain_two [] other ends here there = there
plain_two (b ∷ []) other ends here there = ap (λ x. begins_compressed (x ∷ other)) (one_feed b ends)
plain_two (b ∷ c ∷ one) other ends here there = here

plain_front : (one other : List ℕ) → EndsLine one → begins_compressed (one ++ other) ≡ false → begins_compressed one ≡ false
plain_front [] other ends both = refl
plain_front (b ∷ []) other ends both = ap (λ x. begins_compressed (x ∷ [])) (one_feed b ends)
plain_front (b ∷ c ∷ one) other ends both = both

-- ---- any number of texts

abbrev IsPlainFront : List ℕ → Type 0
IsPlainFront part = begins_compressed part ≡ false

pub lines_joined : (parts : List (List ℕ)) → AreCutAtLines parts → lines_in (concat parts) ≡ flat_map lines_in parts
lines_joined [] cut = ap (λ lines. map read_line (map without_terminator lines)) lines-nil
lines_joined (part ∷ []) cut = ap lines_in (append-nil part) ∙ sym (append-nil (lines_in part))
lines_joined (part ∷ next ∷ parts) cut =
    lines_two part (concat (next ∷ parts)) cut.0 ∙ ap (λ rest. lines_in part ++ rest) (lines_joined (next ∷ parts) cut.1)

plain_joined : (parts : List (List ℕ)) → AreCutAtLines parts → All IsPlainFront parts → begins_compressed (concat parts) ≡ false
plain_joined [] cut plain = refl
plain_joined (part ∷ []) cut plain = ap begins_compressed (append-nil part) ∙ All-head IsPlainFront part [] plain
plain_joined (part ∷ next ∷ parts) cut plain =
    plain_two part (concat (next ∷ parts)) (ends_line part cut.0) (All-head IsPlainFront part (next ∷ parts) plain)
    (plain_joined (next ∷ parts) cut.1 (All-tail IsPlainFront part (next ∷ parts) plain))

fine_joined : (parts : List (List ℕ)) → All IsFineText parts → All IsFine (flat_map lines_in parts)
fine_joined [] fine = All-nil IsFine
fine_joined (part ∷ parts) fine =
    All-append IsFine (lines_in part) (flat_map lines_in parts) (All-head IsFineText part parts fine).lines (fine_joined parts (All-tail IsFineText part parts fine))

samples_joined : (parts : List (List ℕ)) → All IsFineText parts → samples_of (flat_map lines_in parts) ≡ samples_of_parts parts
samples_joined [] fine = refl
samples_joined (part ∷ parts) fine =
    samples_of-append (lines_in part) (flat_map lines_in parts)
    ∙ (λ i. (sym (fine_text part (All-head IsFineText part parts fine)) i).samples ++ samples_joined parts (All-tail IsFineText part parts fine) i)

ignored_joined : (parts : List (List ℕ)) → All IsFineText parts → count_by is_ignored (flat_map lines_in parts) ≡ sum_by (λ part. ignored_of (read_folded part).ending) parts
ignored_joined [] fine = refl
ignored_joined (part ∷ parts) fine =
    sum_by-append (λ line. cond (is_ignored line) 1 0) (lines_in part) (flat_map lines_in parts)
    ∙ (λ i. ignored_of (sym (fine_text part (All-head IsFineText part parts fine)) i).ending + ignored_joined parts (All-tail IsFineText part parts fine) i)
    ∙ sym (sum_by-cons (λ p. ignored_of (read_folded p).ending) part parts)

reads_as_parts : (parts : List (List ℕ)) → AreCutAtLines parts → begins_compressed (concat parts) ≡ false → All IsFineText parts → total_weight (samples_of (flat_map lines_in parts)) ≤ WEIGHT_LIMIT → ReadsAsParts (concat parts) parts
reads_as_parts parts cut plain fine fits =
    let lines = lines_joined parts cut in
    let read : read_folded (concat parts) ≡ whole (flat_map lines_in parts) =
    cond-false _ _ _ plain ∙ ap (read_after []) lines ∙ fine_read (flat_map lines_in parts) [] (fine_joined parts fine) fits in
    record {
      each = All-weaker IsFineText IsFaultless faultless_from parts fine;
      samples = ap (λ rest. rest.samples) read ∙ samples_joined parts fine;
      ending = ap (λ rest. rest.ending) read ∙ ap ends.Clean (ignored_joined parts fine);
    }

pub faultless_parts : (parts : List (List ℕ)) → AreCutAtLines parts → All IsFaultless parts → total_weight (samples_of_parts parts) ≤ WEIGHT_LIMIT → ReadsAsParts (concat parts) parts
faultless_parts parts cut faultless fits =
    let fine = All-weaker IsFaultless IsFineText fine_from parts faultless in
    let plain = plain_joined parts cut (All-weaker IsFineText IsPlainFront (λ part here. here.plain) parts fine) in
    reads_as_parts parts cut plain fine (omega (arith, fits, ap total_weight (samples_joined parts fine)))

each_fine : (parts : List (List ℕ)) → All IsPlainFront parts → All IsFine (flat_map lines_in parts) → total_weight (samples_of (flat_map lines_in parts)) ≤ WEIGHT_LIMIT → All IsFineText parts
each_fine [] plain fine fits = All-nil IsFineText
each_fine (part ∷ parts) plain fine fits =
    let lines = All-parts IsFine (lines_in part) (flat_map lines_in parts) fine in
    let sum = total_append (lines_in part) (flat_map lines_in parts) in
    All-cons IsFineText part parts (record { plain = All-head IsPlainFront part parts plain; lines = lines.0; total = omega arith })
    (each_fine parts (All-tail IsPlainFront part parts plain) lines.1 (omega arith))

pub faultless_whole : (parts : List (List ℕ)) → AreCutAtLines parts → All (λ part. begins_compressed part ≡ false) parts → IsFaultless (concat parts) → ReadsAsParts (concat parts) parts
faultless_whole parts cut plain faultless =
    let fine = fine_from (concat parts) faultless in
    let lines = lines_joined parts cut in
    let all : All IsFine (flat_map lines_in parts) = subst (All IsFine) lines fine.lines in
    let fits : total_weight (samples_of (flat_map lines_in parts)) ≤ WEIGHT_LIMIT = subst (λ ls. total_weight (samples_of ls) ≤ WEIGHT_LIMIT) lines fine.total in
    reads_as_parts parts cut fine.plain (each_fine parts plain all fits) fits

pub faultless_two : (one other : List ℕ) → IsWholeLines one → begins_compressed other ≡ false → IsFaultless (one ++ other) → ReadsAsParts (one ++ other) (one ∷ other ∷ [])
faultless_two one other ends plain faultless =
    let same : one ++ other ≡ concat (one ∷ other ∷ []) = ap (λ rest. one ++ rest) (sym (append-nil other)) in
    let here = plain_front one other (ends_line one ends) (fine_from (one ++ other) faultless).plain in
    subst (λ text. ReadsAsParts text (one ∷ other ∷ [])) (sym same)
    (faultless_whole (one ∷ other ∷ []) (ends, tt) (All-cons IsPlainFront one (other ∷ []) here (All-cons IsPlainFront other [] plain (All-nil IsPlainFront))) (subst IsFaultless same faultless))
