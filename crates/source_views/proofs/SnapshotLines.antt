-- The lines of snapshots one after another, as the samples come.
use Rattle.std.proofs.Common.{◌≡◌, ◌∙◌, ◌+◌, ◌-◌, ◌*◌, ◌<◌, ◌≤◌, ◌++◌, ◌∷◌, [], ℕ, suc, zero, List, append-nil, append_assoc, ap, arith, cond, get_or, length, refl, replicate, set, sym, subst, take, drop, take-append-drop, map}
use Rattle.std.proofs.Math.Nat.{zero-div}
use Rattle.std.proofs.Math.Seq.{take-append_seam}
use Rattle.std.proofs.KnownBytes.{Appends-nil, Appends-trans}
use Rattle.std.proofs.lemmas.Grind.{flat_map-append}
use Rattle.std.proofs.lemmas.List.{ext_get_or, length-replicate, length-set, take_more}
use Rattle.std.proofs.lemmas.List.FromFn.{get_or-map-range_with_len, length-map-range_with_len}
use Rattle.std.specs.Io.KnownBytes.{Appends}
use Rattle.std.specs.List.{flat_map, range_with_len}
use Rattle.std.specs.Prelude.{Bool, true, false, Option, Some}
use Rattle.byte_io.specs.Pieces.{AppendsFront}
use Rattle.flame_layout.specs.Graph.{graph_of}
use Rattle.flame_layout.specs.Paths.{SameOwn}
use Rattle.flame_layout.specs.declared.boxes.SpanBox.{SpanBox}
use Rattle.flame_layout.proofs.MergedSums.{merged_own}
use Rattle.merged_stacks.proofs.KeptStacks.{zero_at}
use Rattle.merged_stacks.specs.Merged.{merged_samples}
use Rattle.merged_stacks.specs.Timeline.{total_weight}
use Rattle.view_texts.specs.Json.{snapshot_line}
use Rattle.sample_tables.specs.declared.samples.Sample.{Sample}
use Rattle.stack_core.specs.Interleaving.{IsInterleaving, count_of, counts_at, list_of}
use Rattle.merged_stacks.specs.Fronts.{GrowingState, fronts}
use Rattle.merging.specs.Snapshots.{first_lists, snapshot_places}
use Rattle.merging.specs.Sums.{all_samples}
use Rattle.merging.specs.checked.Merging.{is_due}
use Rattle.merging.proofs.SnapshotLemmas.{places-push}
use Rattle.source_lists.proofs.OrderLemmas.{counted_more, next_within}
use Rattle.source_views.proofs.TextLemmas.{same_weight}
use Rattle.source_views.specs.Texts.{all_counts, snapshot_line_at, snapshot_lines}
use Rattle.source_views.specs.checked.Moments.{due_line, moment_line}

-- ---- the counts and the fronts of a moment

-- how many samples of each list came: those of the first m of the order
pub record AreCounted (counts : List ℕ) (m : ℕ) (order : List ℕ) (lists : List (List Sample)) : Type 0 where
  pub count : length counts ≡ length lists
  pub each : (source : ℕ) → source < length lists → get_or counts source 0 ≡ counts_at m order source

-- before any came
pub none_counted : (counts : List ℕ) (lists : List (List Sample)) (order : List ℕ) → counts ≡ replicate (length lists) 0 → AreCounted counts 0 order lists
none_counted counts lists order is = record { count = ap length is ∙ length-replicate (length lists) 0; each = λ source below. ap (λ all. get_or all source 0) is ∙ zero_at (length lists) source }

-- the next sample of an order, as it is lent, stands in its list
pub next_lent : (order lent : List ℕ) (m : ℕ) (lists : List (List Sample)) → IsInterleaving order lists → lent ≡ order → m < length lent
    → (get_or lent m 0 < length lists) × (count_of (get_or lent m 0) (take m order) < length (list_of lists (get_or lent m 0)))
next_lent order lent m lists ordered same within =
    next_within order lists m (get_or lent m 0) ordered (omega (arith, within, ap length same)) (ap (λ (all : List ℕ). get_or all m 0) same)

-- one sample more came
pub counted_next : (counts new : List ℕ) (m : ℕ) (order lent : List ℕ) (lists : List (List Sample)) → IsInterleaving order lists → lent ≡ order → m < length lent
    → new ≡ set counts (get_or lent m 0) (get_or counts (get_or lent m 0) 0 + 1) → AreCounted counts m order lists → AreCounted new (m + 1) order lists
counted_next counts new m order lent lists ordered same within more h = record {
  count = ap length more ∙ length-set counts source (get_or counts source 0 + 1) ∙ h.count;
  each = λ other below_lists.
      ap (λ all. get_or all other 0) more
      ∙ counted_more (take m order) counts source (get_or counts source 0 + 1) (omega (arith, below, h.count)) here (ap (λ n. n + 1) here) other (h.each other below_lists)
      ∙ ap (λ all. count_of other (take m order ++ get_or all m 0 ∷ [])) same ∙ ap (count_of other) (sym (take_more order m 0 (omega (arith, within, ap length same))));
}
  where
    source : ℕ
    source = get_or lent m 0

    below : source < length lists
    below = (next_lent order lent m lists ordered same within).0

    here : get_or counts source 0 ≡ count_of source (take m order)
    here = h.each source below

counted_all : (counts : List ℕ) (m : ℕ) (order : List ℕ) (lists : List (List Sample)) → AreCounted counts m order lists → counts ≡ all_counts m order lists
counted_all counts m order lists h =
    ext_get_or 0 counts (all_counts m order lists) (h.count ∙ sym (length-map-range_with_len (counts_at m order) 0 (length lists))) (λ i below.
    let within : i < length lists = omega (arith, below, h.count) in
    h.each i within ∙ sym (get_or-map-range_with_len (counts_at m order) 0 (length lists) i i 0 within (omega arith)))

fronts_length : (lists : List (List Sample)) (counts : List ℕ) → length counts ≡ length lists → length (fronts lists counts) ≡ length lists
fronts_length [] counts e = refl
fronts_length (samples ∷ lists) [] e = absurd (omega arith)
fronts_length (samples ∷ lists) (count ∷ counts) e = let rest = fronts_length lists counts (omega arith) in omega (arith, rest)

front_at : (lists : List (List Sample)) (counts : List ℕ) (i : ℕ) → length counts ≡ length lists → i < length lists → get_or (fronts lists counts) i [] ≡ take (get_or counts i 0) (get_or lists i [])
front_at [] counts i e within = absurd (omega arith)
front_at (samples ∷ lists) [] i e within = absurd (omega arith)
front_at (samples ∷ lists) (count ∷ counts) zero e within = refl
front_at (samples ∷ lists) (count ∷ counts) (suc i) e within = front_at lists counts i (omega arith) (omega arith)

fronts_first : (counts : List ℕ) (m : ℕ) (order : List ℕ) (lists : List (List Sample)) → AreCounted counts m order lists → fronts lists counts ≡ first_lists m order lists
fronts_first counts m order lists h =
    let long = fronts_length lists counts h.count in
    ext_get_or [] (fronts lists counts) (first_lists m order lists) (long ∙ sym (length-map-range_with_len (λ source. take (counts_at m order source) (list_of lists source)) 0 (length lists))) (λ i below.
    let within : i < length lists = omega (arith, below, long) in
    front_at lists counts i h.count within ∙ ap (λ n. take n (get_or lists i [])) (h.each i within)
    ∙ sym (get_or-map-range_with_len (λ source. take (counts_at m order source) (list_of lists source)) 0 (length lists) i i [] within (omega arith)))

-- the line of what came so far is that of the snapshot at its moment
pub moment_is_snapshot : (width m : ℕ) (growing : GrowingState) (order : List ℕ) (lists : List (List Sample)) → growing.lists ≡ lists → AreCounted growing.counts m order lists
    → moment_line width m growing ≡ snapshot_line_at width order lists m
moment_is_snapshot width m growing order lists same counted =
    let came : fronts growing.lists growing.counts ≡ first_lists m order lists = ap (λ all. fronts all growing.counts) same ∙ fronts_first growing.counts m order lists counted in
    λ i. line (counted_all growing.counts m order lists counted i) (came i)
  where
    line : List ℕ → List (List Sample) → List ℕ
    line counts firsts = snapshot_line m counts (total_weight (all_samples firsts)) width (graph_of (all_samples firsts))

-- the parts of the line of what came so far
pub moment_text : (width at total : ℕ) (growing : GrowingState) (counts : List ℕ) (stacks : List Sample) (boxes : List SpanBox) → stacks ≡ merged_samples (all_samples (fronts growing.lists growing.counts))
    → counts ≡ growing.counts → total ≡ total_weight stacks → ((samples : List Sample) → SameOwn samples stacks → boxes ≡ graph_of samples) → snapshot_line at counts total width boxes ≡ moment_line width at growing
moment_text width at total growing counts stacks boxes merged counted weighed drawn =
    let samples = all_samples (fronts growing.lists growing.counts) in
    let own = subst (λ (all : List Sample). SameOwn samples all) (sym merged) (merged_own samples) in
    let weight = weighed ∙ sym (same_weight samples stacks own) in
    let boxed = drawn samples own in
    λ i. snapshot_line at (counted i) (weight i) width (boxed i)

-- a moment is that of its lists and counts
pub same_due : (width every at : ℕ) (one other : GrowingState) → one.lists ≡ other.lists → one.counts ≡ other.counts → due_line width every at one ≡ due_line width every at other
same_due width every at one other lists counts i =
    let came = all_samples (fronts (lists i) (counts i)) in
    cond (is_due (Some every) at) (snapshot_line at (counts i) (total_weight came) width (graph_of came)) []

-- ---- the lines so far

-- the lines of the snapshots of the first n samples
abbrev pub lines_upto : ℕ → ℕ → List (List Sample) → List ℕ → ℕ → List ℕ
lines_upto width every lists order n = snapshot_lines width lists order (snapshot_places (Some every) n)

pub no_lines : (width every : ℕ) (lists : List (List Sample)) (order : List ℕ) → lines_upto width every lists order 0 ≡ []
no_lines width every lists order = ap (λ n. flat_map (snapshot_line_at width order lists) (map (λ k. k * every) (range_with_len 1 n))) (zero-div every)

due_is_snapshot : (width every m : ℕ) (growing : GrowingState) (order : List ℕ) (lists : List (List Sample)) (due : Bool) → moment_line width m growing ≡ snapshot_line_at width order lists m
    → cond due (moment_line width m growing) [] ≡ flat_map (snapshot_line_at width order lists) (cond due (m ∷ []) [])
due_is_snapshot width every m growing order lists true same = same ∙ sym (append-nil (snapshot_line_at width order lists m))
due_is_snapshot width every m growing order lists false same = refl

later_line : (width every n : ℕ) (lists : List (List Sample)) (order : List ℕ) → 1 ≤ every
    → lines_upto width every lists order (n + 1) ≡ lines_upto width every lists order n ++ flat_map (snapshot_line_at width order lists) (cond (is_due (Some every) (n + 1)) ((n + 1) ∷ []) [])
later_line width every n lists order some =
    ap (flat_map (snapshot_line_at width order lists)) (places-push (Some every) n some)
    ∙ flat_map-append (snapshot_line_at width order lists) (snapshot_places (Some every) n) (cond (is_due (Some every) (n + 1)) ((n + 1) ∷ []) [])

-- one sample more, and the line that is due then
pub lines_more : (width every n m : ℕ) (growing : GrowingState) (lists : List (List Sample)) (order : List ℕ) → 1 ≤ every → m ≡ n + 1 → growing.lists ≡ lists → AreCounted growing.counts (n + 1) order lists
    → lines_upto width every lists order n ++ due_line width every m growing ≡ lines_upto width every lists order (n + 1)
lines_more width every n m growing lists order some next same counted =
    let line = due_is_snapshot width every (n + 1) growing order lists (is_due (Some every) (n + 1)) (moment_is_snapshot width (n + 1) growing order lists same counted) in
    ap (λ k. lines_upto width every lists order n ++ due_line width every k growing) next
    ∙ ap (λ text. lines_upto width every lists order n ++ text) line ∙ sym (later_line width every n lists order some)

-- the lines so far are a front of those of more samples
lines_before : (width every n more : ℕ) (lists : List (List Sample)) (order : List ℕ) → 1 ≤ every
    → (rest : List ℕ) × (lines_upto width every lists order (n + more) ≡ lines_upto width every lists order n ++ rest)
lines_before width every n zero lists order some = ([], ap (lines_upto width every lists order) (omega arith) ∙ sym (append-nil (lines_upto width every lists order n)))
lines_before width every n (suc more) lists order some =
    let before = lines_before width every n more lists order some in
    let line = flat_map (snapshot_line_at width order lists) (cond (is_due (Some every) (n + more + 1)) ((n + more + 1) ∷ []) []) in (
      before.0 ++ line,
      ap (lines_upto width every lists order) (omega arith) ∙ later_line width every (n + more) lists order some ∙ ap (λ text. text ++ line) before.1 ∙ append_assoc (lines_upto width every lists order n) before.0 line,
    )

-- ---- what went out

-- a front of a text is one of a longer text
pub front_more : (text more : List ℕ) (old new : Option (List ℕ)) → AppendsFront text old new → AppendsFront (text ++ more) old new
front_more text more old new gone =
    let part = take gone.0 text in
    let whole : text ++ more ≡ part ++ (drop gone.0 text ++ more) = ap (λ all. all ++ more) (sym (take-append-drop gone.0 text)) ∙ append_assoc part (drop gone.0 text) more in
    (length part, subst (Appends old new) (sym (ap (take (length part)) whole ∙ take-append_seam part (drop gone.0 text ++ more))) gone.1)

-- a text and a front of another
pub front_after : (text other : List ℕ) (old mid new : Option (List ℕ)) → Appends old mid text → AppendsFront other mid new → AppendsFront (text ++ other) old new
front_after text other old mid new sent gone =
    let part = text ++ take gone.0 other in
    let whole : text ++ other ≡ part ++ drop gone.0 other = ap (λ all. text ++ all) (sym (take-append-drop gone.0 other)) ∙ sym (append_assoc text (take gone.0 other) (drop gone.0 other)) in
    (length part, subst (Appends old new) (sym (ap (take (length part)) whole ∙ take-append_seam part (drop gone.0 other))) (Appends-trans old mid new text (take gone.0 other) sent gone.1))

-- where nothing went out
pub front_of_nothing : (text : List ℕ) (out : Option (List ℕ)) → AppendsFront text out out
front_of_nothing text out = (0, Appends-nil out)

-- the lines so far, and a front of the one that is due, are a front of all lines
pub lines_front : (width every n m end : ℕ) (growing : GrowingState) (lists : List (List Sample)) (order : List ℕ) (old mid new : Option (List ℕ)) → 1 ≤ every → m ≡ n + 1 → n < end → growing.lists ≡ lists
    → AreCounted growing.counts (n + 1) order lists → Appends old mid (lines_upto width every lists order n) → AppendsFront (due_line width every m growing) mid new → AppendsFront (lines_upto width every lists order end) old new
lines_front width every n m end growing lists order old mid new some next within same counted sent gone =
    let later = lines_before width every (n + 1) (end - (n + 1)) lists order some in
    let whole : lines_upto width every lists order end ≡ (lines_upto width every lists order n ++ due_line width every m growing) ++ later.0 =
    ap (lines_upto width every lists order) (omega arith) ∙ later.1 ∙ ap (λ text. text ++ later.0) (sym (lines_more width every n m growing lists order some next same counted)) in
    subst (λ text. AppendsFront text old new) (sym whole)
    (front_more (lines_upto width every lists order n ++ due_line width every m growing) later.0 old new (front_after (lines_upto width every lists order n) (due_line width every m growing) old mid new sent gone))
