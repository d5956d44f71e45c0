-- Rows of ranks: as they are taken, sorted and joined.
use Rattle.std.proofs.Common.{◌≡◌, ℕ, ◌+◌, ◌-◌, ◌<◌, ◌≤◌, List, [], ◌∷◌, ◌++◌, Bool, true, false, cond, nat_eq, length, get_or, set, map, zero, drop, reverse, sum_by, refl, sym, ap, subst, ◌∙◌, arith, length-append, length-drop, is_lt, suc, add-one}
use Rattle.std.specs.Prelude.{Some}
use Rattle.std.specs.List.{slice_range}
use Rattle.std.specs.Ordering.{nat_cmp, ordering_then}
use Rattle.std.specs.Cmp.Lexicographic.{slice_cmp, pointwise}
use Rattle.std.specs.declared.cmp.Ordering.{Ordering}
use Rattle.std.specs.declared.cmp.Ordering.TheVariants.{Less, Equal, Greater}
use Rattle.std.proofs.lemmas.List.{drop-append-le, take-append-le, map-append, reverse-append, map_push, drop_more, get_or-map, length-map}
use Rattle.std.proofs.lemmas.List.Elements.{All-head, All-tail, All-pop, All-push, All-same}
use Rattle.std.proofs.lemmas.List.Sums.{sum_by-cons, sum_by-drop_more, sum_by-take-drop}
use Rattle.std.proofs.lemmas.List.Sorted.{IsPermutation-reverse, sum_by-IsPermutation}
use Rattle.std.proofs.lemmas.Grind.{common_steps}
use Rattle.std.proofs.Math.Seq.{drop-append_seam}
use Rattle.ranked_rows.specs.declared.rows.RankedRow.{RankedRow}
use Rattle.ranked_rows.specs.Gathering.{with_more}
use Rattle.ranked_rows.specs.Joined.{Ranked, join_front, joined, AreAscending}
use Rattle.ranked_rows.specs.checked.Entries.{ranked_row, ranked_rows, AreWithin, Entry, ranked_entry}

-- ---- rows are taken

slice-append : (frames more : List ℕ) (a b : ℕ) → a ≤ b → b ≤ length frames → slice_range (frames ++ more) a b ≡ slice_range frames a b
slice-append frames more a b ab bn =
    let an : a ≤ length frames = omega arith in
    let room : b - a ≤ length (drop a frames) = omega (arith, length-drop a frames) in
    rw drop-append-le (rw take-append-le refl)

slice-seam : (frames more : List ℕ) (b : ℕ) → b ≡ length frames + length more → slice_range (frames ++ more) (length frames) b ≡ more
slice-seam frames more b e = rw drop-append_seam (grind (arith, common_steps))

-- ranks that come after leave the rows as they are
rows-append : (frames more : List ℕ) (rows : List RankedRow) → AreWithin frames rows → ranked_rows (frames ++ more) rows ≡ ranked_rows frames rows
rows-append frames more [] h = refl
rows-append frames more (row ∷ rows) h =
    let P = λ (row : RankedRow). (row.start ≤ row.end) × (row.end ≤ length frames) in
    let here = All-head P row rows h in
    (λ i. (slice-append frames more row.start row.end here.0 here.1 i, row.weight) ∷ rows-append frames more rows (All-tail P row rows h) i)

pub row_taken : (frames more now : List ℕ) (rows all : List RankedRow) (start end weight : ℕ) → AreWithin frames rows → now ≡ frames ++ more → start ≡ length frames → end ≡ length now
    → all ≡ rows ++ record { start = start; end = end; weight = weight } ∷ [] → ranked_rows now all ≡ ranked_rows frames rows ++ (more, weight) ∷ []
row_taken frames more now rows all start end weight h grown s e is =
    let far : end ≡ length frames + length more = e ∙ ap length grown ∙ length-append frames more in
    (λ i. ranked_rows (grown i) (is i)) ∙ map-append (ranked_row (frames ++ more)) rows (record { start = start; end = end; weight = weight } ∷ [])
    ∙ (λ i. rows-append frames more rows h i ++ (slice_range (frames ++ more) (s i) end, weight) ∷ [])
    ∙ ap (λ ranks. ranked_rows frames rows ++ (ranks, weight) ∷ []) (slice-seam frames more end far)

pub within_grown : (frames more now : List ℕ) (rows : List RankedRow) → now ≡ frames ++ more → AreWithin frames rows → AreWithin now rows
within_grown frames more now rows grown h = λ k d lt. ((h k d lt).0, omega (arith, (h k d lt).1, ap length grown, length-append frames more))

-- a row that is read
pub within_at : (frames : List ℕ) (rows : List RankedRow) (at : ℕ) (row : RankedRow) → AreWithin frames rows → at < length rows → row ≡ get_or rows at row → (row.start ≤ row.end) × (row.end ≤ length frames)
within_at frames rows at row h lt is = subst (λ (row : RankedRow). (row.start ≤ row.end) × (row.end ≤ length frames)) (sym is) (h at row lt)

pub ranked_within : (frames : List ℕ) (rows : List RankedRow) (all : List Ranked) (at : ℕ) → ranked_rows frames rows ≡ all → at < length all → at < length rows
ranked_within frames rows all at view lt = omega (arith, lt, ap length view, length-map rows (ranked_row frames))

pub ranks_at : (frames : List ℕ) (rows : List RankedRow) (all : List Ranked) (at : ℕ) (row : RankedRow) → ranked_rows frames rows ≡ all → at < length all → row ≡ get_or rows at row → slice_range frames row.start row.end ≡ (get_or all at ([], 0)).0
ranks_at frames rows all at row view lt is =
    ap (λ (row : RankedRow). slice_range frames row.start row.end) is ∙ ap (λ (row : Ranked). row.0) (sym (get_or-map (ranked_row frames) rows at row ([], 0) (ranked_within frames rows all at view lt))) ∙ ap (λ (rows : List Ranked). (get_or rows at ([], 0)).0) view

-- ---- rows are joined

pub map-reverse : {A B : Type 0} (f : A → B) (xs : List A) → map f (reverse xs) ≡ reverse (map f xs)
map-reverse f [] = refl
map-reverse f (x ∷ xs) =
    ap (map f) (reverse-append (x ∷ []) xs) ∙ map-append f (reverse xs) (x ∷ []) ∙ ap (λ ys. ys ++ f x ∷ []) (map-reverse f xs) ∙ sym (reverse-append (f x ∷ []) (map f xs))

reverse-push : (frames : List ℕ) (rows : List RankedRow) (row : RankedRow) → reverse (ranked_rows frames (rows ++ row ∷ [])) ≡ ranked_row frames row ∷ reverse (ranked_rows frames rows)
reverse-push frames rows row = ap reverse (map_push (ranked_row frames) rows row) ∙ reverse-append (ranked_rows frames rows) (ranked_row frames row ∷ [])

-- a row of the same ranks as the last one, which it is added to
pub put_in : (frames ranks : List ℕ) (weight : ℕ) (old rows new : List RankedRow) (next : RankedRow) → old ≡ rows ++ next ∷ [] → new ≡ rows ++ record { start = next.start; end = next.end; weight = next.weight + weight } ∷ []
    → pointwise nat_eq (ranked_row frames next).0 ranks ≡ true → reverse (ranked_rows frames new) ≡ join_front (ranks, weight) (reverse (ranked_rows frames old))
put_in frames ranks weight old rows new next was is same =
    let first = ranked_row frames next in
    let rest = reverse (ranked_rows frames rows) in
    ap (λ all. reverse (ranked_rows frames all)) is ∙ reverse-push frames rows (record { start = next.start; end = next.end; weight = next.weight + weight })
    ∙ ap (λ b. cond b ((first.0, first.1 + weight) ∷ rest) ((ranks, weight) ∷ first ∷ rest)) (sym same)
    ∙ ap (join_front (ranks, weight)) (sym (ap (λ all. reverse (ranked_rows frames all)) was ∙ reverse-push frames rows next))

pub put_in-within : (frames : List ℕ) (weight : ℕ) (old rows new : List RankedRow) (next : RankedRow) → old ≡ rows ++ next ∷ [] → new ≡ rows ++ record { start = next.start; end = next.end; weight = weight } ∷ [] → AreWithin frames old → AreWithin frames new
put_in-within frames weight old rows new next was is h =
    let P = λ (row : RankedRow). (row.start ≤ row.end) × (row.end ≤ length frames) in
    let before = All-pop P old rows (Some next) was h in
    All-same P new _ is (All-push P rows (record { start = next.start; end = next.end; weight = weight }) before.0 before.1)

-- a row of other ranks
pub put_apart : (frames ranks : List ℕ) (start end weight : ℕ) (old rows between new : List RankedRow) (next : RankedRow) → old ≡ rows ++ next ∷ [] → between ≡ rows ++ next ∷ [] → new ≡ between ++ record { start = start; end = end; weight = weight } ∷ []
    → ranks ≡ slice_range frames start end → pointwise nat_eq (ranked_row frames next).0 ranks ≡ false → reverse (ranked_rows frames new) ≡ join_front (ranks, weight) (reverse (ranked_rows frames old))
put_apart frames ranks start end weight old rows between new next was back is lies apart =
    let first = ranked_row frames next in
    let rest = reverse (ranked_rows frames rows) in
    let behind : reverse (ranked_rows frames between) ≡ first ∷ rest = ap (λ all. reverse (ranked_rows frames all)) back ∙ reverse-push frames rows next in
    ap (λ all. reverse (ranked_rows frames all)) is ∙ reverse-push frames between (record { start = start; end = end; weight = weight })
    ∙ (λ i. (sym lies i, weight) ∷ behind i)
    ∙ ap (λ b. cond b ((first.0, first.1 + weight) ∷ rest) ((ranks, weight) ∷ first ∷ rest)) (sym apart)
    ∙ ap (join_front (ranks, weight)) (sym (ap (λ all. reverse (ranked_rows frames all)) was ∙ reverse-push frames rows next))

-- one entry more
pub joined-more : (entries : List Entry) (i j : ℕ) (d : Entry) (rows : List Ranked) → i ≡ j + 1 → j < length entries → rows ≡ joined (map ranked_entry (drop i entries)) → join_front (ranked_entry (get_or entries j d)) rows ≡ joined (map ranked_entry (drop j entries))
joined-more entries i j d rows next lt is =
    ap (join_front (ranked_entry (get_or entries j d))) (is ∙ ap (λ k. joined (map ranked_entry (drop k entries))) next) ∙ ap (λ all. joined (map ranked_entry all)) (sym (drop_more entries j d lt))

abbrev weight_of : Ranked → ℕ
weight_of row = row.1

-- joining keeps the weight of all
front-total : (row : Ranked) (rows : List Ranked) → sum_by weight_of (join_front row rows) ≡ row.1 + sum_by weight_of rows
front-total row [] = sum_by-cons weight_of row []
front-total row (first ∷ rows) = by (pointwise nat_eq first.0 row.0)
  where
    by : (b : Bool) → sum_by weight_of (cond b ((first.0, first.1 + row.1) ∷ rows) (row ∷ first ∷ rows)) ≡ row.1 + sum_by weight_of (first ∷ rows)
    by true = omega (arith, sum_by-cons weight_of (first.0, first.1 + row.1) rows, sum_by-cons weight_of first rows)
    by false = sum_by-cons weight_of row (first ∷ rows)

pub joined-total : (rows : List Ranked) → sum_by (λ (row : Ranked). row.1) (joined rows) ≡ sum_by (λ (row : Ranked). row.1) rows
joined-total [] = refl
joined-total (row ∷ rows) = front-total row (joined rows) ∙ (ap (λ n. row.1 + n) (joined-total rows) ∙ sym (sum_by-cons weight_of row rows))

weights-rows : (frames : List ℕ) (rows : List RankedRow) → sum_by (λ (row : RankedRow). row.weight) rows ≡ sum_by weight_of (ranked_rows frames rows)
weights-rows frames [] = refl
weights-rows frames (row ∷ rows) =
    sum_by-cons (λ (row : RankedRow). row.weight) row rows ∙ ap (λ n. row.weight + n) (weights-rows frames rows) ∙ sym (sum_by-cons weight_of (ranked_row frames row) (ranked_rows frames rows))

weights-entries : (entries : List Entry) → sum_by (λ (entry : Entry). entry.1) entries ≡ sum_by weight_of (map ranked_entry entries)
weights-entries [] = refl
weights-entries (entry ∷ entries) =
    sum_by-cons (λ (entry : Entry). entry.1) entry entries ∙ ap (λ n. entry.1 + n) (weights-entries entries) ∙ sym (sum_by-cons weight_of (ranked_entry entry) (map ranked_entry entries))

-- there is room for the weight of an entry more
pub joined-room : (frames : List ℕ) (rows : List RankedRow) (entries : List Entry) (i j : ℕ) (d : Entry) → i ≡ j + 1 → j < length entries
    → reverse (ranked_rows frames rows) ≡ joined (map ranked_entry (drop i entries))
    → sum_by (λ (row : RankedRow). row.weight) rows + (get_or entries j d).1 ≤ sum_by (λ (row : Ranked). row.1) (map ranked_entry entries)
joined-room frames rows entries i j d next lt is =
    let weight = λ (entry : Entry). entry.1 in
    let here : sum_by weight_of (ranked_rows frames rows) ≡ sum_by weight_of (map ranked_entry (drop i entries)) =
    sym (sum_by-IsPermutation weight_of (ranked_rows frames rows) (reverse (ranked_rows frames rows)) (IsPermutation-reverse (ranked_rows frames rows))) ∙ ap (sum_by weight_of) is ∙ joined-total (map ranked_entry (drop i entries)) in
    let more : sum_by weight (drop j entries) ≡ (get_or entries j d).1 + sum_by weight (drop i entries) = sum_by-drop_more weight entries j d lt ∙ ap (λ k. (get_or entries j d).1 + sum_by weight (drop k entries)) (sym next) in
    omega (arith, here, more, weights-rows frames rows, weights-entries (drop i entries), weights-entries entries, sum_by-take-drop weight entries j)

-- ---- rows are sorted

abbrev pub entry_cmp : Entry → Entry → Ordering
entry_cmp a b = ordering_then (ordering_then (slice_cmp nat_cmp a.0.now b.0.now) (nat_cmp a.1 b.1)) (nat_cmp a.2 b.2)

first_not_less : (o p q : Ordering) → is_lt (ordering_then (ordering_then o p) q) ≡ false → is_lt o ≡ false
first_not_less Less p q h = h
first_not_less Equal p q h = refl
first_not_less Greater p q h = refl

pub entries_ascend : (entries : List Entry) → ((k : ℕ) (d : Entry) → 0 ≤ k → k + 1 < length entries → is_lt (entry_cmp (get_or entries (k + 1) d) (get_or entries k d)) ≡ false) → AreAscending (map ranked_entry entries)
entries_ascend [] up = tt
entries_ascend (e ∷ []) up = tt
entries_ascend (e ∷ f ∷ entries) up = (
  first_not_less (slice_cmp nat_cmp f.0.now e.0.now) (nat_cmp f.1 e.1) (nat_cmp f.2 e.2) (up 0 e (omega arith) (omega arith)),
  entries_ascend (f ∷ entries) (λ k d l lt. rw (add-one k) (let h = up (suc k) d (omega arith) (omega arith) in rw (add-one (suc k)) at h)),
)

-- ---- a row that weighs more

pub more_at : (frames : List ℕ) (rows : List RankedRow) (at : ℕ) (row : RankedRow) (more sum : ℕ) → at < length rows → row ≡ get_or rows at row → sum ≡ row.weight + more
    → ranked_rows frames (set rows at (record { start = row.start; end = row.end; weight = sum })) ≡ with_more (ranked_rows frames rows) at more
more_at frames [] at row more sum lt is e = absurd (omega (arith, lt))
more_at frames (first ∷ rows) zero row more sum lt is e =
    let rest = ranked_rows frames rows in
    ap (λ w. (slice_range frames row.start row.end, w) ∷ rest) e ∙ ap (λ (row : RankedRow). (slice_range frames row.start row.end, row.weight + more) ∷ rest) is
more_at frames (first ∷ rows) (suc at) row more sum lt is e = ap (λ rest. ranked_row frames first ∷ rest) (more_at frames rows at row more sum (omega (arith, lt)) is e)
