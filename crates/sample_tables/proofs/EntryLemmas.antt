-- Samples by the numbers of their stacks.
use Rattle.std.proofs.Common.{◌≡◌, ◌≤◌, ◌<◌, ◌+◌, ◌*◌, ℕ, suc, List, [], ◌∷◌, ◌++◌, length, length-append, map, All, sum_by, ◌-◌, refl, ap, sym, subst, ◌∙◌, arith, get_or, take, zero, add-zero}
use Rattle.std.specs.List.{zip}
use Rattle.std.proofs.lemmas.List.{map-append, length-map, get_or-map, get_or_append_left, get_or-append-add}
use Rattle.std.proofs.lemmas.List.Elements.{All-head, All-tail, All-weaker, All-map, All-push, All-same, All-take}
use Rattle.std.proofs.lemmas.List.Sums.{sum_by-append, sum_by-cons}
use Rattle.std.proofs.Math.Seq.{take-append_seam}
use Rattle.sample_tables.specs.declared.samples.TheConstants.{WEIGHT_LIMIT}
use Rattle.sample_tables.specs.Rows.{AreEntries, Entry, IsRow, Row, named, sample_at, entry_at, row_by, rows_by, stack_at}
use Rattle.sample_tables.specs.checked.Entries.{AreEntered, IsEntry, entries_of, entry_of}
use Rattle.sample_tables.specs.Tables.{IsStack}
use Rattle.sample_tables.proofs.Spans.{map_agree}

-- all but the last
pub front-push : {X : Type 0} (xs : List X) (x : X) → take (length (xs ++ x ∷ []) - 1) (xs ++ x ∷ []) ≡ xs
front-push xs x =
    let n : length (xs ++ x ∷ []) - 1 ≡ length xs = omega (arith, length-append xs (x ∷ [])) in
    rw n (take-append_seam xs (x ∷ []))

zip-push : (xs ys : List ℕ) (x y : ℕ) → length xs ≡ length ys → zip (xs ++ x ∷ []) (ys ++ y ∷ []) ≡ zip xs ys ++ (x, y) ∷ []
zip-push [] [] x y e = refl
zip-push [] (b ∷ ys) x y e = absurd (omega (arith, e))
zip-push (a ∷ xs) [] x y e = absurd (omega (arith, e))
zip-push (a ∷ xs) (b ∷ ys) x y e = ap (λ pairs. (a, b) ∷ pairs) (zip-push xs ys x y (omega arith))

pub entries_of-push : (stacks weights : List ℕ) (stack weight : ℕ) → length stacks ≡ length weights → entries_of (stacks ++ stack ∷ []) (weights ++ weight ∷ []) ≡ entries_of stacks weights ++ record { stack = stack; weight = weight } ∷ []
entries_of-push stacks weights stack weight e =
    ap (map entry_of) (zip-push stacks weights stack weight e) ∙ map-append entry_of (zip stacks weights) _

pub length-entries_of : (stacks weights : List ℕ) → length stacks ≡ length weights → length (entries_of stacks weights) ≡ length weights
length-entries_of [] [] e = refl
length-entries_of [] (b ∷ ys) e = omega arith
length-entries_of (a ∷ xs) [] e = omega arith
length-entries_of (a ∷ xs) (b ∷ ys) e = ap suc (length-entries_of xs ys (omega arith))

pub entry_at-entries_of : (stacks weights : List ℕ) (i d e : ℕ) → length stacks ≡ length weights → i < length weights → entry_at (entries_of stacks weights) i ≡ record { stack = get_or stacks i d; weight = get_or weights i e }
entry_at-entries_of [] [] i d e p l = absurd (omega (arith, l))
entry_at-entries_of [] (b ∷ ys) i d e p l = absurd (omega (arith, p))
entry_at-entries_of (a ∷ xs) [] i d e p l = absurd (omega (arith, p))
entry_at-entries_of (a ∷ xs) (b ∷ ys) zero d e p l = refl
entry_at-entries_of (a ∷ xs) (b ∷ ys) (suc i) d e p l = entry_at-entries_of xs ys i d e (omega arith) (omega arith)

-- the total of entries is not large
sum-bound : (entries : List Entry) → All (λ entry. entry.weight ≤ WEIGHT_LIMIT) entries → sum_by (λ entry. entry.weight) entries ≤ length entries * WEIGHT_LIMIT
sum-bound [] h = omega arith
sum-bound (entry ∷ entries) h =
    omega (arith, sum_by-cons (λ (entry : Entry). entry.weight) entry entries, All-head (λ (entry : Entry). entry.weight ≤ WEIGHT_LIMIT) entry entries h, sum-bound entries (All-tail (λ (entry : Entry). entry.weight ≤ WEIGHT_LIMIT) entry entries h))

pub total-bound : (stacks weights : List ℕ) (total : ℕ) → AreEntered stacks weights total → total ≤ length weights * WEIGHT_LIMIT
total-bound stacks weights total h =
    omega (arith, h.summed, sum-bound (entries_of stacks weights) h.limits, length-entries_of stacks weights h.paired)

abbrev limited : Entry → Type 0
limited entry = entry.weight ≤ WEIGHT_LIMIT

pub AreEntered-push : (stacks weights : List ℕ) (total stack weight : ℕ) → AreEntered stacks weights total → weight ≤ WEIGHT_LIMIT → AreEntered (stacks ++ stack ∷ []) (weights ++ weight ∷ []) (total + weight)
AreEntered-push stacks weights total stack weight h l =
    let e = entries_of-push stacks weights stack weight h.paired in
    record {
      paired = omega (arith, h.paired, length-append stacks (stack ∷ []), length-append weights (weight ∷ []));
      limits = All-same limited _ _ e (All-push limited (entries_of stacks weights) _ h.limits l);
      summed = rw e (omega (arith, h.summed, sum_by-append (λ (entry : Entry). entry.weight) (entries_of stacks weights) (record { stack = stack; weight = weight } ∷ [])));
    }

pub AreEntered-pop : (stacks weights : List ℕ) (total stack weight : ℕ) → AreEntered (stacks ++ stack ∷ []) (weights ++ weight ∷ []) total → AreEntered stacks weights (total - weight) × (weight ≤ total)
AreEntered-pop stacks weights total stack weight h =
    let p : length stacks ≡ length weights = omega (arith, h.paired, length-append stacks (stack ∷ []), length-append weights (weight ∷ [])) in
    let e = entries_of-push stacks weights stack weight p in
    let all = All-same limited _ _ (sym e) h.limits in
    let sum : total ≡ sum_by (λ entry. entry.weight) (entries_of stacks weights) + weight =
    omega (arith, h.summed, ap (sum_by (λ (entry : Entry). entry.weight)) e, sum_by-append (λ (entry : Entry). entry.weight) (entries_of stacks weights) (record { stack = stack; weight = weight } ∷ [])) in
    (record { paired = p; limits = All-same limited _ _ (sym (front-push (entries_of stacks weights) _)) (All-take limited _ _ all); summed = omega (arith, sum) }, omega (arith, sum))

-- the last entry is taken off
pub record EntryPopped (old_stacks old_weights stacks weights : List ℕ) (total weight : ℕ) : Type 0 where
  pub within : weight ≤ total
  pub entered : AreEntered stacks weights (total - weight)
  pub left : entries_of stacks weights ≡ take (length (entries_of old_stacks old_weights) - 1) (entries_of old_stacks old_weights)

pub entry_popped : (old_stacks old_weights stacks weights : List ℕ) (total stack weight : ℕ) → AreEntered old_stacks old_weights total → old_stacks ≡ stacks ++ stack ∷ [] → old_weights ≡ weights ++ weight ∷ [] → EntryPopped old_stacks old_weights stacks weights total weight
entry_popped old_stacks old_weights stacks weights total stack weight h s w =
    let popped = AreEntered-pop stacks weights total stack weight (subst (λ xs. AreEntered xs (weights ++ weight ∷ []) total) s (subst (λ ys. AreEntered old_stacks ys total) w h)) in
    let all = entries_of-push stacks weights stack weight popped.0.paired in
    record {
      within = popped.1;
      entered = popped.0;
      left = rw (s, w, all) (sym (front-push (entries_of stacks weights) (record { stack = stack; weight = weight })));
    }

-- stacks that come after change no row
pub rows_by-append : (stacks more : List (List ℕ)) (entries : List Entry) → All (IsEntry (length stacks)) entries → rows_by (stacks ++ more) entries ≡ rows_by stacks entries
rows_by-append stacks more entries h =
    map_agree (row_by (stacks ++ more)) (row_by stacks) entries (λ k d l. cc (get_or_append_left stacks more [] _ (h k d l).kept))

-- rows of entries keep to the limits
pub rows_by-rows : (names stacks : List (List ℕ)) (entries : List Entry) → All (IsStack names) stacks → All (IsEntry (length stacks)) entries → All (IsRow names) (rows_by stacks entries)
rows_by-rows names stacks entries kept h =
    let row : (entry : Entry) → IsEntry (length stacks) entry → IsRow names (row_by stacks entry) = λ entry e.
    let stack = kept entry.stack [] e.kept in
    record { depth = stack.depth; numbers = stack.numbers; weight = e.weight } in
    All-map (IsRow names) (row_by stacks) entries (All-weaker (IsEntry (length stacks)) (λ entry. IsRow names (row_by stacks entry)) row entries h)

pub rows_by-entries : (stacks : List (List ℕ)) (entries : List Entry) → All (IsEntry (length stacks)) entries → AreEntries stacks entries (rows_by stacks entries)
rows_by-entries stacks entries h =
    record { kept = All-weaker (IsEntry (length stacks)) (λ entry. entry.stack < length stacks) (λ entry e. e.kept) entries h; stand_for = refl }

-- a stack comes last, and an entry of it
pub rows_by-push : (stacks : List (List ℕ)) (entries : List Entry) (frames : List ℕ) (weight : ℕ) → rows_by (stacks ++ frames ∷ []) entries ≡ rows_by stacks entries → rows_by (stacks ++ frames ∷ []) (entries ++ record { stack = length stacks; weight = weight } ∷ []) ≡ rows_by stacks entries ++ record { frames = frames; weight = weight } ∷ []
rows_by-push stacks entries frames weight same =
    let last : stack_at (stacks ++ frames ∷ []) (length stacks) ≡ frames = rw (← add-zero (length stacks)) (get_or-append-add stacks (frames ∷ []) 0 []) in
    map-append (row_by (stacks ++ frames ∷ [])) entries _ ∙ cc (same, last)

-- sample i has the stack and the weight of entry i
pub sample_at-entry_at : (names stacks : List (List ℕ)) (entries : List Entry) (i : ℕ) → i < length entries → sample_at (map (named names) (rows_by stacks entries)) i ≡ named names (row_by stacks (entry_at entries i))
sample_at-entry_at names stacks entries i l =
    let rows : i < length (rows_by stacks entries) = omega (arith, length-map entries (row_by stacks)) in
    let empty : Row = record { frames = []; weight = 0 } in
    get_or-map (named names) (rows_by stacks entries) i empty _ rows ∙ ap (named names) (get_or-map (row_by stacks) entries i (record { stack = 0; weight = 0 }) empty l)
