-- trees that hold samples
use Rattle.std.proofs.Common.{◌≡◌, ℕ, zero, suc, ◌+◌, ◌≤◌, ◌<◌, List, [], ◌∷◌, ◌++◌, cond, length, get_or, sym, ◌∙◌, ap, subst, refl, arith, inr, nat_eq, Bool, true, false, ◌&&◌, take, Some, slice_get}
use Rattle.std.specs.Prelude.{if◌then◌else◌, All}
use Rattle.std.specs.List.{AllByRecursion, list_any}
use Rattle.std.specs.Str.{bytes_eq}
use Rattle.std.specs.FinMap as tree_map
use Rattle.std.proofs.lemmas.List.Sums.{sum_by-cons, fold_push, sum_by-append, sum_by_more, sum_by-take-le}
use Rattle.std.proofs.lemmas.List.{get_or_append_left, length-map, map-append, append-nil, length-append, append_assoc, take_more}
use Rattle.std.specs.Cmp.Lexicographic.{pointwise}
use Rattle.call_tree.specs.CallTree.{Tree, own_weight, total_weight as tree_total, with_weight}
use Rattle.call_tree.specs.PathSums.{begins_with, total_of, own_of}
use Rattle.call_tree.specs.FrameTable.{HasDistinctNames, with_name}
use Rattle.call_tree.specs.Listing.{named, HasNumbersOf, AreIn}
use Rattle.call_tree.proofs.TreeSums.{total_weight-tree_of, own_weight-tree_of}
use Rattle.sample_tables.specs.declared.samples.Sample.{Sample}
use Rattle.sample_tables.specs.Rows.{sample_at}
use Rattle.merged_stacks.specs.Timeline.{total_weight}
use Rattle.merged_stacks.specs.checked.Ranks.{Grows}
use Rattle.flame_layout.specs.Paths.{total_at, own_at}
use Rattle.flame_layout.specs.checked.Held.{Holds}
use Rattle.flame_layout.proofs.TreeSamples.{IsNamed, sampled, path_in, total_named, own_named}
use Rattle.merged_stacks.proofs.Timelines.{no_sample, weight_of}

-- ---- a longer table

pub known_more : (names more : List (List ℕ)) (p : List ℕ) → AreIn names p → AreIn (names ++ more) p
known_more names more [] h = tt
known_more names more (n ∷ p) h = (omega (arith, h.0, length-append names more), known_more names more p h.1)

pub named_more : (names more : List (List ℕ)) (p : List ℕ) → AreIn names p → named names p ≡ named (names ++ more) p
named_more names more [] h = refl
named_more names more (n ∷ p) h = λ i. sym (get_or_append_left names more [] n h.0) i ∷ named_more names more p h.1 i

rows_more : (names more : List (List ℕ)) (rows : List (List ℕ × ℕ)) → AllByRecursion (λ row. AreIn names row.0) rows → (sampled names rows ≡ sampled (names ++ more) rows) × AllByRecursion (λ row. AreIn (names ++ more) row.0) rows
rows_more names more [] h = (refl, tt)
rows_more names more (r ∷ rows) h =
    let rest = rows_more names more rows h.1 in
    ((λ i. record { stack = named_more names more r.0 h.0 i; weight = r.1 } ∷ rest.0 i), (known_more names more r.0 h.0, rest.1))

pub holds-more : (names more : List (List ℕ)) (tree : Tree) (xs : List Sample) → Holds names tree xs → Holds (names ++ more) tree xs
holds-more names more tree xs h =
    let longer = rows_more names more h.rows h.known in
    record { rows = h.rows; tree_is = h.tree_is; samples_are = h.samples_are ∙ longer.0; known = longer.1 }

pub each-push : {X : Type 0} (P : X → Type 0) (xs : List X) (x : X) → AllByRecursion P xs → P x → AllByRecursion P (xs ++ x ∷ [])
each-push P [] x h g = (g, tt)
each-push P (y ∷ ys) x h g = (h.0, each-push P ys x h.1 g)

-- one row more
pub holds-push : (names : List (List ℕ)) (tree new : Tree) (xs : List Sample) (s : Sample) (ids : List ℕ) → Holds names tree xs → new ≡ with_weight tree ids s.weight → named names ids ≡ s.stack → AreIn names ids → Holds names new (xs ++ s ∷ [])
holds-push names tree new xs s ids h e n k = record {
  rows = h.rows ++ (ids, s.weight) ∷ [];
  tree_is = e ∙ (ap (λ t. with_weight t ids s.weight) h.tree_is ∙ sym (fold_push (λ (t : Tree) (r : List ℕ × ℕ). with_weight t r.0 r.1) tree_map.empty h.rows (ids, s.weight)));
  samples_are = (λ i. h.samples_are i ++ record { stack = sym n i; weight = s.weight } ∷ []) ∙ sym (map-append (λ (row : List ℕ × ℕ). (let t : Sample = record { stack = named names row.0; weight = row.1 } in t)) h.rows ((ids, s.weight) ∷ []));
  known = each-push (λ row. AreIn names row.0) h.rows (ids, s.weight) h.known k;
}

pub holds-empty : (names : List (List ℕ)) (tree : Tree) → tree ≡ tree_map.empty → Holds names tree []
holds-empty names tree e = record { rows = []; tree_is = e; samples_are = refl; known = tt }

-- ---- its sums

total_le : (p : List ℕ) (names : List (List ℕ)) (rows : List (List ℕ × ℕ)) → total_of nat_eq rows p ≤ total_weight (sampled names rows)
unfolding total_of
total_le p names [] = omega arith
total_le p names (r ∷ rows) = by (begins_with nat_eq p r.0) (sum_by-cons (λ (s : List ℕ × ℕ). if begins_with nat_eq p s.0 then s.1 else 0) r rows) (total_le p names rows)
  where
    by : (b : Bool) → total_of nat_eq (r ∷ rows) p ≡ cond b r.1 0 + total_of nat_eq rows p → total_of nat_eq rows p ≤ total_weight (sampled names rows) → total_of nat_eq (r ∷ rows) p ≤ total_weight (sampled names (r ∷ rows))
    by true e ih = omega (arith, e, ih, sum_by-cons weight_of (record { stack = named names r.0; weight = r.1 }) (sampled names rows))
    by false e ih = omega (arith, e, ih, sum_by-cons weight_of (record { stack = named names r.0; weight = r.1 }) (sampled names rows))

pub own_le : (p : List ℕ) (names : List (List ℕ)) (rows : List (List ℕ × ℕ)) → own_of nat_eq rows p ≤ total_weight (sampled names rows)
unfolding own_of
own_le p names [] = omega arith
own_le p names (r ∷ rows) = by (pointwise nat_eq p r.0) (sum_by-cons (λ (s : List ℕ × ℕ). if pointwise nat_eq p s.0 then s.1 else 0) r rows) (own_le p names rows)
  where
    by : (b : Bool) → own_of nat_eq (r ∷ rows) p ≡ cond b r.1 0 + own_of nat_eq rows p → own_of nat_eq rows p ≤ total_weight (sampled names rows) → own_of nat_eq (r ∷ rows) p ≤ total_weight (sampled names (r ∷ rows))
    by true e ih = omega (arith, e, ih, sum_by-cons weight_of (record { stack = named names r.0; weight = r.1 }) (sampled names rows))
    by false e ih = omega (arith, e, ih, sum_by-cons weight_of (record { stack = named names r.0; weight = r.1 }) (sampled names rows))

pub holds-total : (names : List (List ℕ)) (tree : Tree) (xs : List Sample) (h : Holds names tree xs) (p : List ℕ) → tree_total tree p ≡ total_of nat_eq h.rows p
holds-total names tree xs h p = ap (λ t. tree_total t p) h.tree_is ∙ total_weight-tree_of h.rows p

pub holds-own : (names : List (List ℕ)) (tree : Tree) (xs : List Sample) (h : Holds names tree xs) (p : List ℕ) → own_weight tree p ≡ own_of nat_eq h.rows p
holds-own names tree xs h p = ap (λ t. own_weight t p) h.tree_is ∙ own_weight-tree_of h.rows p

pub holds-small : (names : List (List ℕ)) (tree : Tree) (xs : List Sample) → Holds names tree xs → (p : List ℕ) → (tree_total tree p ≤ total_weight xs) × (own_weight tree p ≤ total_weight xs)
holds-small names tree xs h p =
    (omega (arith, holds-total names tree xs h p, total_le p names h.rows, ap total_weight h.samples_are), omega (arith, holds-own names tree xs h p, own_le p names h.rows, ap total_weight h.samples_are))

all_named : (names : List (List ℕ)) (rows : List (List ℕ × ℕ)) → AllByRecursion (λ row. AreIn names row.0) rows → AllByRecursion (IsNamed names) rows
all_named names [] h = tt
all_named names (r ∷ rows) h = (inr h.0, all_named names rows h.1)

pub holds-known : (names : List (List ℕ)) (tree : Tree) (xs : List Sample) → Holds names tree xs → (p : List ℕ) → 0 < tree_total tree p → AreIn names p
holds-known names tree xs h p w = path_in names h.rows p (all_named names h.rows h.known) (omega (arith, w, holds-total names tree xs h p))

-- ---- its depth

begins_short : (p q : List ℕ) → begins_with nat_eq p q ≡ true → length p ≤ length q
begins_short [] q e = omega arith
begins_short (x ∷ p) [] e = cc
begins_short (x ∷ p) (y ∷ q) e = by (nat_eq x y) e (begins_short p q)
  where
    by : (b : Bool) → (b && begins_with nat_eq p q) ≡ true → (begins_with nat_eq p q ≡ true → length p ≤ length q) → length (x ∷ p) ≤ length (y ∷ q)
    by true f ih = omega (arith, ih f)
    by false f ih = cc

rows_depth : (names : List (List ℕ)) (most : ℕ) (p : List ℕ) (rows : List (List ℕ × ℕ)) → All (λ s. length s.stack ≤ most) (sampled names rows) →
    0 < total_of nat_eq rows p → length p ≤ most
unfolding total_of
rows_depth names most p [] h w = absurd (omega (arith, w))
rows_depth names most p (r ∷ rows) h w =
    by (begins_with nat_eq p r.0) refl (sum_by-cons (λ (s : List ℕ × ℕ). if begins_with nat_eq p s.0 then s.1 else 0) r rows)
    (rows_depth names most p rows (λ k d l. h (suc k) d (omega (arith, l))))
  where
    by : (b : Bool) → begins_with nat_eq p r.0 ≡ b → total_of nat_eq (r ∷ rows) p ≡ cond b r.1 0 + total_of nat_eq rows p →
        (0 < total_of nat_eq rows p → length p ≤ most) → length p ≤ most
    by true t e ih =
        omega (arith, begins_short p r.0 t, length-map r.0 (λ n. get_or names n []), h 0 (record { stack = []; weight = 0 }) (omega arith))
    by false t e ih = ih (omega (arith, w, e))

-- a path with weight is no longer than the longest stack
pub holds-depth : (names : List (List ℕ)) (tree : Tree) (xs : List Sample) → Holds names tree xs → (most : ℕ) → All (λ s. length s.stack ≤ most) xs →
    (p : List ℕ) → 0 < tree_total tree p → length p ≤ most
holds-depth names tree xs h most deep p w =
    rows_depth names most p h.rows (subst (λ (samples : List Sample). All (λ s. length s.stack ≤ most) samples) h.samples_are deep) (omega (arith, w, holds-total names tree xs h p))

last_known : (names : List (List ℕ)) (front : List ℕ) (n : ℕ) → AreIn names (front ++ n ∷ []) → n < length names
last_known names [] n h = h.0
last_known names (x ∷ front) n h = last_known names front n h.1

pub holds-numbers : (names : List (List ℕ)) (tree : Tree) (xs : List Sample) → Holds names tree xs → HasNumbersOf names tree
holds-numbers names tree xs h front n w = last_known names front n (holds-known names tree xs h (front ++ n ∷ []) w)

pub total-held : (names : List (List ℕ)) (tree : Tree) (xs : List Sample) → Holds names tree xs → HasDistinctNames names → (p : List ℕ) → AreIn names p → tree_total tree p ≡ total_at (named names p) xs
total-held names tree xs h d p k = holds-total names tree xs h p ∙ (total_named names d p h.rows k (all_named names h.rows h.known) ∙ ap (total_at (named names p)) (sym h.samples_are))

pub own-held : (names : List (List ℕ)) (tree : Tree) (xs : List Sample) → Holds names tree xs → HasDistinctNames names → (p : List ℕ) → AreIn names p → own_weight tree p ≡ own_at (named names p) xs
own-held names tree xs h d p k = holds-own names tree xs h p ∙ (own_named names d p h.rows k (all_named names h.rows h.known) ∙ ap (own_at (named names p)) (sym h.samples_are))

-- ---- a table that gains names

pub grows-trans : (a b c : List (List ℕ)) → Grows a b → Grows b c → Grows a c
grows-trans a b c (m, e) (n, f) = (m ++ n, f ∙ (ap (λ x. x ++ n) e ∙ append_assoc a m n))

pub grows-interned : (old new : List (List ℕ)) (name : List ℕ) → new ≡ with_name old name → Grows old new
grows-interned old new name e = by (list_any (bytes_eq name) old) e
  where
    by : (b : Bool) → new ≡ cond b old (old ++ name ∷ []) → Grows old new
    by true f = ([], f ∙ sym (append-nil old))
    by false f = (name ∷ [], f)

pub holds-grows : (old new : List (List ℕ)) (tree : Tree) (xs : List Sample) → Holds old tree xs → Grows old new → Holds new tree xs
holds-grows old new tree xs h (more, e) = subst (λ names. Holds names tree xs) (sym e) (holds-more old more tree xs h)

pub known-grows : (old new : List (List ℕ)) (p : List ℕ) → Grows old new → AreIn old p → AreIn new p
known-grows old new p (more, e) h = subst (λ names. AreIn names p) (sym e) (known_more old more p h)

pub named-grows : (old new : List (List ℕ)) (p : List ℕ) → Grows old new → AreIn old p → named old p ≡ named new p
named-grows old new p (more, e) h = named_more old more p h ∙ ap (λ names. named names p) (sym e)

pub got : (xs : List (List ℕ)) (i : ℕ) (x : List ℕ) → slice_get xs i ≡ Some x → get_or xs i [] ≡ x
got [] i x e = cc
got (y ∷ ys) zero x e = cc
got (y ∷ ys) (suc i) x e = got ys i x e

pub within-held : (xs samples : List Sample) (at : ℕ) (d : Sample) → at < length samples → total_weight (xs ++ take at samples) + (get_or samples at d).weight ≤ total_weight xs + total_weight samples
within-held xs samples at d l =
    omega (arith, sum_by-append weight_of xs (take at samples), sum_by_more weight_of samples at d l, sum_by-take-le weight_of samples (at + 1))

-- the next sample of a list, added under the numbers of a table that may have grown
pub holds-next : (old new : List (List ℕ)) (tree grown : Tree) (xs samples : List Sample) (at : ℕ) (ids : List ℕ) → at < length samples → Holds old tree (xs ++ take at samples) → Grows old new →
    grown ≡ with_weight tree ids (sample_at samples at).weight → named new ids ≡ (sample_at samples at).stack → AreIn new ids → Holds new grown (xs ++ take (at + 1) samples)
holds-next old new tree grown xs samples at ids l h g e n k =
    let s = sample_at samples at in
    subst (λ (ys : List Sample). Holds new grown ys) (append_assoc xs (take at samples) (s ∷ []) ∙ ap (λ ys. xs ++ ys) (sym (take_more samples at no_sample l)))
    (holds-push new tree grown (xs ++ take at samples) s ids (holds-grows old new tree (xs ++ take at samples) h g) e n k)

-- and there is room for it
pub holds-room : (names : List (List ℕ)) (tree : Tree) (xs samples : List Sample) (at : ℕ) → at < length samples → Holds names tree (xs ++ take at samples) → tree_total tree [] + (sample_at samples at).weight ≤ total_weight xs + total_weight samples
holds-room names tree xs samples at l h = omega (arith, (holds-small names tree (xs ++ take at samples) h []).0, within-held xs samples at no_sample l)
