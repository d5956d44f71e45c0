-- The fold of the folds of parts is the fold of the whole.
use Rattle.std.proofs.Common.{◌≡◌, ℕ, ◌+◌, ◌<◌, ◌≤◌, List, [], ◌∷◌, ◌++◌, Bool, true, false, cond, ltb, map, filter, All, refl, sym, ap, subst, ◌∙◌, arith}
use Rattle.std.specs.List.{flat_map, concat}
use Rattle.std.specs.Prelude.{IsPermutation}
use Rattle.std.specs.Ordering.{is_eq}
use Rattle.std.proofs.lemmas.Bool.{ltb-true, ltb-false}
use Rattle.std.proofs.lemmas.Grind.{flat_map-append}
use Rattle.std.proofs.lemmas.List.{append-nil}
use Rattle.std.proofs.lemmas.List.Folds.{flat_map-map}
use Rattle.std.proofs.lemmas.List.Elements.{All-nil, All-cons, All-head, All-tail, All-append, All-map, All-filter}
use Rattle.std.proofs.lemmas.List.Sums.{sum_by-append}
use Rattle.stack_core.specs.Reading.{Rest, IsSourceLimited}
use Rattle.sample_tables.specs.Samples.{total_weight}
use Rattle.sample_tables.specs.declared.samples.TheConstants.{WEIGHT_LIMIT}
use Rattle.sample_tables.specs.declared.samples.Sample.{Sample}
use Rattle.stack_core.specs.declared.endings.SourceEnd.TheVariants as ends
use Rattle.folded_lines.specs.LastNames.{last_ends_in_number}
use Rattle.folded_lines.specs.Reading.{read_folded}
use Rattle.folded_lines.specs.ReadingBack.{text_of, IsPlain}
use Rattle.folded_lines.specs.TextParts.{samples_of_parts, ReadsAsParts}
use Rattle.folded_lines.specs.Writing.{line_of}
use Rattle.folded_lines.proofs.NamesBack.{samples_plain}
use Rattle.folded_lines.proofs.ReadLemmas.{IsSourceLimited-read_folded}
use Rattle.folded_lines.proofs.TextLemmas.{read_folded-text_of}
use Rattle.merged_stacks.specs.Timeline.{Stack, is_drawn, drawn}
use Rattle.merged_stacks.specs.Order.{stack_cmp}
use Rattle.flame_layout.specs.Graph.{graph_of}
use Rattle.flame_layout.proofs.PathWords.{path_own}
use Rattle.merged_stacks.specs.Merged.{Weighed, sum_at, merged, all_samples, merged_samples}
use Rattle.flame_layout.proofs.LawProofs.{permuted_own}
use Rattle.flame_layout.proofs.MergedSums.{Decides-order, merged_own}
use Rattle.flame_layout.proofs.Sums.{same_graph, same_sums}
use Rattle.view_texts.specs.Fold.{weighed, fold_text}
use Rattle.view_texts.specs.Parts.{IsFoldable, refolded, fold_of}
use Rattle.merged_stacks.proofs.MergedRows.{sum_at-cons, sum_at-nil}
use Rattle.view_texts.proofs.SumViews.{SameSums, same_append, same_weights, same_folds}

-- a row as a sample
abbrev of_row : Weighed → Sample
of_row row = record { stack = row.0; weight = row.1 }

-- the merged stacks have each stack's sum
same_owns : (part : List Sample) → SameSums (merged_samples part) part
same_owns part q = sym (same_sums part (merged_samples part) (merged_own part) q)

same_weight : (part : List Sample) → total_weight (merged_samples part) ≡ total_weight part
same_weight part = same_weights (merged_samples part) part (same_owns part)

-- what holds of a stack whatever it weighs
plain_of : (stack : Stack) (one other : ℕ) → IsPlain (record { stack = stack; weight = one }) → IsPlain (record { stack = stack; weight = other })
plain_of stack one other plain = record { names = plain.names; last = plain.last; depth = plain.depth }

-- a stack with a sum is that of a sample with weight
plain_sum : (part : List Sample) (q : Stack) (n : ℕ) → All IsPlain (drawn part) → 0 < sum_at (map weighed part) q → IsPlain (record { stack = q; weight = n })
plain_sum [] q n plain some = absurd (omega (arith, some, sum_at-nil q))
plain_sum (s ∷ part) q n plain some =
    by (ltb 0 s.weight) (is_eq (stack_cmp q s.stack)) refl refl plain (subst (λ k. 0 < k) (sum_at-cons (weighed s) (map weighed part) q) some) (plain_sum part q n)
  where
    by : (weighs same : Bool) → ltb 0 s.weight ≡ weighs → is_eq (stack_cmp q s.stack) ≡ same → All IsPlain (cond weighs (s ∷ drawn part) (drawn part))
        → 0 < cond same s.weight 0 + sum_at (map weighed part) q
        → (All IsPlain (drawn part) → 0 < sum_at (map weighed part) q → IsPlain (record { stack = q; weight = n })) → IsPlain (record { stack = q; weight = n })
    by true true weight is plain some later =
        subst (λ k. IsPlain (record { stack = k; weight = n })) (sym ((Decides-order q s.stack).0 is)) (plain_of s.stack s.weight n (All-head IsPlain s (drawn part) plain))
    by true false weight is plain some later = later (All-tail IsPlain s (drawn part) plain) (omega (arith, some))
    by false true weight is plain some later = later plain (omega (arith, some, ltb-false 0 s.weight weight))
    by false false weight is plain some later = later plain (omega (arith, some))

plain_rows : (f : Stack → ℕ) → ((k : Stack) → 0 < f k → IsPlain (record { stack = k; weight = f k })) → (ks : List Stack) → All IsPlain (map of_row (filter (λ row. ltb 0 row.1) (map (λ k. (k, f k)) ks)))
plain_rows f plain [] = All-nil IsPlain
plain_rows f plain (k ∷ ks) = by (ltb 0 (f k)) refl (plain_rows f plain ks)
  where
    rest : List Weighed
    rest = filter (λ row. ltb 0 row.1) (map (λ k. (k, f k)) ks)

    by : (b : Bool) → ltb 0 (f k) ≡ b → All IsPlain (map of_row rest) → All IsPlain (map of_row (cond b ((k, f k) ∷ rest) rest))
    by true e later = All-cons IsPlain (of_row (k, f k)) (map of_row rest) (plain k (ltb-true 0 (f k) e)) later
    by false e later = later

plain_merged : (part : List Sample) → All IsPlain (drawn part) → All IsPlain (merged_samples part)
unfolding merged
plain_merged part plain = plain_rows (sum_at (map weighed part)) (λ k some. plain_sum part k _ plain some) _

rows_text : (part : List Sample) → text_of (merged_samples part) ≡ fold_text part
rows_text part = flat_map-map (λ (s : Sample). line_of s.stack s.weight) of_row (merged (map weighed part))

-- the fold text of a part reads back as its rows
reads_back : (part : List Sample) → IsFoldable part → read_folded (fold_text part) ≡ record { samples = merged_samples part; ending = ends.Clean 0 }
reads_back part foldable =
    ap read_folded (sym (rows_text part))
    ∙ read_folded-text_of (merged_samples part) (plain_merged part foldable.stacks) (omega (arith, same_weight part, foldable.total))

pub refolded-merged : (part : List Sample) → IsFoldable part → refolded part ≡ merged_samples part
refolded-merged part foldable = ap (λ rest. rest.samples) (reads_back part foldable)

pub refolded-clean : (part : List Sample) → IsFoldable part → (read_folded (fold_text part)).ending ≡ ends.Clean 0
refolded-clean part foldable = ap (λ rest. rest.ending) (reads_back part foldable)

pub refolded-sums : (part : List Sample) → IsFoldable part → SameSums part (refolded part)
refolded-sums part foldable q = sym (ap (λ rest. path_own q rest.samples) (reads_back part foldable) ∙ same_owns part q)

same_joined : (parts : List (List Sample)) → All IsFoldable parts → SameSums (all_samples parts) (all_samples (map refolded parts))
same_joined [] foldable = λ q. refl
same_joined (part ∷ parts) foldable =
    same_append part (refolded part) (all_samples parts) (all_samples (map refolded parts)) (refolded-sums part (All-head IsFoldable part parts foldable))
    (same_joined parts (All-tail IsFoldable part parts foldable))

pub permuted-fold : (xs ys : List Sample) → IsPermutation xs ys → fold_text xs ≡ fold_text ys
permuted-fold xs ys same = same_folds xs ys (same_sums xs ys (permuted_own xs ys same))

pub parts-fold : (parts : List (List Sample)) → All IsFoldable parts → fold_text (all_samples parts) ≡ fold_text (all_samples (map refolded parts))
parts-fold parts foldable = same_folds (all_samples parts) (all_samples (map refolded parts)) (same_joined parts foldable)

pub parts-graph : (parts : List (List Sample)) → All IsFoldable parts → graph_of (all_samples parts) ≡ graph_of (all_samples (map refolded parts))
parts-graph parts foldable = same_graph (all_samples parts) (all_samples (map refolded parts)) (same_joined parts foldable)

both : (one other : List Sample) → all_samples (one ∷ other ∷ []) ≡ one ++ other
both one other = ap (λ rest. one ++ rest) (append-nil other)

foldable_both : (one other : List Sample) → IsFoldable one → IsFoldable other → All IsFoldable (one ∷ other ∷ [])
foldable_both one other here there = All-cons IsFoldable one (other ∷ []) here (All-cons IsFoldable other [] there (All-nil IsFoldable))

pub two-fold : (one other : List Sample) → IsFoldable one → IsFoldable other → fold_text (one ++ other) ≡ fold_text (refolded one ++ refolded other)
two-fold one other here there =
    ap fold_text (sym (both one other)) ∙ parts-fold (one ∷ other ∷ []) (foldable_both one other here there) ∙ ap fold_text (both (refolded one) (refolded other))

-- ---- the fold texts one after another

abbrev row_samples : List (List Sample) → List Sample
row_samples parts = flat_map (λ part. merged_samples part) parts

plain_all : (parts : List (List Sample)) → All IsFoldable parts → All IsPlain (row_samples parts)
plain_all [] foldable = All-nil IsPlain
plain_all (part ∷ parts) foldable =
    All-append IsPlain (merged_samples part) (row_samples parts) (plain_merged part (All-head IsFoldable part parts foldable).stacks)
    (plain_all parts (All-tail IsFoldable part parts foldable))

weight_all : (parts : List (List Sample)) → total_weight (row_samples parts) ≡ total_weight (all_samples parts)
weight_all [] = refl
weight_all (part ∷ parts) =
    sum_by-append _ (merged_samples part) (row_samples parts) ∙ (λ i. same_weight part i + weight_all parts i) ∙ sym (sum_by-append _ part (all_samples parts))

text_all : (parts : List (List Sample)) → concat (map fold_text parts) ≡ text_of (row_samples parts)
text_all [] = refl
text_all (part ∷ parts) =
    (λ i. sym (rows_text part) i ++ text_all parts i) ∙ sym (flat_map-append (λ (s : Sample). line_of s.stack s.weight) (merged_samples part) (row_samples parts))

rows_all : (parts : List (List Sample)) → All IsFoldable parts → row_samples parts ≡ all_samples (map refolded parts)
rows_all [] foldable = refl
rows_all (part ∷ parts) foldable =
    (λ i. (sym (reads_back part (All-head IsFoldable part parts foldable)) i).samples ++ rows_all parts (All-tail IsFoldable part parts foldable) i)

pub texts_read : (parts : List (List Sample)) → All IsFoldable parts → total_weight (all_samples parts) ≤ WEIGHT_LIMIT
    → read_folded (concat (map fold_text parts)) ≡ record { samples = all_samples (map refolded parts); ending = ends.Clean 0 }
texts_read parts foldable fits =
    ap read_folded (text_all parts) ∙ read_folded-text_of (row_samples parts) (plain_all parts foldable) (omega (arith, weight_all parts, fits))
    ∙ ap (λ (samples : List Sample). record { samples = samples; ending = ends.Clean 0 }) (rows_all parts foldable)

-- ---- folded text in parts

-- samples of one source, of which those with weight read back
pub foldable-from : (samples : List Sample) → All (λ sample. last_ends_in_number sample.stack ≡ false → IsPlain sample) samples → IsSourceLimited samples
    → All (λ sample. last_ends_in_number sample.stack ≡ false) (drawn samples) → IsFoldable samples
foldable-from samples nearly limited other =
    let plain = All-filter is_drawn (λ sample. last_ends_in_number sample.stack ≡ false → IsPlain sample) samples nearly in
    record { stacks = λ k d within. plain k d within (other k d within); total = limited.total }

pub text_foldable : (text : List ℕ) → All (λ sample. last_ends_in_number sample.stack ≡ false) (drawn (read_folded text).samples) → IsFoldable (read_folded text).samples
text_foldable text = foldable-from (read_folded text).samples (samples_plain text) (IsSourceLimited-read_folded text)

abbrev samples_in : List ℕ → List Sample
samples_in text = (read_folded text).samples

folds_of : (parts : List (List ℕ)) → map fold_text (map samples_in parts) ≡ map fold_of parts
folds_of [] = refl
folds_of (part ∷ parts) = ap (λ rest. fold_of part ∷ rest) (folds_of parts)

lists_in : (parts : List (List ℕ)) → all_samples (map samples_in parts) ≡ samples_of_parts parts
lists_in [] = refl
lists_in (part ∷ parts) = ap (λ rest. samples_in part ++ rest) (lists_in parts)

pub text-fold : (parts : List (List ℕ)) → ReadsAsParts (concat parts) parts → All (λ part. IsFoldable (read_folded part).samples) parts → fold_of (concat parts) ≡ fold_of (concat (map fold_of parts))
text-fold parts reads foldable =
    let lists = map samples_in parts in
    let all : All IsFoldable lists = All-map IsFoldable samples_in parts foldable in
    let same : samples_in (concat parts) ≡ all_samples lists = reads.samples ∙ sym (lists_in parts) in
    let fits : total_weight (all_samples lists) ≤ WEIGHT_LIMIT = subst (λ samples. total_weight samples ≤ WEIGHT_LIMIT) same (IsSourceLimited-read_folded (concat parts)).total in
    ap fold_text same ∙ parts-fold lists all ∙ ap (λ (rest : Rest). fold_text rest.samples) (sym (texts_read lists all fits)) ∙ ap (λ texts. fold_of (concat texts)) (folds_of parts)
