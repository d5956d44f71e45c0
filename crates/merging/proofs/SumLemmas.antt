-- Trees that have the sums of samples.
use Rattle.std.proofs.Common.{◌≡◌, ◌<◌, ◌≤◌, ◌+◌, ℕ, Bool, true, false, ◌&&◌, cond, List, [], ◌∷◌, sym, ap, subst, ◌∙◌, arith, inl, inr, refl}
use Rattle.std.specs.Str.{bytes_eq}
use Rattle.std.specs.Cmp.Lexicographic.{pointwise}
use Rattle.std.specs.FinMap.{entries}
use Rattle.std.proofs.lemmas.Bool.{cases_lt}
use Rattle.sample_tables.specs.declared.samples.Sample.{Sample}
use Rattle.call_tree.specs.CallTree.{Tree}
use Rattle.call_tree.specs.FrameTable.{HasDistinctNames}
use Rattle.call_tree.specs.Listing.{named, AreIn}
use Rattle.call_tree.specs.PathSums.{begins_with, total_of, own_of}
use Rattle.call_tree.proofs.TreeSums.{total_of-cons, own_of-cons}
use Rattle.merged_stacks.specs.Timeline.{Stack}
use Rattle.flame_layout.specs.checked.Held.{Holds}
use Rattle.flame_layout.specs.Paths.{total_at, own_at, tree_samples, SameOwn}
use Rattle.merged_stacks.specs.Merged.{weighed}
use Rattle.flame_layout.proofs.TreeSamples.{sampled, entries_named, path_in, own_named, own_weight-sum, has_numbers}
use Rattle.flame_layout.proofs.Held.{holds-total, holds-known, holds-numbers, total-held, own-held}
use Rattle.merging.specs.Sums.{HasSumsOf}

-- ---- the own sum of a stack is part of its total

same_begins : (one other : Stack) → pointwise bytes_eq one other ≡ true → begins_with bytes_eq one other ≡ true
same_begins [] [] e = refl
same_begins [] (name ∷ other) e = refl
same_begins (name ∷ one) [] e = cc
same_begins (name ∷ one) (next ∷ other) e = by (bytes_eq name next) e (same_begins one other)
  where
    by : (b : Bool) → (b && pointwise bytes_eq one other) ≡ true → (pointwise bytes_eq one other ≡ true → begins_with bytes_eq one other ≡ true) → (b && begins_with bytes_eq one other) ≡ true
    by true f ih = ih f
    by false f ih = cc

own_at-le : (stack : Stack) (samples : List Sample) → own_at stack samples ≤ total_at stack samples
unfolding own_of total_of
own_at-le stack [] = omega arith
own_at-le stack (sample ∷ samples) = by (pointwise bytes_eq stack sample.stack) refl (begins_with bytes_eq stack sample.stack) refl (own_at-le stack samples)
  where
    own : own_at stack (sample ∷ samples) ≡ cond (pointwise bytes_eq stack sample.stack) sample.weight 0 + own_at stack samples
    own = own_of-cons bytes_eq (sample.stack, sample.weight) (weighed samples) stack

    total : total_at stack (sample ∷ samples) ≡ cond (begins_with bytes_eq stack sample.stack) sample.weight 0 + total_at stack samples
    total = total_of-cons bytes_eq (sample.stack, sample.weight) (weighed samples) stack

    by : (b : Bool) → pointwise bytes_eq stack sample.stack ≡ b → (t : Bool) → begins_with bytes_eq stack sample.stack ≡ t → own_at stack samples ≤ total_at stack samples → own_at stack (sample ∷ samples) ≤ total_at stack (sample ∷ samples)
    by true e true f ih = omega (arith, own, ap (λ c. cond c sample.weight 0) e, total, ap (λ c. cond c sample.weight 0) f, ih)
    by true e false f ih = let yes : begins_with bytes_eq stack sample.stack ≡ true = same_begins stack sample.stack e in cc
    by false e t f ih = omega (arith, own, ap (λ c. cond c sample.weight 0) e, total, ih)

-- ---- a tree that holds samples has their sums

-- a stack that has numbers has one own sum among the samples and in the tree
own_numbered : (names : List (List ℕ)) (tree : Tree) (samples : List Sample) → Holds names tree samples → HasDistinctNames names → (path : List ℕ) → AreIn names path
    → own_at (named names path) samples ≡ own_at (named names path) (tree_samples names tree)
own_numbered names tree samples held distinct path known =
    let entries_known = entries_named names tree (holds-numbers names tree samples held) in
    sym (own-held names tree samples held distinct path known) ∙ (own_weight-sum tree path ∙ own_named names distinct path (entries tree) known entries_known)

own_stack : (names : List (List ℕ)) (tree : Tree) (samples : List Sample) → Holds names tree samples → HasDistinctNames names → (stack : Stack) → (path : List ℕ) → stack ≡ named names path → AreIn names path
    → own_at stack samples ≡ own_at stack (tree_samples names tree)
own_stack names tree samples held distinct stack path is known =
    ap (λ s. own_at s samples) is ∙ (own_numbered names tree samples held distinct path known ∙ ap (λ s. own_at s (tree_samples names tree)) (sym is))

pub stacks-held : (names : List (List ℕ)) (tree : Tree) (samples : List Sample) → Holds names tree samples → HasDistinctNames names → SameOwn samples (tree_samples names tree)
stacks-held names tree samples held distinct stack = elim (cases_lt 0 (own_at stack samples)) [
  | inl some ↦
      let weighs : 0 < total_at stack (sampled names held.rows) = subst (λ (xs : List Sample). 0 < total_at stack xs) held.samples_are (omega (arith, some, own_at-le stack samples)) in
      let found = has_numbers names stack held.rows weighs in
      let known = holds-known names tree samples held found.path (omega (arith, found.weighs, holds-total names tree samples held found.path)) in
      own_stack names tree samples held distinct stack found.path found.is known
  | inr none ↦ elim (cases_lt 0 (own_at stack (tree_samples names tree))) [
    | inl some ↦
        let found = has_numbers names stack (entries tree) (omega (arith, some, own_at-le stack (tree_samples names tree))) in
        let known = path_in names (entries tree) found.path (entries_named names tree (holds-numbers names tree samples held)) found.weighs in
        own_stack names tree samples held distinct stack found.path found.is known
    | inr also ↦ omega (arith, none, also)
  ]
]

pub sums-held : (names : List (List ℕ)) (tree : Tree) (samples : List Sample) → Holds names tree samples → HasDistinctNames names → HasSumsOf names tree samples
sums-held names tree samples held distinct = record {
  total = total-held names tree samples held distinct;
  own = own-held names tree samples held distinct;
  distinct = distinct;
  numbers = holds-numbers names tree samples held;
  stacks = stacks-held names tree samples held distinct;
}
