-- Names in the order in which they first appear.
use Rattle.std.proofs.Common.{◌≡◌, ℕ, Bool, true, false, List, [], ◌∷◌, ◌++◌, refl, sym, subst, arith, ap, if◌then◌else◌}
use Rattle.std.specs.List.{list_any}
use Rattle.std.specs.Str.{bytes_eq}
use Rattle.call_tree.specs.FrameTable.{with_name, HasDistinctNames}
use Rattle.call_tree.proofs.Names.{HasDistinctNames_push}
use Rattle.sample_tables.specs.declared.samples.Sample.{Sample}
use Rattle.ring_collect.specs.NamesInOrder.{with_stack, with_stacks, names_in_order}

-- one name more
pub with_stack_push : (names stack : List (List ℕ)) (name : List ℕ) → with_stack names (stack ++ name ∷ []) ≡ with_name (with_stack names stack) name
with_stack_push names [] name = refl
with_stack_push names (first ∷ stack) name = with_stack_push (with_name names first) stack name

with_stacks_push : (names : List (List ℕ)) (samples : List Sample) (sample : Sample) → with_stacks names (samples ++ sample ∷ []) ≡ with_stack (with_stacks names samples) sample.stack
with_stacks_push names [] sample = refl
with_stacks_push names (first ∷ samples) sample = with_stacks_push (with_stack names first.stack) samples sample

-- one sample more
pub names_in_order_push : (samples : List Sample) (sample : Sample) → names_in_order (samples ++ sample ∷ []) ≡ with_stack (names_in_order samples) sample.stack
names_in_order_push samples sample = with_stacks_push [] samples sample

distinct_name : (names : List (List ℕ)) (name : List ℕ) → HasDistinctNames names → HasDistinctNames (with_name names name)
distinct_name names name distinct = cases (list_any (bytes_eq name) names) refl
  where
    cases : (found : Bool) → list_any (bytes_eq name) names ≡ found → HasDistinctNames (with_name names name)
    cases true found = subst HasDistinctNames (sym (ap (λ b. if b then names else names ++ name ∷ []) found)) distinct
    cases false found = subst HasDistinctNames (sym (ap (λ b. if b then names else names ++ name ∷ []) found)) (HasDistinctNames_push names name distinct found)

distinct_stack : (names stack : List (List ℕ)) → HasDistinctNames names → HasDistinctNames (with_stack names stack)
distinct_stack names [] distinct = distinct
distinct_stack names (name ∷ stack) distinct = distinct_stack (with_name names name) stack (distinct_name names name distinct)

distinct_stacks : (names : List (List ℕ)) (samples : List Sample) → HasDistinctNames names → HasDistinctNames (with_stacks names samples)
distinct_stacks names [] distinct = distinct
distinct_stacks names (sample ∷ samples) distinct = distinct_stacks (with_stack names sample.stack) samples (distinct_stack names sample.stack distinct)

-- no name comes twice
pub names_in_order-distinct : (samples : List Sample) → HasDistinctNames (names_in_order samples)
names_in_order-distinct samples = distinct_stacks [] samples (λ i j below. absurd (omega arith))
