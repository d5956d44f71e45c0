-- What a walk from the root along a path leaves, as it adds a weight to the totals on the way.
use Rattle.std.proofs.Common.{◌≡◌, ℕ, ◌+◌, ◌<◌, ◌≤◌, inl, inr, Bool, true, false, ◌||◌, List, [], ◌∷◌, ◌++◌, length, get_or, set, nat_eq, refl, sym, ap, subst, ◌∙◌, arith, if◌then◌else◌}
use Rattle.std.specs.Cmp.Lexicographic.{pointwise}
use Rattle.std.proofs.lemmas.Bool.{cases_eq}
use Rattle.std.proofs.lemmas.List.{length-set, get_or-set_same, get_or-set_other}
use Rattle.std.proofs.lemmas.Slice.Eq.{bytes_eq-Decides}
use Rattle.call_tree.specs.declared.links.Link.{Link}
use Rattle.call_tree.specs.PathSums.{begins_with, total_of, own_of}
use Rattle.call_tree.specs.CallTree.{total_weight, with_weight, tree_of}
use Rattle.call_tree.specs.checked.Nodes.{paths_of, path_of, samples_of, HasShape, IsTree, IsNodeOf}
use Rattle.call_tree.proofs.Begins.{begins_with_push, begins_with_longer, begins_with-itself}
use Rattle.call_tree.proofs.Paths.{length-paths_of, path_of_root}
use Rattle.call_tree.proofs.Shape.{root_or_stands, path_at}
use Rattle.call_tree.proofs.TreeSums.{total_weight-tree_of, own_weight-tree_of, own_weight-with_weight, IsPositive-tree_of, IsPositive-with_weight, same_tree}
use Rattle.call_tree.proofs.Weights.{not_true, sum_set, sum_where_le}

pub unequal_paths : (q path : List ℕ) → (q ≡ path → ⊥) → pointwise nat_eq q path ≡ false
unequal_paths q path apart = not_true _ (λ t. apart ((bytes_eq-Decides q path).0 t))

-- no sum is above the sum of all
pub total_of-le : (samples : List (List ℕ × ℕ)) (q : List ℕ) → total_of nat_eq samples q ≤ total_of nat_eq samples []
unfolding total_of
total_of-le samples q = sum_where_le (begins_with nat_eq q) samples

-- totals of which one has grown by w, where `before` and `after` say which have w more than the sum
grown : (totals : List ℕ) (child w : ℕ) (sum : ℕ → ℕ) (before after : ℕ → Bool) → child < length totals → before child ≡ false → after child ≡ true
    → (i : ℕ) → ((i ≡ child → ⊥) → after i ≡ before i) → get_or totals child 0 ≡ sum child + (if before child then w else 0)
    → get_or totals i 0 ≡ sum i + (if before i then w else 0)
    → get_or (set totals child (get_or totals child 0 + w)) i 0 ≡ sum i + (if after i then w else 0)
grown totals child w sum before after lt past now i others at_child at =
    elim (cases_eq i child) [
      | inl e ↦ ap (λ k. get_or (set totals child (get_or totals child 0 + w)) k 0) e ∙ get_or-set_same totals child _ 0 lt
          ∙ ap (λ n. n + w) (at_child ∙ ap (λ b. sum child + (if b then w else 0)) past) ∙ zero_more (sum child) w
          ∙ ap (λ b. sum child + (if b then w else 0)) (sym now) ∙ ap (λ k. sum k + (if after k then w else 0)) (sym e)
      | inr ne ↦ get_or-set_other totals child i _ 0 ne ∙ at ∙ ap (λ b. sum i + (if b then w else 0)) (sym (others ne))
    ]
  where
    zero_more : (n w : ℕ) → n + 0 + w ≡ n + w
    zero_more n w = omega arith

begins_nothing : (q : List ℕ) (f : ℕ) → begins_with nat_eq (q ++ f ∷ []) [] ≡ false
begins_nothing [] f = refl
begins_nothing (x ∷ q) f = refl

pub or_false : (a b : Bool) → b ≡ false → (a || b) ≡ a
or_false true b e = refl
or_false false b e = e

-- the nodes of a tree, but `weight` has been added to the totals of those from the root to `front`
pub record IsWalked (links : List Link) (owns totals : List ℕ) (front : List ℕ) (weight : ℕ) : Type 0 where
  pub shape : HasShape links owns totals
  pub sums : (i : ℕ) → i < length links + 1
      → get_or totals i 0 ≡ total_of nat_eq (samples_of links owns) (path_of links i) + (if begins_with nat_eq (path_of links i) front then weight else 0)
  pub positive : (i : ℕ) → 0 < i → i < length links + 1 → 0 < get_or totals i 0

module _ (links : List Link) (owns totals : List ℕ) where
  -- the root's total has the weight
  pub walk_starts : (w : ℕ) → IsTree links owns totals → IsWalked links owns (set totals 0 (get_or totals 0 0 + w)) [] w
  walk_starts w t = record {
    shape = record {
      owns_len = t.shape.owns_len;
      totals_len = length-set totals 0 _ ∙ t.shape.totals_len;
      after_parent = t.shape.after_parent;
      distinct = t.shape.distinct;
    };
    sums = λ i lt.
        grown totals 0 w (λ k. total_of nat_eq (samples_of links owns) (path_of links k)) (λ _. false) (λ k. begins_with nat_eq (path_of links k) [])
        first refl (ap (λ p. begins_with nat_eq p []) (path_of_root links)) i
        (λ ne. elim (root_or_stands links owns totals t.shape i lt) [
          | inl z ↦ absurd (ne z)
          | inr st ↦ ap (λ p. begins_with nat_eq p []) st.path ∙ begins_nothing _ _
        ])
        (t.sums 0 (omega arith) ∙ omega arith) (t.sums i lt ∙ omega arith);
    positive = λ i pos lt.
        let ne : i ≡ 0 → ⊥ = λ e. omega arith in
        subst (λ n. 0 < n) (sym (get_or-set_other totals 0 i _ 0 ne)) (t.positive i pos lt);
  }
    where
      first : 0 < length totals
      first = omega (arith, t.shape.totals_len)

  module _ (front : List ℕ) (w node f : ℕ) (k : IsWalked links owns totals front w) (is : IsNodeOf links front node) where
    -- the total of a known child is no more than the grand total
    pub child_total : (at : ℕ) → at < length links → get_or links at (record { parent = node; frame = f }) ≡ record { parent = node; frame = f }
        → get_or totals (at + 1) 0 ≤ total_weight (tree_of (samples_of links owns)) []
    child_total at lt stands_there =
        let path : path_of links (at + 1) ≡ front ++ f ∷ [] = path_at links owns totals k.shape at node front f lt stands_there is.1 in
        let past : begins_with nat_eq (path_of links (at + 1)) front ≡ false = ap (λ p. begins_with nat_eq p front) path ∙ begins_with_longer front f in
        let total : get_or totals (at + 1) 0 ≡ total_of nat_eq (samples_of links owns) (path_of links (at + 1)) + 0 =
        k.sums (at + 1) (omega arith) ∙ ap (λ b. total_of nat_eq (samples_of links owns) (path_of links (at + 1)) + (if b then w else 0)) past in
        omega (arith, total, total_of-le (samples_of links owns) (path_of links (at + 1)), total_weight-tree_of (samples_of links owns) [])

    -- the walk goes on to a known child
    pub walk_enters : (at : ℕ) → at < length links → get_or links at (record { parent = node; frame = f }) ≡ record { parent = node; frame = f }
        → IsWalked links owns (set totals (at + 1) (get_or totals (at + 1) 0 + w)) (front ++ f ∷ []) w
    walk_enters at lt stands_there =
        let path : path_of links (at + 1) ≡ front ++ f ∷ [] = path_at links owns totals k.shape at node front f lt stands_there is.1 in
        record {
          shape = record {
            owns_len = k.shape.owns_len;
            totals_len = length-set totals (at + 1) _ ∙ k.shape.totals_len;
            after_parent = k.shape.after_parent;
            distinct = k.shape.distinct;
          };
          sums = λ i li.
              grown totals (at + 1) w (λ j. total_of nat_eq (samples_of links owns) (path_of links j)) (λ j. begins_with nat_eq (path_of links j) front)
              (λ j. begins_with nat_eq (path_of links j) (front ++ f ∷ []))
              (omega (arith, k.shape.totals_len))
              (ap (λ p. begins_with nat_eq p front) path ∙ begins_with_longer front f)
              (ap (λ p. begins_with nat_eq p (front ++ f ∷ [])) path ∙ begins_with-itself (front ++ f ∷ []))
              i
              (λ ne. begins_with_push (path_of links i) front f
              ∙ or_false _ _ (unequal_paths _ _ (λ e. ne (k.shape.distinct i (at + 1) li (omega arith) (e ∙ sym path)))))
              (k.sums (at + 1) (omega arith)) (k.sums i li);
          positive = λ i pos li. elim (cases_eq i (at + 1)) [
            | inl e ↦
                let more : get_or (set totals (at + 1) (get_or totals (at + 1) 0 + w)) i 0 ≡ get_or totals (at + 1) 0 + w =
                ap (λ j. get_or (set totals (at + 1) (get_or totals (at + 1) 0 + w)) j 0) e ∙ get_or-set_same totals (at + 1) _ 0 (omega (arith, k.shape.totals_len)) in
                omega (arith, more, k.positive (at + 1) (omega arith) (omega arith))
            | inr ne ↦ subst (λ n. 0 < n) (sym (get_or-set_other totals (at + 1) i _ 0 ne)) (k.positive i pos li)
          ];
        }

  -- the walk ends: the weight is the node's own
  pub walk_ends : (front : List ℕ) (w node : ℕ) → IsWalked links owns totals front w → IsNodeOf links front node
      → IsTree links (set owns node (get_or owns node 0 + w)) totals
  unfolding total_of
  walk_ends front w node k is = record {
    shape = record {
      owns_len = length-set owns node _ ∙ k.shape.owns_len;
      totals_len = k.shape.totals_len;
      after_parent = k.shape.after_parent;
      distinct = k.shape.distinct;
    };
    sums = λ i li. k.sums i li
        ∙ ap (λ p. total_of nat_eq (samples_of links owns) (path_of links i) + (if begins_with nat_eq (path_of links i) p then w else 0)) (sym is.1)
        ∙ sym (sum_set (begins_with nat_eq (path_of links i)) (paths_of links) owns node w (length-paths_of links ∙ sym k.shape.owns_len) (omega (arith, k.shape.owns_len, is.0)));
    positive = k.positive;
  }

  pub walk_ends_tree : (front : List ℕ) (w node : ℕ) → IsWalked links owns totals front w → IsNodeOf links front node
      → tree_of (samples_of links (set owns node (get_or owns node 0 + w))) ≡ with_weight (tree_of (samples_of links owns)) front w
  unfolding own_of
  walk_ends_tree front w node k is =
      same_tree _ _ (IsPositive-tree_of (samples_of links (set owns node (get_or owns node 0 + w))))
      (IsPositive-with_weight (tree_of (samples_of links owns)) front w (IsPositive-tree_of (samples_of links owns)))
      (λ q. own_weight-tree_of (samples_of links (set owns node (get_or owns node 0 + w))) q
      ∙ sum_set (pointwise nat_eq q) (paths_of links) owns node w (length-paths_of links ∙ sym k.shape.owns_len) (omega (arith, k.shape.owns_len, is.0))
      ∙ ap (λ p. own_of nat_eq (samples_of links owns) q + (if pointwise nat_eq q p then w else 0)) is.1
      ∙ ap (λ n. n + (if pointwise nat_eq q front then w else 0)) (sym (own_weight-tree_of (samples_of links owns) q))
      ∙ sym (own_weight-with_weight (tree_of (samples_of links owns)) front w q))
