-- What a tree's nodes say of its weights.
use Rattle.std.specs.FinMap as map
use Rattle.std.proofs.Common.{◌≡◌, ℕ, ◌+◌, ◌<◌, ◌≤◌, ◌↔◌, Bool, true, false, List, [], ◌∷◌, ◌++◌, length, get_or, drop, nat_eq, Contains, refl, sym, ap, subst, ◌∙◌, arith, append_assoc, true≢false, if◌then◌else◌}
use Rattle.std.specs.Cmp.Lexicographic.{pointwise}
use Rattle.std.proofs.lemmas.List.{get_or_default, length-drop, get_or-drop}
use Rattle.std.proofs.lemmas.Slice.Eq.{bytes_eq-Decides}
use Rattle.call_tree.specs.declared.links.Link.{Link}
use Rattle.call_tree.specs.PathSums.{begins_with, total_of, own_of}
use Rattle.call_tree.specs.CallTree.{own_weight, total_weight, with_weight, tree_of, IsChildren, IsNodeCount}
use Rattle.call_tree.specs.checked.Nodes.{paths_of, path_of, samples_of, HasShape, IsTree, IsNodeOf, HasChild}
use Rattle.call_tree.proofs.Begins.{begins_with-pointwise, begins_with_rest, begins_with-append}
use Rattle.call_tree.proofs.Paths.{length-paths_of, path_of_root}
use Rattle.call_tree.proofs.Shape.{origin, front_node, stands, child_link, path_at}
use Rattle.call_tree.proofs.TreeSums.{total_weight-tree_of, own_weight-tree_of}
use Rattle.call_tree.proofs.Weights.{not_true, sum_none, sum_one, sum_some, sum_where_le}

module _ (links : List Link) (owns : List ℕ) where
  pub total_none : (path : List ℕ) → ((i : ℕ) → i < length links + 1 → begins_with nat_eq path (path_of links i) ≡ false)
      → total_weight (tree_of (samples_of links owns)) path ≡ 0
  unfolding total_of
  total_none path none =
      total_weight-tree_of (samples_of links owns) path
      ∙ sum_none (begins_with nat_eq path) (paths_of links) owns (λ k lt. none k (omega (arith, length-paths_of links)))

  pub own_none : (path : List ℕ) → ((i : ℕ) → i < length links + 1 → begins_with nat_eq path (path_of links i) ≡ false)
      → own_weight (tree_of (samples_of links owns)) path ≡ 0
  unfolding own_of
  own_none path none =
      own_weight-tree_of (samples_of links owns) path
      ∙ sum_none (pointwise nat_eq path) (paths_of links) owns (λ k lt. begins_with-pointwise path (path_of links k) (none k (omega (arith, length-paths_of links))))

  pub own_at : (totals : List ℕ) → HasShape links owns totals → (path : List ℕ) (node : ℕ) → IsNodeOf links path node → get_or owns node 0 ≡ own_of nat_eq (samples_of links owns) path
  unfolding own_of
  own_at totals s path node is =
      let long : length (paths_of links) ≡ length owns = length-paths_of links ∙ sym s.owns_len in
      let within : node < length (paths_of links) = omega (arith, length-paths_of links, is.0) in
      sym (sum_one (pointwise nat_eq path) (paths_of links) owns node long within
      ((bytes_eq-Decides path (path_of links node)).1 (sym is.1))
      (λ k lt e. s.distinct k node (omega (arith, length-paths_of links)) is.0 (sym ((bytes_eq-Decides path (path_of links k)).0 e) ∙ sym is.1)))

  -- no node's own weight is above the grand total
  pub own_le : (totals : List ℕ) → HasShape links owns totals → (path : List ℕ) (node : ℕ) → IsNodeOf links path node → get_or owns node 0 ≤ total_weight (tree_of (samples_of links owns)) []
  unfolding own_of total_of
  own_le totals s path node is =
      omega (arith, own_at totals s path node is, sum_where_le (pointwise nat_eq path) (samples_of links owns), total_weight-tree_of (samples_of links owns) [])

  module _ (totals : List ℕ) (t : IsTree links owns totals) where
    pub total_found : (path : List ℕ) (node : ℕ) → IsNodeOf links path node → get_or totals node 0 ≡ total_weight (tree_of (samples_of links owns)) path
    total_found path node is =
        t.sums node is.0 ∙ ap (total_of nat_eq (samples_of links owns)) is.1 ∙ sym (total_weight-tree_of (samples_of links owns) path)

    pub own_found : (path : List ℕ) (node : ℕ) → IsNodeOf links path node → get_or owns node 0 ≡ own_weight (tree_of (samples_of links owns)) path
    own_found path node is = own_at totals t.shape path node is ∙ sym (own_weight-tree_of (samples_of links owns) path)

    pub root_total : get_or totals 0 0 ≡ total_weight (tree_of (samples_of links owns)) []
    root_total = total_found [] 0 (omega arith, path_of_root links)

    -- a path with weight is a node's
    pub positive_node : (path : List ℕ) → 0 < total_weight (tree_of (samples_of links owns)) path → (j : ℕ) × (j < length links + 1) × (path_of links j ≡ path)
    unfolding total_of
    positive_node path pos =
        let sum : total_weight (tree_of (samples_of links owns)) path ≡ total_of nat_eq (samples_of links owns) path = total_weight-tree_of (samples_of links owns) path in
        let some = sum_some (begins_with nat_eq path) (paths_of links) owns (subst (λ n. 0 < n) sum pos) in
        front_node links owns totals t.shape some.0 path (omega (arith, length-paths_of links, some.1)) some.2

    -- and a node other than the root has weight
    pub node_positive : (path : List ℕ) (at : ℕ) → at < length links → path_of links (at + 1) ≡ path → 0 < total_weight (tree_of (samples_of links owns)) path
    node_positive path at lt is =
        subst (λ n. 0 < n) (total_found path (at + 1) (omega arith, is)) (t.positive (at + 1) (omega arith) (omega arith))

    below_path : (node : ℕ) (path : List ℕ) (n : ℕ) → IsNodeOf links path node → HasChild links node n → 0 < total_weight (tree_of (samples_of links owns)) (path ++ n ∷ [])
    below_path node path n is child = node_positive (path ++ n ∷ []) child.0 child.1 (path_at links owns totals t.shape child.0 node path n child.1 child.2 is.1)

    path_below : (node : ℕ) (path : List ℕ) (n : ℕ) → IsNodeOf links path node → 0 < total_weight (tree_of (samples_of links owns)) (path ++ n ∷ []) → HasChild links node n
    path_below node path n is pos =
        let found = positive_node (path ++ n ∷ []) pos in
        let st = stands links owns totals t.shape found.0 path n found.1 found.2 in
        let here = child_link links owns totals t.shape found.0 node path n st is.0 is.1 found.2 in
        (st.at, st.within, get_or_default links st.at _ origin st.within ∙ here)

    -- the children of a path's node are those by which the path goes on with weight
    pub children_found : (node : ℕ) (path frames : List ℕ) → IsNodeOf links path node
        → ((i j : ℕ) → i < j → j < length frames → get_or frames i 0 < get_or frames j 0)
        → ((n : ℕ) → Contains frames n ↔ HasChild links node n)
        → IsChildren (tree_of (samples_of links owns)) path frames
    children_found node path frames is rises members = record {
      rises = rises;
      members = λ n. ((λ has. below_path node path n is ((members n).0 has)), (λ pos. (members n).1 (path_below node path n is pos)));
    }

    -- the paths of all nodes but the root
    pub node_count : IsNodeCount (tree_of (samples_of links owns)) (length links + 1)
    node_count = record {
      paths = drop 1 (paths_of links);
      distinct = λ i j li lj same.
          omega (arith, t.shape.distinct (i + 1) (j + 1) (within i li) (within j lj) (sym (at i) ∙ same ∙ at j));
      below_root = λ front n. (
        (λ has. node_positive (front ++ n ∷ []) has.0 (omega (arith, long, has.1)) (sym (at has.0) ∙ get_or_default (drop 1 (paths_of links)) has.0 _ _ has.1 ∙ has.2)),
        (λ pos.
            let found = positive_node (front ++ n ∷ []) pos in
            let st = stands links owns totals t.shape found.0 front n found.1 found.2 in
            (st.at, omega (arith, long, st.within), get_or_default (drop 1 (paths_of links)) st.at _ [] (omega (arith, long, st.within)) ∙ at st.at ∙ ap (path_of links) (sym st.is) ∙ found.2)),
      );
      no_root = λ has.
          let z = t.shape.distinct (has.0 + 1) 0 (omega (arith, long, has.1)) (omega arith) (sym (at has.0) ∙ has.2 ∙ sym (path_of_root links)) in
          omega arith;
      count = omega (arith, long);
    }
      where
        long : length (drop 1 (paths_of links)) ≡ length links
        long = omega (arith, length-drop 1 (paths_of links), length-paths_of links)

        at : (i : ℕ) → get_or (drop 1 (paths_of links)) i [] ≡ path_of links (i + 1)
        at i = get_or-drop 1 (paths_of links) i [] ∙ ap (path_of links) (omega arith)

        within : (i : ℕ) → i < length (drop 1 (paths_of links)) → i + 1 < length links + 1
        within i lt = omega (arith, long)

-- where no node's path begins with the path, it has no children
pub no_children : (links : List Link) (owns : List ℕ) (path : List ℕ) → ((i : ℕ) → i < length links + 1 → begins_with nat_eq path (path_of links i) ≡ false)
    → IsChildren (tree_of (samples_of links owns)) path []
no_children links owns path none = record {
  rises = λ i j lt lj. absurd (omega arith);
  members = λ n. (
    (λ has. absurd (omega (arith, has.1))),
    (λ pos. absurd (positive_not_zero (total_none links owns (path ++ n ∷ []) (λ i li. not_true _ (λ e.
        let rest = begins_with_rest (path ++ n ∷ []) (path_of links i) e in
        true≢false (sym (ap (begins_with nat_eq path) (rest.1 ∙ append_assoc path (n ∷ []) rest.0) ∙ begins_with-append path (n ∷ [] ++ rest.0)) ∙ none i li)))) pos)),
  );
}
  where
    positive_not_zero : {m : ℕ} → m ≡ 0 → 0 < m → ⊥
    positive_not_zero e lt = omega arith

-- the tree of the root alone
pub IsTree-root : IsTree [] (0 ∷ []) (0 ∷ [])
unfolding paths_of total_of
IsTree-root = record {
  shape = record {
    owns_len = refl;
    totals_len = refl;
    after_parent = λ i d lt. absurd (omega arith);
    distinct = λ i j li lj same. omega arith;
  };
  sums = λ i lt. none i (omega arith);
  positive = λ i pos lt. absurd (omega arith);
}
  where
    none : (i : ℕ) → i ≡ 0 → get_or (0 ∷ []) i 0 ≡ total_of nat_eq (samples_of [] (0 ∷ [])) (path_of [] i)
    none i e = ap (λ k. get_or (0 ∷ []) k 0) e ∙ by (begins_with nat_eq (path_of [] i) [])
      where
        by : (b : Bool) → 0 ≡ 0 + (if b then 0 else 0)
        by true = refl
        by false = refl

pub tree_of-root : tree_of (samples_of [] (0 ∷ [])) ≡ map.empty
unfolding paths_of with_weight
tree_of-root = refl
