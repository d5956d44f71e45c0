-- The nodes of a tree, visited in the order of their names, are its listing.
use Rattle.std.proofs.Common.{◌≡◌, ℕ, ◌+◌, ◌-◌, ◌<◌, ◌≤◌, inl, inr, false, List, [], ◌∷◌, ◌++◌, length, get_or, map, take, refl, sym, ap, subst, ◌∙◌, arith, suc, ◌==◌, if◌then◌else◌}
use Rattle.std.specs.Ordering.{nat_cmp}
use Rattle.std.specs.Cmp.Lexicographic.{slice_cmp}
use Rattle.std.proofs.lemmas.List.{length-map, length-append, map-append, get_or-map, get_or_default, take_more, take_all}
use Rattle.std.proofs.Math.Seq.{get_or-append_seam}
use borrow.Author.Tests.{eqb-true}
use Rattle.call_tree.specs.declared.listing.Visit.{Visit}
use Rattle.call_tree.specs.declared.links.Link.{Link}
use Rattle.call_tree.specs.CallTree.{total_weight, tree_of}
use Rattle.call_tree.specs.FrameTable.{HasDistinctNames}
use Rattle.call_tree.specs.Listing.{named, visit_of, HasNumbersOf, IsListing}
use Rattle.call_tree.specs.checked.NodeOrder.{HasFramesOf, LeadsByName, visit_at}
use Rattle.call_tree.specs.checked.Nodes.{path_of, samples_of, IsTree}
use Rattle.call_tree.proofs.Found.{total_found, own_found, root_total, positive_node, node_positive}
use Rattle.call_tree.proofs.Paths.{path_of_root}
use Rattle.call_tree.proofs.Shape.{origin, root_or_stands}
use Rattle.call_tree.proofs.TreeSums.{total_weight-tree_of}
use Rattle.call_tree.proofs.Walk.{total_of-le}
use Rattle.call_tree.proofs.Weights.{not_true}

-- two functions that agree on a list's elements map it alike
map_same : {A B : Type 0} (f g : A → B) (xs : List A) → ((i : ℕ) (d : A) → i < length xs → f (get_or xs i d) ≡ g (get_or xs i d)) → map f xs ≡ map g xs
map_same f g [] same = refl
map_same f g (x ∷ xs) same = λ i. same 0 x (omega arith) i ∷ map_same f g xs (λ k d lt. same (suc k) d (omega arith)) i

map_map : {A B C : Type 0} (f : B → C) (g : A → B) (xs : List A) → map (λ x. f (g x)) xs ≡ map f (map g xs)
map_map f g [] = refl
map_map f g (x ∷ xs) = λ i. f (g x) ∷ map_map f g xs i

last_of : (front : List ℕ) (f : ℕ) → get_or (front ++ f ∷ []) (length (front ++ f ∷ []) - 1) 0 ≡ f
last_of front f = ap (λ n. get_or (front ++ f ∷ []) n 0) (omega (arith, length-append front (f ∷ []))) ∙ get_or-append_seam front f [] 0

-- where the grand total is 0 there is nothing to list
pub listed_nothing : (names : List (List ℕ)) (links : List Link) (owns totals : List ℕ) → HasDistinctNames names → IsTree links owns totals → get_or totals 0 0 ≡ 0 → IsListing names (tree_of (samples_of links owns)) []
listed_nothing names links owns totals d t none = record {
  distinct = d;
  paths = [];
  are = refl;
  rises = λ i j lt lj. absurd (omega arith);
  members = λ path. (
    (λ has. absurd (omega (arith, has.1))),
    (λ pos. absurd (omega (
      arith,
      pos,
      none,
      root_total links owns totals t,
      total_weight-tree_of (samples_of links owns) path,
      total_weight-tree_of (samples_of links owns) [],
      total_of-le (samples_of links owns) path,
    ))),
  );
}

-- the first k visits are made, and the next one is of `node`
pub record IsVisited (names : List (List ℕ)) (links : List Link) (owns totals next : List ℕ) (k node : ℕ) (visits : List Visit) : Type 0 where
  pub lead : LeadsByName names links next
  pub here : k < length lead.order → node ≡ get_or lead.order k 0
  pub are : visits ≡ map (λ n. visit_at links owns totals (length (path_of links n)) n) (take k lead.order)

module _ (names : List (List ℕ)) (links : List Link) (owns totals : List ℕ) (t : IsTree links owns totals) where
  -- the frames of the links are the table's numbers
  pub link_frames : HasNumbersOf names (tree_of (samples_of links owns)) → HasFramesOf names links
  link_frames within at d lt = elim (root_or_stands links owns totals t.shape (at + 1) (omega arith)) [
    | inl z ↦ absurd (omega arith)
    | inr st ↦
        let same : st.at ≡ at = omega (arith, st.is) in
        let here = within _ _ (node_positive links owns totals t _ st.at st.within (ap (path_of links) (sym st.is) ∙ st.path)) in
        subst (λ (x : Link). x.frame < length names) (ap (λ k. get_or links k origin) same ∙ get_or_default links at origin d lt) here
  ]

  frame_at : (node : ℕ) → node < length links + 1 → get_or (path_of links node) (length (path_of links node) - 1) 0 ≡ (visit_at links owns totals 0 node).frame
  frame_at node lt = elim (root_or_stands links owns totals t.shape node lt) [
    | inl z ↦ subst (λ n. get_or (path_of links n) (length (path_of links n) - 1) 0 ≡ (visit_at links owns totals 0 n).frame) (sym z)
        (ap (λ p. get_or p (length p - 1) 0) (path_of_root links))
    | inr st ↦
        let some : (node == 0) ≡ false = not_true (node == 0) (λ e. let z : node ≡ 0 = eqb-true node 0 e in omega (arith, st.is)) in
        let before : node - 1 ≡ st.at = omega (arith, st.is) in
        ap (λ p. get_or p (length p - 1) 0) st.path ∙ last_of (path_of links (get_or links st.at origin).parent) (get_or links st.at origin).frame
        ∙ ap (λ k. (get_or links k origin).frame) (sym before)
        ∙ ap (λ b. if b then 0 else (get_or links (node - 1) origin).frame) (sym some)
  ]

  visit_same : (node : ℕ) → node < length links + 1 → visit_of (tree_of (samples_of links owns)) (path_of links node) ≡ visit_at links owns totals (length (path_of links node)) node
  visit_same node lt =
      let frame = frame_at node lt in
      let total = total_found links owns totals t (path_of links node) node (lt, refl) in
      let own = own_found links owns totals t (path_of links node) node (lt, refl) in
      λ i. record { depth = length (path_of links node); frame = frame i; total = sym total i; own = sym own i }

  listed_node : 0 < get_or totals 0 0 → (node : ℕ) → node < length links + 1 → 0 < total_weight (tree_of (samples_of links owns)) (path_of links node)
  listed_node root node lt = elim (root_or_stands links owns totals t.shape node lt) [
    | inl z ↦ subst (λ n. 0 < total_weight (tree_of (samples_of links owns)) (path_of links n)) (sym z)
        (subst (λ p. 0 < total_weight (tree_of (samples_of links owns)) p) (sym (path_of_root links)) (subst (λ n. 0 < n) (root_total links owns totals t) root))
    | inr st ↦ node_positive links owns totals t (path_of links node) st.at st.within (ap (path_of links) (sym st.is))
  ]

  module _ (next : List ℕ) (lead : LeadsByName names links next) where
    node_within : (i : ℕ) (d : ℕ) → i < length lead.order → get_or lead.order i d < length links + 1
    node_within i d lt = (lead.members (get_or lead.order i d)).0 (i, lt, get_or_default lead.order i (get_or lead.order i d) d lt)

    listed_order : HasDistinctNames names → 0 < get_or totals 0 0 → (visits : List Visit) → visits ≡ map (λ n. visit_at links owns totals (length (path_of links n)) n) lead.order
        → IsListing names (tree_of (samples_of links owns)) visits
    listed_order d root visits are = record {
      distinct = d;
      paths = map (path_of links) lead.order;
      are = are
          ∙ sym (map_same (λ n. visit_of (tree_of (samples_of links owns)) (path_of links n)) (λ n. visit_at links owns totals (length (path_of links n)) n) lead.order
          (λ i d lt. visit_same (get_or lead.order i d) (node_within i d lt)))
          ∙ map_map (visit_of (tree_of (samples_of links owns))) (path_of links) lead.order;
      rises = λ i j lt lj.
          let within : j < length lead.order = omega (arith, length-map lead.order (path_of links)) in
          ap (λ p. slice_cmp (slice_cmp nat_cmp) (named names p) (named names (get_or (map (path_of links) lead.order) j []))) (get_or-map (path_of links) lead.order i 0 [] (omega (arith, within)))
          ∙ ap (λ p. slice_cmp (slice_cmp nat_cmp) (named names (path_of links (get_or lead.order i 0))) (named names p)) (get_or-map (path_of links) lead.order j 0 [] within)
          ∙ lead.rises i j lt within;
      members = λ path. (
        (λ has.
            let lt : has.0 < length lead.order = omega (arith, has.1, length-map lead.order (path_of links)) in
            let is : path_of links (get_or lead.order has.0 0) ≡ path = sym (get_or-map (path_of links) lead.order has.0 0 path lt) ∙ has.2 in
            subst (λ p. 0 < total_weight (tree_of (samples_of links owns)) p) is (listed_node root (get_or lead.order has.0 0) (node_within has.0 0 lt))),
        (λ pos.
            let found = positive_node links owns totals t path pos in
            let there = (lead.members found.0).1 found.1 in
            (there.0, omega (arith, there.1, length-map lead.order (path_of links)), get_or-map (path_of links) lead.order there.0 found.0 path there.1 ∙ ap (path_of links) there.2 ∙ found.2)),
      );
    }

  -- before the first visit
  pub none_visited : (next : List ℕ) → LeadsByName names links next → (visits : List Visit) → visits ≡ [] → IsVisited names links owns totals next 0 0 visits
  none_visited next lead visits none = record { lead = lead; here = λ lt. sym lead.first; are = none }

  module _ (next : List ℕ) (k node : ℕ) (visits : List Visit) (v : IsVisited names links owns totals next k node visits) where
    -- the node to be visited
    pub visited_within : k < length next → node < length links + 1
    visited_within lt = let inside : k < length v.lead.order = omega (arith, v.lead.len, v.lead.count) in subst (λ n. n < length links + 1) (sym (v.here inside)) (node_within next v.lead k 0 inside)

    -- one more visit
    pub one_visited : k < length next → (depth after : ℕ) → depth ≡ length (path_of links node) → after ≡ get_or next node 0 → (new : List Visit) → new ≡ visits ++ visit_at links owns totals depth node ∷ []
        → IsVisited names links owns totals next (k + 1) after new
    one_visited lt depth after deep leads new is =
        let inside : k < length v.lead.order = omega (arith, v.lead.len, v.lead.count) in
        record {
          lead = v.lead;
          here = λ more. leads ∙ ap (λ n. get_or next n 0) (v.here inside) ∙ v.lead.follows k more;
          are = is
              ∙ (λ i. v.are i ++ visit_at links owns totals (deep i) node ∷ [])
              ∙ ap (λ n. map (λ m. visit_at links owns totals (length (path_of links m)) m) (take k v.lead.order) ++ visit_at links owns totals (length (path_of links n)) n ∷ []) (v.here inside)
              ∙ sym (map-append (λ m. visit_at links owns totals (length (path_of links m)) m) (take k v.lead.order) (get_or v.lead.order k 0 ∷ []))
              ∙ ap (map (λ m. visit_at links owns totals (length (path_of links m)) m)) (sym (take_more v.lead.order k 0 inside));
        }

    -- behind the last visit
    pub listed : HasDistinctNames names → length next ≤ k → (get_or totals 0 0 ≡ 0 → ⊥) → IsListing names (tree_of (samples_of links owns)) visits
    listed d le root = listed_order next v.lead d (omega arith) visits (v.are ∙ ap (map (λ m. visit_at links owns totals (length (path_of links m)) m)) (take_all k v.lead.order (omega (arith, v.lead.len, v.lead.count))))
