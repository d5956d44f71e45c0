-- Where the nodes of a tree stand: each below its parent, and with each path the fronts of it.
use Rattle.std.proofs.Common.{◌≡◌, ℕ, ◌+◌, ◌<◌, ◌≤◌, ◌⊎◌, inl, inr, true, false, List, [], ◌∷◌, ◌++◌, length, get_or, reverse, sym, ap, ◌∙◌, arith, append_assoc, nat_eq}
use Rattle.std.proofs.lemmas.List.{append-nil, reverse-append, reverse-reverse, get_or_default}
use Rattle.call_tree.specs.declared.links.Link.{Link}
use Rattle.call_tree.specs.PathSums.{begins_with}
use Rattle.call_tree.specs.checked.Links.{IsNoLink}
use Rattle.call_tree.specs.checked.Nodes.{path_of, HasShape}
use Rattle.call_tree.proofs.Begins.{begins_with_rest, begins_with-append, same_ends, no_push_empty}
use Rattle.call_tree.proofs.Steps.{zero_or_more}
use Rattle.call_tree.proofs.Weights.{not_true}
use Rattle.call_tree.proofs.Paths.{path_of_root, path_of_child}

abbrev pub origin : Link
origin = record { parent = 0; frame = 0 }

-- node i stands at a link
pub record Stands (links : List Link) (i : ℕ) : Type 0 where
  pub at : ℕ
  pub is : i ≡ at + 1
  pub within : at < length links
  pub before : (get_or links at origin).parent ≤ at
  pub path : path_of links i ≡ path_of links (get_or links at origin).parent ++ (get_or links at origin).frame ∷ []

module _ (links : List Link) (owns totals : List ℕ) (s : HasShape links owns totals) where
  -- a node is the root or stands at a link
  pub root_or_stands : (i : ℕ) → i < length links + 1 → (i ≡ 0) ⊎ Stands links i
  root_or_stands i lt = elim (zero_or_more i) [
    | inl z ↦ inl z
    | inr m ↦ inr (record {
      at = m.0;
      is = m.1;
      within = omega arith;
      before = s.after_parent m.0 origin (omega arith);
      path = ap (path_of links) m.1 ∙ path_of_child links m.0 origin (omega arith) (s.after_parent m.0 origin (omega arith));
    })
  ]

  -- a node whose path has a last frame stands at a link
  pub stands : (i : ℕ) (front : List ℕ) (f : ℕ) → i < length links + 1 → path_of links i ≡ front ++ f ∷ [] → Stands links i
  stands i front f lt e = elim (root_or_stands i lt) [
    | inl z ↦ absurd (no_push_empty front f (sym (path_of_root links) ∙ ap (path_of links) (sym z) ∙ e))
    | inr st ↦ st
  ]

  -- and its parent has the path before that frame
  pub parent_path : (i : ℕ) (front : List ℕ) (f : ℕ) (st : Stands links i) → path_of links i ≡ front ++ f ∷ [] → path_of links (get_or links st.at origin).parent ≡ front
  parent_path i front f st e = (same_ends _ front _ f (sym st.path ∙ e)).fronts

  pub last_frame : (i : ℕ) (front : List ℕ) (f : ℕ) (st : Stands links i) → path_of links i ≡ front ++ f ∷ [] → (get_or links st.at origin).frame ≡ f
  last_frame i front f st e = (same_ends _ front _ f (sym st.path ∙ e)).lasts

  -- the child of `node` under f, whose path is the node's and f, stands at that very link
  pub child_link : (i node : ℕ) (front : List ℕ) (f : ℕ) (st : Stands links i) → node < length links + 1 → path_of links node ≡ front → path_of links i ≡ front ++ f ∷ []
      → get_or links st.at origin ≡ record { parent = node; frame = f }
  child_link i node front f st lt is e =
      let same : (get_or links st.at origin).parent ≡ node = s.distinct _ node (omega arith) lt (parent_path i front f st e ∙ sym is) in
      let frame : (get_or links st.at origin).frame ≡ f = last_frame i front f st e in
      λ j. record { parent = same j; frame = frame j }

  front_node_by : (i : ℕ) (q ends : List ℕ) → i < length links + 1 → path_of links i ≡ q ++ reverse ends → (j : ℕ) × (j < length links + 1) × (path_of links j ≡ q)
  front_node_by i q [] lt e = (i, lt, e ∙ append-nil q)
  front_node_by i q (x ∷ ends) lt e =
      let pushed : path_of links i ≡ (q ++ reverse ends) ++ x ∷ [] = e ∙ ap (λ r. q ++ r) (reverse-append (x ∷ []) ends) ∙ sym (append_assoc q (reverse ends) (x ∷ [])) in
      let st = stands i (q ++ reverse ends) x lt pushed in
      front_node_by (get_or links st.at origin).parent q ends (omega (arith, st.before, st.within)) (parent_path i (q ++ reverse ends) x st pushed)

  -- the fronts of a node's path are paths of nodes
  pub front_node : (i : ℕ) (q : List ℕ) → i < length links + 1 → begins_with nat_eq q (path_of links i) ≡ true → (j : ℕ) × (j < length links + 1) × (path_of links j ≡ q)
  front_node i q lt e =
      let rest = begins_with_rest q (path_of links i) e in
      front_node_by i q (reverse rest.0) lt (rest.1 ∙ ap (λ r. q ++ r) (sym (reverse-reverse rest.0)))

  -- no node's path goes on from `node` by f, where the link under it is missing
  pub no_node : (node : ℕ) (front : List ℕ) (f : ℕ) (rest : List ℕ) → node < length links + 1 → path_of links node ≡ front
      → IsNoLink links (record { parent = node; frame = f })
      → (i : ℕ) → i < length links + 1 → begins_with nat_eq ((front ++ f ∷ []) ++ rest) (path_of links i) ≡ false
  no_node node front f rest lt is none i li =
      not_true _ (λ t.
      let more = begins_with_rest ((front ++ f ∷ []) ++ rest) (path_of links i) t in
      let onward : path_of links i ≡ (front ++ f ∷ []) ++ (rest ++ more.0) = more.1 ∙ append_assoc (front ++ f ∷ []) rest more.0 in
      let up = front_node i (front ++ f ∷ []) li (ap (begins_with nat_eq (front ++ f ∷ [])) onward ∙ begins_with-append (front ++ f ∷ []) (rest ++ more.0)) in
      let st = stands up.0 front f up.1 up.2 in
      let here = child_link up.0 node front f st lt is up.2 in
      none st.at st.within (get_or_default links st.at _ origin st.within ∙ here))

  -- the path of the node at a known link
  pub path_at : (at node : ℕ) (front : List ℕ) (f : ℕ) → at < length links → get_or links at (record { parent = node; frame = f }) ≡ record { parent = node; frame = f }
      → path_of links node ≡ front → path_of links (at + 1) ≡ front ++ f ∷ []
  path_at at node front f lt is path =
      path_of_child links at (record { parent = node; frame = f }) lt (s.after_parent at (record { parent = node; frame = f }) lt)
      ∙ ap (λ (x : Link). path_of links x.parent ++ x.frame ∷ []) is ∙ ap (λ p. p ++ f ∷ []) path
