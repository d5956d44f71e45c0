-- A step of a walk, to a child that is known or new.
use Rattle.std.proofs.Common.{◌≡◌, ℕ, ◌+◌, ◌<◌, ◌≤◌, ◌⊎◌, inl, inr, List, [], ◌∷◌, ◌++◌, length, get_or, set, take, sym, ap, subst, ◌∙◌, arith}
use Rattle.std.proofs.lemmas.Grind.{get_or_default_zero}
use Rattle.std.proofs.lemmas.List.{take_all}
use Rattle.call_tree.specs.declared.links.Link.{Link}
use Rattle.call_tree.specs.CallTree.{total_weight, with_weight, tree_of}
use Rattle.call_tree.specs.checked.Nodes.{samples_of, IsTree, IsNodeOf, EntersChild, MakesChild}
use Rattle.call_tree.proofs.Found.{root_total, own_le}
use Rattle.call_tree.proofs.Shape.{path_at}
use Rattle.call_tree.proofs.Walk.{IsWalked, walk_enters, child_total, walk_ends, walk_ends_tree}
use Rattle.call_tree.proofs.WalkOn.{walk_makes, walk_makes_node, walk_makes_tree}

-- the walk is at `front`, and the tree has the same weights as the first one
pub record IsOnTheWay (links : List Link) (owns totals : List ℕ) (first_links : List Link) (first_owns : List ℕ) (front : List ℕ) (w node : ℕ) : Type 0 where
  pub walked : IsWalked links owns totals front w
  pub at : IsNodeOf links front node
  pub same : tree_of (samples_of links owns) ≡ tree_of (samples_of first_links first_owns)

module _ {links new_links first_links : List Link} {owns new_owns first_owns totals new_totals front : List ℕ} {w node f child : ℕ}
    (on : IsOnTheWay links owns totals first_links first_owns front w node) where
  by_known : EntersChild links new_links owns new_owns totals new_totals (record { parent = node; frame = f }) w child
      → IsOnTheWay new_links new_owns new_totals first_links first_owns (front ++ f ∷ []) w child
  by_known e =
      let grown : new_totals ≡ set totals (e.at + 1) (get_or totals (e.at + 1) 0 + w) = e.total_grows ∙ ap (λ n. set totals n (get_or totals n 0 + w)) e.child_is in
      record {
        walked = subst (λ p. IsWalked p new_owns new_totals (front ++ f ∷ []) w) (sym e.links_stay)
            (subst (λ o. IsWalked links o new_totals (front ++ f ∷ []) w) (sym e.owns_stay)
            (subst (λ t. IsWalked links owns t (front ++ f ∷ []) w) (sym grown)
            (walk_enters links owns totals front w node f on.walked on.at e.at e.within e.stands)));
        at = subst (λ p. IsNodeOf p (front ++ f ∷ []) child) (sym e.links_stay)
            (subst (IsNodeOf links (front ++ f ∷ [])) (sym e.child_is)
            (omega (arith, e.within), path_at links owns totals on.walked.shape e.at node front f e.within e.stands on.at.1));
        same = (λ i. tree_of (samples_of (e.links_stay i) (e.owns_stay i))) ∙ on.same;
      }

  by_new : 0 < w → MakesChild links new_links owns new_owns totals new_totals (record { parent = node; frame = f }) w child
      → IsOnTheWay new_links new_owns new_totals first_links first_owns (front ++ f ∷ []) w child
  by_new pos e = record {
    walked = subst (λ p. IsWalked p new_owns new_totals (front ++ f ∷ []) w) (sym e.links_grow)
        (subst (λ o. IsWalked (links ++ record { parent = node; frame = f } ∷ []) o new_totals (front ++ f ∷ []) w) (sym e.owns_grow)
        (subst (λ t. IsWalked (links ++ record { parent = node; frame = f } ∷ []) (owns ++ 0 ∷ []) t (front ++ f ∷ []) w) (sym e.totals_grow)
        (walk_makes links owns totals front w node f on.walked on.at e.absent pos)));
    at = subst (λ p. IsNodeOf p (front ++ f ∷ []) child) (sym e.links_grow)
        (subst (IsNodeOf (links ++ record { parent = node; frame = f } ∷ []) (front ++ f ∷ [])) (sym e.child_is)
        (walk_makes_node links owns totals front w node f on.walked on.at e.absent));
    same = (λ i. tree_of (samples_of (e.links_grow i) (e.owns_grow i))) ∙ walk_makes_tree links owns totals front w node f on.walked on.at e.absent ∙ on.same;
  }

  -- the walk goes on to the child
  pub walk_steps : 0 < w
      → EntersChild links new_links owns new_owns totals new_totals (record { parent = node; frame = f }) w child
      ⊎ MakesChild links new_links owns new_owns totals new_totals (record { parent = node; frame = f }) w child
      → IsOnTheWay new_links new_owns new_totals first_links first_owns (front ++ f ∷ []) w child
  walk_steps pos (inl e) = by_known e
  walk_steps pos (inr e) = by_new pos e

-- a known child's total has room for the weight, where the grand total has
pub child_fits : {links first_links : List Link} {owns first_owns totals first_totals front : List ℕ} {w node : ℕ} (f bound : ℕ)
    → IsTree first_links first_owns first_totals → IsOnTheWay links owns totals first_links first_owns front w node → get_or first_totals 0 0 + w < bound
    → (at : ℕ) → at < length links → get_or links at (record { parent = node; frame = f }) ≡ record { parent = node; frame = f } → get_or totals (at + 1) 0 + w < bound
child_fits {links} {first_links} {owns} {first_owns} {totals} {first_totals} {front} {w} {node} f bound first on fits at lt stands_there =
    omega (
      arith,
      fits,
      child_total links owns totals front w node f on.walked on.at at lt stands_there,
      ap (λ t. total_weight t []) on.same,
      root_total first_links first_owns first_totals first,
    )

-- the walk of all of the path
pub on_at_end : {links first_links : List Link} {owns first_owns totals path : List ℕ} {w node : ℕ} (index : ℕ)
    → IsOnTheWay links owns totals first_links first_owns (take index path) w node → length path ≤ index → IsOnTheWay links owns totals first_links first_owns path w node
on_at_end {links} {first_links} {owns} {first_owns} {totals} {path} {w} {node} index on past =
    subst (λ front. IsOnTheWay links owns totals first_links first_owns front w node) (take_all index path past) on

module _ {links first_links : List Link} {owns first_owns totals path : List ℕ} {w node : ℕ} (on : IsOnTheWay links owns totals first_links first_owns path w node) (own : ℕ) where
  -- a node's own weight that was read with any default
  pub own_read : own ≡ get_or owns node own → own ≡ get_or owns node 0
  own_read read = read ∙ get_or_default_zero owns node own (omega (arith, on.walked.shape.owns_len, on.at.0))

  pub own_fits : (bound : ℕ) → own ≡ get_or owns node own → {first_totals : List ℕ} → IsTree first_links first_owns first_totals → get_or first_totals 0 0 + w < bound → own + w < bound
  own_fits bound read {first_totals} first fits =
      omega (arith, own_read read, own_le links owns totals on.walked.shape path node on.at, ap (λ t. total_weight t []) on.same, root_total first_links first_owns first_totals first, fits)

  pub ends_tree : own ≡ get_or owns node own → IsTree links (set owns node (own + w)) totals
  ends_tree read = subst (λ n. IsTree links (set owns node (n + w)) totals) (sym (own_read read)) (walk_ends links owns totals path w node on.walked on.at)

  pub ends_weights : own ≡ get_or owns node own → tree_of (samples_of links (set owns node (own + w))) ≡ with_weight (tree_of (samples_of first_links first_owns)) path w
  ends_weights read =
      ap (λ n. tree_of (samples_of links (set owns node (n + w)))) (own_read read) ∙ walk_ends_tree links owns totals path w node on.walked on.at
      ∙ ap (λ t. with_weight t path w) on.same
