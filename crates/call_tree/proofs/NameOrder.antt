-- Paths by their names: the order of names is total, and the numbers of the nodes' paths have names.
use Rattle.std.proofs.Common.{ℕ, ◌+◌, ◌<◌, inl, inr, List, [], ◌∷◌, ◌++◌, length, get_or, sym, ap, subst, ◌∙◌, arith, suc, zero}
use Rattle.std.specs.Ordering.{nat_cmp}
use Rattle.std.specs.Cmp.{IsTotalOrder}
use Rattle.std.specs.Cmp.Lexicographic.{slice_cmp, nat_list_cmp_total, lists_total}
use Rattle.call_tree.specs.declared.links.Link.{Link}
use Rattle.call_tree.specs.Listing.{AreIn}
use Rattle.call_tree.specs.checked.Nodes.{path_of, HasShape}
use Rattle.call_tree.proofs.Paths.{path_of_root}
use Rattle.call_tree.proofs.Shape.{origin, root_or_stands}

pub names_order : IsTotalOrder (slice_cmp (slice_cmp nat_cmp))
names_order = lists_total nat_list_cmp_total

pub AreIn_push : (names : List (List ℕ)) (path : List ℕ) (n : ℕ) → AreIn names path → n < length names → AreIn names (path ++ n ∷ [])
AreIn_push names [] n all lt = (lt, tt)
AreIn_push names (x ∷ path) n all lt = (all.0, AreIn_push names path n all.1 lt)

module _ (names : List (List ℕ)) (links : List Link) (owns totals : List ℕ) (s : HasShape links owns totals)
    (numbers : (at : ℕ) (d : Link) → at < length links → (get_or links at d).frame < length names) where
  in_by : (fuel i : ℕ) → i < fuel → i < length links + 1 → AreIn names (path_of links i)
  in_by zero i lt li = absurd (omega arith)
  in_by (suc fuel) i lt li = elim (root_or_stands links owns totals s i li) [
    | inl z ↦ subst (AreIn names) (sym (ap (path_of links) z ∙ path_of_root links)) tt
    | inr st ↦ subst (AreIn names) (sym st.path)
        (AreIn_push names _ _ (in_by fuel (get_or links st.at origin).parent (omega (arith, st.before, st.is)) (omega (arith, st.before, st.within))) (numbers st.at origin st.within))
  ]

  -- the numbers of each node's path
  pub AreIn-path_of : (i : ℕ) → i < length links + 1 → AreIn names (path_of links i)
  AreIn-path_of i li = in_by (i + 1) i (omega arith) li
