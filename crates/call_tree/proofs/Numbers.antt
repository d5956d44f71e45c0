-- That a tree's numbers are a table's: kept by each add of a path whose numbers are, and by each new name.
use Rattle.std.specs.FinMap as map
use Rattle.std.proofs.Common.{◌≡◌, ℕ, ◌+◌, ◌<◌, ◌≤◌, Bool, true, false, List, [], ◌∷◌, ◌++◌, length, nat_eq, refl, subst, arith, if◌then◌else◌}
use Rattle.std.specs.List.{list_any}
use Rattle.std.specs.Str.{bytes_eq}
use Rattle.std.proofs.lemmas.List.{length-append}
use Rattle.call_tree.specs.PathSums.{begins_with}
use Rattle.call_tree.specs.CallTree.{Tree, total_weight, with_weight}
use Rattle.call_tree.specs.FrameTable.{with_name}
use Rattle.call_tree.specs.Listing.{AreIn, HasNumbersOf}
use Rattle.call_tree.proofs.Begins.{begins_with_rest}
use Rattle.call_tree.proofs.TreeSums.{total_weight-with_weight, total_empty}

AreIn-middle : (names : List (List ℕ)) (front : List ℕ) (n : ℕ) (rest : List ℕ) → AreIn names ((front ++ n ∷ []) ++ rest) → n < length names
AreIn-middle names [] n rest all = all.0
AreIn-middle names (x ∷ front) n rest all = AreIn-middle names front n rest all.1

pub HasNumbersOf-empty : (names : List (List ℕ)) → HasNumbersOf names map.empty
HasNumbersOf-empty names front n pos = absurd (omega (arith, total_empty (front ++ n ∷ [])))

pub HasNumbersOf-with_weight : (names : List (List ℕ)) (tree : Tree) (path : List ℕ) (w : ℕ) → HasNumbersOf names tree → AreIn names path → HasNumbersOf names (with_weight tree path w)
HasNumbersOf-with_weight names tree path w has all front n pos =
    by (begins_with nat_eq (front ++ n ∷ []) path) refl (subst (λ m. 0 < m) (total_weight-with_weight tree path w (front ++ n ∷ [])) pos)
  where
    by : (b : Bool) → begins_with nat_eq (front ++ n ∷ []) path ≡ b → 0 < total_weight tree (front ++ n ∷ []) + (if b then w else 0) → n < length names
    by true e more =
        let rest = begins_with_rest (front ++ n ∷ []) path e in
        AreIn-middle names front n rest.0 (subst (AreIn names) rest.1 all)
    by false e more = has front n (omega arith)

length-with_name : (names : List (List ℕ)) (name : List ℕ) → length names ≤ length (with_name names name)
length-with_name names name = by (list_any (bytes_eq name) names)
  where
    by : (b : Bool) → length names ≤ length (if b then names else names ++ name ∷ [])
    by true = omega arith
    by false = omega (arith, length-append names (name ∷ []))

pub AreIn-with_name : (names : List (List ℕ)) (name path : List ℕ) → AreIn names path → AreIn (with_name names name) path
AreIn-with_name names name [] all = tt
AreIn-with_name names name (x ∷ path) all = (omega (arith, all.0, length-with_name names name), AreIn-with_name names name path all.1)

pub HasNumbersOf-with_name : (names : List (List ℕ)) (name : List ℕ) (tree : Tree) → HasNumbersOf names tree → HasNumbersOf (with_name names name) tree
HasNumbersOf-with_name names name tree has front n pos = omega (arith, has front n pos, length-with_name names name)
