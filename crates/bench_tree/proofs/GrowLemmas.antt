-- A tree that is no deeper than a stack stays so.
use Rattle.std.specs.FinMap as map
use Rattle.std.proofs.Common.{◌≡◌, ℕ, ◌+◌, ◌<◌, ◌≤◌, Bool, true, false, List, [], ◌∷◌, All, length, suc, sym, nat_eq, refl, subst, arith, if◌then◌else◌}
use Rattle.std.proofs.lemmas.List.{length-append}
use Rattle.sample_tables.specs.declared.samples.TheConstants.{FRAME_LIMIT}
use Rattle.call_tree.specs.PathSums.{begins_with}
use Rattle.call_tree.specs.CallTree.{Tree, total_weight, with_weight}
use Rattle.call_tree.specs.Listing.{AreIn}
use Rattle.call_tree.proofs.Begins.{begins_with_rest}
use Rattle.call_tree.proofs.TreeSums.{total_weight-with_weight, total_empty}
use Rattle.bench_tree.specs.Depth.{IsShallow}

-- numbers below the count of the names are the table's
pub are_in : (names : List (List ℕ)) (path : List ℕ) → All (λ k. k < length names) path → AreIn names path
are_in names [] all = tt
are_in names (n ∷ path) all = (all 0 n (omega arith), are_in names path (λ k d l. all (suc k) d (omega (arith, l))))

pub shallow-empty : IsShallow map.empty
shallow-empty path pos = absurd (omega (arith, total_empty path))

-- an add of a stack that is no deeper than a stack may be
pub shallow-with_weight : (tree : Tree) (path : List ℕ) (w : ℕ) → IsShallow tree → length path ≤ FRAME_LIMIT → IsShallow (with_weight tree path w)
shallow-with_weight tree path w shallow few q pos =
    by (begins_with nat_eq q path) refl (subst (λ m. 0 < m) (total_weight-with_weight tree path w q) pos)
  where
    by : (b : Bool) → begins_with nat_eq q path ≡ b → 0 < total_weight tree q + (if b then w else 0) → length q ≤ FRAME_LIMIT
    by true e more =
        let rest = begins_with_rest q path e in
        let longer : length path ≡ length q + length rest.0 = subst (λ p. length p ≡ length q + length rest.0) (sym rest.1) (length-append q rest.0) in
        omega (arith, few, longer)
    by false e more = shallow q (omega (arith, more))
