-- One more node's depth.
use Rattle.std.proofs.Common.{◌≡◌, ℕ, ◌+◌, ◌<◌, ◌≤◌, List, [], ◌∷◌, ◌++◌, length, get_or, sym, ap, subst, ◌∙◌, arith}
use Rattle.std.proofs.lemmas.List.{length-append}
use Rattle.call_tree.specs.declared.links.Link.{Link}
use Rattle.call_tree.specs.checked.Nodes.{path_of, HasShape}
use Rattle.call_tree.proofs.Paths.{path_of_root, path_of_child}

-- the depth is the path's, and no node is deeper than its number
abbrev pub IsDepth : List Link → ℕ → ℕ → Type 0
IsDepth links node depth = (depth ≡ length (path_of links node)) × (depth ≤ node)

pub root_depth : (links : List Link) → IsDepth links 0 0
root_depth links = (sym (ap length (path_of_root links)), omega arith)

-- the depth of the node that the next link stands below is known, and that node comes before the link
pub parent_depth : (links : List Link) (owns totals : List ℕ) → HasShape links owns totals → (depths : List ℕ) (at : ℕ) (link : Link) → at < length links → get_or links at link ≡ link
    → length depths ≡ at + 1 → ((node d : ℕ) → node < length depths → IsDepth links node (get_or depths node d))
    → (depth : ℕ) → depth ≡ get_or depths link.parent depth → IsDepth links link.parent depth × (link.parent ≤ at)
parent_depth links owns totals s depths at link lt stands len known depth is =
    let before : link.parent ≤ at = subst (λ (x : Link). x.parent ≤ at) stands (s.after_parent at link lt) in
    let within : link.parent < length depths = omega (arith, before, len) in
    (subst (IsDepth links link.parent) (sym is) (known link.parent depth within), before)

pub child_depth : (links : List Link) (owns totals : List ℕ) → HasShape links owns totals → (at : ℕ) (link : Link) → at < length links → get_or links at link ≡ link
    → (depth : ℕ) → IsDepth links link.parent depth → IsDepth links (at + 1) (depth + 1)
child_depth links owns totals s at link lt stands depth is =
    let before : link.parent ≤ at = subst (λ (x : Link). x.parent ≤ at) stands (s.after_parent at link lt) in
    let path = path_of_child links at link lt (s.after_parent at link lt) ∙ ap (λ (x : Link). path_of links x.parent ++ x.frame ∷ []) stands in
    (omega (arith, is.0, ap length path, length-append (path_of links link.parent) (link.frame ∷ [])), omega (arith, is.1))
