-- What the nodes of a tree stand for. Node 0 is the root, and node i + 1 has the i-th link: its parent and its frame number.
use Rattle.std.specs.Prelude.{◌≡◌, ℕ, ◌+◌, ◌<◌, ◌≤◌, List, [], ◌∷◌, ◌++◌, length, nat_eq, slice_set, Contains, map, filter}
use Rattle.std.specs.List.{zip, slice_index, slice_index_or}
use Rattle.call_tree.specs.declared.links.Link.{Link}
use Rattle.call_tree.specs.CallTree.{Tree, tree_of}
use Rattle.call_tree.specs.PathSums.{total_of}

-- the nodes as lists: the link of each but the root, and the weights of each
pub record NodeLists : Type 0 where
  pub links : List Link
  pub owns : List ℕ
  pub totals : List ℕ

-- the paths of the nodes, where `paths` are those of the nodes before `links`
abbrev pub paths_after : List (List ℕ) → List Link → List (List ℕ)
paths_after paths [] = paths
paths_after paths (x ∷ links) = paths_after (paths ++ (slice_index_or paths x.parent [] ++ x.frame ∷ []) ∷ []) links

unfoldable pub paths_of : List Link → List (List ℕ)
paths_of links = paths_after ([] ∷ []) links

abbrev pub path_of : List Link → ℕ → List ℕ
path_of links node = slice_index_or (paths_of links) node []

-- each node's path, with the weight that is its own
abbrev pub samples_of : List Link → List ℕ → List (List ℕ × ℕ)
samples_of links owns = zip (paths_of links) owns

-- the tree that the nodes stand for
abbrev pub weights_of : NodeLists → Tree
weights_of nodes = tree_of (samples_of nodes.links nodes.owns)

-- each node has a weight of its own and a total, stands after its parent, and has a path of its own
pub record HasShape (links : List Link) (owns totals : List ℕ) : Type 0 where
  pub owns_len : length owns ≡ length links + 1
  pub totals_len : length totals ≡ length links + 1
  pub after_parent : (i : ℕ) (d : Link) → i < length links → (slice_index_or links i d).parent ≤ i
  pub distinct : (i j : ℕ) → i < length links + 1 → j < length links + 1 → path_of links i ≡ path_of links j → i ≡ j

-- each node's total is the sum of the weights at and below it, and only the root's may be 0
pub record IsTree (links : List Link) (owns totals : List ℕ) : Type 0 where
  pub shape : HasShape links owns totals
  pub sums : (i : ℕ) → i < length links + 1 → slice_index totals i ≡ total_of nat_eq (samples_of links owns) (path_of links i)
  pub positive : (i : ℕ) → 0 < i → i < length links + 1 → 0 < slice_index totals i

-- `child` is a known node, at `link`, and its total has `weight` more
pub record EntersChild (links new_links : List Link) (owns new_owns totals new_totals : List ℕ) (link : Link) (weight child : ℕ) : Type 0 where
  pub at : ℕ
  pub within : at < length links
  pub stands : slice_index_or links at link ≡ link
  pub child_is : child ≡ at + 1
  pub links_stay : new_links ≡ links
  pub owns_stay : new_owns ≡ owns
  pub total_grows : new_totals ≡ slice_set totals child (slice_index totals child + weight)

-- `child` is a new node, at `link`
pub record MakesChild (links new_links : List Link) (owns new_owns totals new_totals : List ℕ) (link : Link) (weight child : ℕ) : Type 0 where
  pub absent : (i : ℕ) → i < length links → slice_index_or links i link ≡ link → ⊥
  pub child_is : child ≡ length links + 1
  pub links_grow : new_links ≡ links ++ link ∷ []
  pub owns_grow : new_owns ≡ owns ++ 0 ∷ []
  pub totals_grow : new_totals ≡ totals ++ weight ∷ []

-- `node` is the node of the path, or there is none that begins with it
abbrev pub IsNodeOf : List Link → List ℕ → ℕ → Type 0
IsNodeOf links path node = (node < length links + 1) × (path_of links node ≡ path)

-- `node` has a child under `frame`
abbrev pub HasChild : List Link → ℕ → ℕ → Type 0
HasChild links node frame = Contains links (record { parent = node; frame = frame })

-- the frames of the node's children, as they stand
abbrev pub frames_below : ℕ → List Link → List ℕ
frames_below node links = map (λ x. x.frame) (filter (λ x. nat_eq node x.parent) links)
