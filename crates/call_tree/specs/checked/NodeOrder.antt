-- The nodes of a tree in the order of the names of their paths.
use Rattle.std.specs.Prelude.{◌≡◌, ℕ, ◌+◌, ◌-◌, ◌<◌, ◌==◌, ◌↔◌, ◌⊎◌, List, [], length, AllPairs, Contains, if◌then◌else◌}
use Rattle.std.specs.List.{slice_index, slice_index_or}
use Rattle.std.specs.Ordering.{nat_cmp}
use Rattle.std.specs.Cmp.Lexicographic.{slice_cmp}
use Rattle.std.specs.declared.cmp.Ordering.TheVariants.{Less}
use Rattle.std.specs.declared.cmp.Reverse.{Reverse}
use denote.Ref.{Bor}
use Rattle.call_tree.specs.declared.listing.Visit.{Visit}
use Rattle.call_tree.specs.declared.links.Link.{Link}
use Rattle.call_tree.specs.Listing.{named}
use Rattle.call_tree.specs.checked.Nodes.{path_of}

-- each link's frame is one of the table's numbers
abbrev pub HasFramesOf : List (List ℕ) → List Link → Type 0
HasFramesOf names links = (at : ℕ) (d : Link) → at < length links → (slice_index_or links at d).frame < length names

-- a node's parent, its own name and its number
abbrev pub Row : Type 0
Row = ℕ × Reverse (Bor (List ℕ)) × ℕ

-- the row of the node at a link
pub record IsRowOf (names : List (List ℕ)) (links : List Link) (at : ℕ) (row : Row) : Type 0 where
  pub parent : (d : Link) → row.0 ≡ (slice_index_or links at d).parent
  pub name : (d : Link) → row.1.0.now ≡ slice_index_or names (slice_index_or links at d).frame []
  pub number : row.2 ≡ at + 1

-- rows by parents, and those of one parent by falling names
abbrev pub StandsBefore : Row → Row → Type 0
StandsBefore a b = (a.0 < b.0) ⊎ ((a.0 ≡ b.0) × (slice_cmp nat_cmp b.1.0.now a.1.0.now ≡ Less))

-- `rows` are those of all nodes but the root, so ordered
pub record AreRows (names : List (List ℕ)) (links : List Link) (rows : List Row) : Type 0 where
  pub len : length rows ≡ length links
  pub rows_are : (i : ℕ) (d : Row) → i < length rows → (at : ℕ) × (at < length links) × IsRowOf names links at (slice_index_or rows i d)
  pub each : (at : ℕ) (d : Row) → at < length links → (i : ℕ) × (i < length rows) × IsRowOf names links at (slice_index_or rows i d)
  pub ordered : AllPairs StandsBefore rows

-- from the root on, `next` leads from each node to the one whose path comes next by its names
pub record LeadsByName (names : List (List ℕ)) (links : List Link) (next : List ℕ) : Type 0 where
  pub order : List ℕ
  pub len : length next ≡ length links + 1
  pub count : length order ≡ length links + 1
  pub first : slice_index order 0 ≡ 0
  pub follows : (i : ℕ) → i + 1 < length order → slice_index next (slice_index order i) ≡ slice_index order (i + 1)
  pub rises : (i j : ℕ) → i < j → j < length order
      → slice_cmp (slice_cmp nat_cmp) (named names (path_of links (slice_index order i))) (named names (path_of links (slice_index order j))) ≡ Less
  pub members : (node : ℕ) → Contains order node ↔ (node < length links + 1)

-- the number of frames of each node's path
pub record AreDepths (links : List Link) (depths : List ℕ) : Type 0 where
  pub len : length depths ≡ length links + 1
  pub depths_are : (node : ℕ) → node < length depths → slice_index depths node ≡ length (path_of links node)

-- what a listing says of a node at a depth
abbrev pub visit_at : List Link → List ℕ → List ℕ → ℕ → ℕ → Visit
visit_at links owns totals depth node = record {
  depth = depth;
  frame = if node == 0 then 0 else (slice_index_or links (node - 1) (record { parent = 0; frame = 0 })).frame;
  total = slice_index totals node;
  own = slice_index owns node;
}
