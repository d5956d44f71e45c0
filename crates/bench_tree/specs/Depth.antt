-- A tree whose paths are no deeper than a stack.
use Rattle.std.specs.Prelude.{◌<◌, ◌≤◌, ℕ, List, length}
use Rattle.sample_tables.specs.declared.samples.TheConstants.{FRAME_LIMIT}
use Rattle.call_tree.specs.CallTree.{Tree, total_weight}

-- each path with weight has at most as many numbers as a stack may have names
abbrev pub IsShallow : Tree → Type 0
IsShallow tree = (path : List ℕ) → 0 < total_weight tree path → length path ≤ FRAME_LIMIT
