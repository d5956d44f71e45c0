-- The hash by which a number of a name is looked for.
use Rattle.std.specs.Prelude.{ℕ, List}
use Rattle.std.specs.Hash.FoldHasher.{initial, write, finish}

-- the hash of a name
unfoldable pub hash_of_name : List ℕ → ℕ
hash_of_name name = finish (write initial name)
