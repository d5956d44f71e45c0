use Rattle.std.proofs.Common.{◌≡◌, ℕ, Bool, List, map, take}
use Rattle.ring_collect.specs.Collection.{seen_as_rest}
use Rattle.source_lists.specs.checked.KeptStacks.{all_are_passing, passing_rest}
use Rattle.source_lists.proofs.kept_lists.kept_lists.Given as goal

abbrev pub invariant-loop-number : goal.invariant-loop-number
invariant-loop-number l =
    (passes : List (List ℕ) → Bool) → map (λ marks. marks.items) l.kept ≡ all_are_passing passes l.lists → map seen_as_rest l.left.items ≡ map (passing_rest passes) (map seen_as_rest (take l.number l.lists))
