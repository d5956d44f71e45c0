use Rattle.std.proofs.Common.{◌≡◌, ◌<◌, ◌++◌, All, map, take, length, string_bytes}
use Rattle.stack_core.specs.Records.{names_at}
use Rattle.ring_collect.specs.NamesInOrder.{with_stack}
use Rattle.ring_collect.proofs.numbering.number_names.Given as goal

-- the names so far have their numbers, and the new ones stand behind those before
abbrev pub invariant-loop-name : goal.invariant-loop-name
invariant-loop-name l =
    let so_far = map string_bytes (take l.name-index l.stack) in
    record {
      told : l.table ≡ l.fn.table ++ l.new.items;
      asked : l.table ≡ with_stack l.fn.table so_far;
      numbers : names_at l.table l.numbers.items ≡ so_far;
      known : All (λ number. number < length l.table) l.numbers.items;
    }
