-- each reader so far stands over one that was taken, and left nothing out
use Rattle.std.proofs.Common.{◌≡◌, []}
use Rattle.std.specs.List.{AllZip}
use Rattle.source_lists.proofs.summed_rows.sum_all.Given as goal

abbrev pub invariant-loop-reader : goal.invariant-loop-reader
invariant-loop-reader g l = AllZip (λ reader summed. (summed.reader ≡ reader) × (summed.sums.items ≡ [])) l.yielded l.all.items
