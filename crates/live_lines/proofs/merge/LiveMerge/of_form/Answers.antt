use Rattle.std.proofs.Common.{List, ℕ, subst, sym}
use Rattle.sample_tables.specs.declared.samples.Sample.{Sample}
use Rattle.live_lines.specs.checked.Merges.{IsLiveMerge}
use Rattle.live_lines.proofs.MergeLemmas.{merge_starts}
use Rattle.live_lines.proofs.merge.LiveMerge.of_form.Goals as goal

pub invariant_of-result : goal.invariant_of-result
invariant_of-result c =
    let counts = c.in_ok-zeros.field-0.items in
    subst (λ (pairs : List (ℕ × Sample)). IsLiveMerge pairs counts 0) (sym c.new.ensures) (merge_starts counts c.in_ok-zeros.ensures.zero)
