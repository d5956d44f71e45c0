-- What merged stacks weigh, each by itself.
use Rattle.std.proofs.Common.{◌≡◌, ◌∙◌, List, [], ◌∷◌, ap, append-nil, subst, sym}
use Rattle.stack_core.specs.Ledgers.{ListState}
use Rattle.sample_tables.specs.declared.samples.Sample.{Sample}
use Rattle.merged_stacks.specs.Merged.{all_samples, merged_samples}
use Rattle.merged_stacks.specs.Timeline.{samples_of}
use Rattle.flame_layout.specs.Paths.{SameOwn}
use Rattle.flame_layout.proofs.MergedSums.{merged_own}

-- merged stacks of lists that were lent have the own weights of all samples
pub SameOwn-merged : (lent lists : List ListState) → lent ≡ lists → (merged : List Sample) → merged ≡ merged_samples (all_samples (samples_of lent))
    → SameOwn (all_samples (samples_of lists)) merged
SameOwn-merged lent lists same merged is =
    let samples = all_samples (samples_of lists) in
    let of_lists = ap (λ (l : List ListState). merged_samples (all_samples (samples_of l))) same in
    subst (λ (m : List Sample). SameOwn samples m) (sym (is ∙ of_lists)) (merged_own samples)

-- and those of one list that was lent
pub one_list : (list : ListState) (lent : List ListState) → lent ≡ list ∷ [] → all_samples (samples_of lent) ≡ list.samples
one_list list lent is = ap (λ (lists : List ListState). all_samples (samples_of lists)) is ∙ append-nil list.samples

pub SameOwn-one : (list : ListState) (lent : List ListState) → lent ≡ list ∷ [] → (merged : List Sample) → merged ≡ merged_samples (all_samples (samples_of lent)) → SameOwn list.samples merged
SameOwn-one list lent is merged joins = subst (λ (samples : List Sample). SameOwn samples merged) (append-nil list.samples) (SameOwn-merged lent (list ∷ []) is merged joins)
