use Rattle.std.proofs.Common.{[], ◌∷◌, ◌∙◌, subst, sym}
use Rattle.ring_collect.specs.Collection.{seen_as_rest}
use Rattle.source_lists.specs.checked.OpenRuns.{ReadsOpen}
use Rattle.source_lists.proofs.FoundRests.{same_ignored}
use Rattle.source_lists.proofs.PartLemmas.{joined_limited, joined_reads, some_parts}
use Rattle.source_lists.proofs.runners.Runner.collect_in_parts.Goals as goal

pub joined_list-requires : goal.joined_list-requires
joined_list-requires g c =
    let found = some_parts c.args.self.now.is_summed _ c.in_ok-lists.field-0 c.in-Some.field-0 c.in-Some.is c.in_ok-lists.ensures.parts in
    found.are_parts.ignored_is ∙ sym (same_ignored c.args.self.now.is_summed found.parts _ found.are_found)

pub of_one-requires : goal.of_one-requires
of_one-requires g c =
    let found = some_parts c.args.self.now.is_summed _ c.in_ok-lists.field-0 c.in-Some.field-0 c.in-Some.is c.in_ok-lists.ensures.parts in
    record { each = c.len-count.ensures.limits; total = joined_limited c.args.self.now.is_summed _ _ _ (seen_as_rest c.in_ok-list.list) found c.in_ok-list.ensures }

pub returns-in-Some-clause-reads : goal.returns-in-Some-clause-reads
returns-in-Some-clause-reads g c =
    let options = c.args.self.now.options.now in
    let is_summed = c.args.self.now.is_summed in
    let found = some_parts is_summed _ c.in_ok-lists.field-0 c.in-Some.field-0 c.in-Some.is c.in_ok-lists.ensures.parts in
    subst (λ lists. ReadsOpen options is_summed (c.args.input ∷ []) lists) (sym c.in_ok-of_one.ensures)
    (joined_reads options is_summed c.args.input _ _ c.in_ok-list.list found c.in_ok-list.ensures)
