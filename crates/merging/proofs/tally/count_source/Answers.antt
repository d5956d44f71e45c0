use Rattle.std.proofs.Common.{◌∙◌, ap, arith, get_or, nat_eq}
use Rattle.std.proofs.lemmas.List.{get_or_read}
use Rattle.std.proofs.lemmas.List.Sums.{count_by-le-length}
use Rattle.merging.proofs.CountLemmas.{get_or-source_counts, source_counts-push}
use Rattle.merging.proofs.tally.count_source.Goals as goal

pub overflow_add-index_mut : goal.overflow_add-index_mut
overflow_add-index_mut c =
    let source = c.args.source in
    let order = c.requires.counted.0 in
    let read = get_or_read c.reach.new.counts.items source c.index_mut.result.now (omega (arith, c.reach.ensures.len)) c.index_mut.ensures.value 0 in
    omega (arith, read, c.reach.ensures.same source, ap (λ counts. get_or counts source 0) c.requires.counted.1, get_or-source_counts order source, count_by-le-length (λ entry. nat_eq entry source) order, c.requires.counted.2)

pub returns : goal.returns
returns c order is =
    let source = c.args.source in
    let read = get_or_read c.reach.new.counts.items source c.index_mut.result.now (omega (arith, c.reach.ensures.len)) c.index_mut.ensures.value 0 in
    source_counts-push order c.args.counts.now.items c.reach.new.counts.items source c.index_mut.result.now is c.reach.ensures.len c.reach.ensures.same (read ∙ c.reach.ensures.same source)
