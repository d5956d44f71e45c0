use Rattle.std.proofs.Common.{◌≡◌, ◌∙◌, ◌<◌, ◌+◌, ◌++◌, ◌∷◌, [], ℕ, List, ap, arith, get_or, length, refl, sym, take}
use Rattle.std.proofs.lemmas.List.{get_or_default, length-map, length-set, take_more}
use Rattle.sample_tables.specs.Rows.{sample_at}
use Rattle.stack_core.specs.Interleaving.{IsInterleaving, count_of, list_of}
use Rattle.stack_core.specs.Ledgers.{ListState}
use Rattle.merged_stacks.specs.Timeline.{samples_of}
use Rattle.source_lists.proofs.OrderLemmas.{count_at_most, counted_more, interleaved_all, interleaved_more, list_at, next_within}
use Rattle.merging.proofs.list_samples.feed_lists.Goals as goal

-- the next source has a list, in which more samples stand than came
next_in : (lists : List ListState) (order : List ℕ) (p : ℕ) → IsInterleaving order (samples_of lists) → p < length order
    → (get_or order p 0 < length lists) × (count_of (get_or order p 0) (take p order) < length (list_of (samples_of lists) (get_or order p 0)))
next_in lists order p ordered within =
    let next = next_within order (samples_of lists) p (get_or order p 0) ordered within refl in
    (omega (arith, next.0, length-map lists (λ (list : ListState). list.samples)), next.1)

-- as many came as stand before
at_is : (lists : List ListState) (order came : List ℕ) (p at : ℕ) → IsInterleaving order (samples_of lists) → p < length order → length came ≡ length lists
    → ((source : ℕ) → source < length lists → get_or came source 0 ≡ count_of source (take p order)) → at ≡ get_or came (get_or order p 0) at → at ≡ count_of (get_or order p 0) (take p order)
at_is lists order came p at ordered within count counted is =
    let next = next_in lists order p ordered within in
    is ∙ (get_or_default came (get_or order p 0) at 0 (omega (arith, next.0, count)) ∙ counted (get_or order p 0) next.0)

pub index-at-requires : goal.index-at-requires
index-at-requires c =
    let next = next_in c.args.lists.now c.args.order.now c.loop-source.source-index c.requires.ordered (omega arith) in
    omega (arith, next.0, c.loop-source.invariant.count, c.loop-source.came.ok.0)

pub overflow_add-at : goal.overflow_add-at
overflow_add-at c =
    let order = c.args.order.now in
    let p = c.loop-source.source-index in
    let at_is = at_is c.args.lists.now c.args.order.now c.loop-source.came.items c.loop-source.source-index c.index-at.result.now c.requires.ordered (omega arith) c.loop-source.invariant.count c.loop-source.invariant.counted c.index-at.ensures in
    omega (arith, at_is, count_at_most order p (get_or order p 0) (omega arith))

pub index_mut-requires : goal.index_mut-requires
index_mut-requires c =
    let next = next_in c.args.lists.now c.args.order.now c.loop-source.source-index c.requires.ordered (omega arith) in
    omega (arith, next.0, c.loop-source.invariant.count, c.loop-source.came.ok.0)

pub bounds-lists-number : goal.bounds-lists-number
bounds-lists-number c = (next_in c.args.lists.now c.args.order.now c.loop-source.source-index c.requires.ordered (omega arith)).0

pub set_sample-requires : goal.set_sample-requires
set_sample-requires c =
    let lists = c.args.lists.now in
    let order = c.args.order.now in
    let p = c.loop-source.source-index in
    let next = next_in lists order p c.requires.ordered (omega arith) in
    let at_is = at_is c.args.lists.now c.args.order.now c.loop-source.came.items c.loop-source.source-index c.index-at.result.now c.requires.ordered (omega arith) c.loop-source.invariant.count c.loop-source.invariant.counted c.index-at.ensures in
    omega (arith, at_is, next.1, ap length (list_at lists (get_or order p 0) c.index-lists-number.result next.0 c.index-lists-number.is))

pub loop-source-preserved : goal.loop-source-preserved
loop-source-preserved c =
    let order = c.args.order.now in
    let lists = c.args.lists.now in
    let samples = samples_of lists in
    let p = c.loop-source.source-index in
    let source = get_or order p 0 in
    let came = c.loop-source.came.items in
    let at = c.index-at.result.now in
    let within : p < length order = omega arith in
    let next = next_in lists order p c.requires.ordered within in
    let counted = c.loop-source.invariant.counted source next.0 in
    let at_is = at_is c.args.lists.now c.args.order.now c.loop-source.came.items c.loop-source.source-index c.index-at.result.now c.requires.ordered (omega arith) c.loop-source.invariant.count c.loop-source.invariant.counted c.index-at.ensures in
    let list_is = list_at lists source c.index-lists-number.result next.0 c.index-lists-number.is in
    let handed = c.in_ok-set_sample.ensures ∙ ap (λ samples. sample_at samples at) (sym list_is) in
    record {
      count = length-set came source (at + 1) ∙ c.loop-source.invariant.count;
      counted = λ other within_lists.
          counted_more (take p order) came source (at + 1) (omega (arith, next.0, c.loop-source.invariant.count)) counted (ap (λ n. n + 1) at_is) other (c.loop-source.invariant.counted other within_lists)
          ∙ ap (count_of other) (sym (take_more order p 0 within));
      taken =
          c.in_ok-take.ensures.ok
          ∙ ((λ i. c.loop-source.invariant.taken i ++ (source, handed i) ∷ [])
          ∙ sym (interleaved_more samples order p source at c.requires.ordered within refl at_is (omega (arith, at_is, next.1))));
      every = c.in_ok-take.ensures.every ∙ c.loop-source.invariant.every;
    }

pub returns-clause-taken : goal.returns-clause-taken
returns-clause-taken c =
    c.loop-source.invariant.taken
    ∙ interleaved_all (samples_of c.args.lists.now) c.args.order.now c.loop-source.source-index c.requires.ordered (omega arith)
