use Rattle.std.proofs.Common.{◌≡◌, ◌∙◌, ◌<◌, ◌+◌, ◌++◌, ◌∷◌, [], List, ap, arith, cond, get_or, length, refl, sym, take}
use Rattle.std.proofs.lemmas.List.{append-nil, length-set, take_more}
use Rattle.sample_tables.specs.Rows.{sample_at}
use Rattle.sample_tables.specs.declared.samples.Sample.{Sample}
use Rattle.stack_core.specs.Interleaving.{count_of}
use Rattle.merged_stacks.specs.Timeline.{samples_of}
use Rattle.source_lists.proofs.KeptLemmas.{kept_order_all, kept_order_more, marks_at}
use Rattle.source_lists.proofs.OrderLemmas.{came_of_next, count_at_most, counted_more, list_at, next_of}
use Rattle.source_lists.proofs.kept_order.kept_order.Goals.{then-is_kept+in_ok-push, else-is_kept}
use Rattle.source_lists.proofs.kept_order.kept_order.Goals as goal

pub index-at-requires : goal.index-at-requires
index-at-requires c =
    let next = next_of c.args.order.now c.args.lists.now c.loop-source.source-index c.requires.ordered (omega arith) in
    omega (arith, next.0, c.loop-source.invariant.count, c.loop-source.came.ok.0)

pub overflow_add-at : goal.overflow_add-at
overflow_add-at c =
    let order = c.args.order.now in
    let p = c.loop-source.source-index in
    let came = came_of_next c.args.order.now c.loop-source.came.items c.args.lists.now c.loop-source.source-index c.index-at.result.now c.requires.ordered (omega arith) c.loop-source.invariant.count c.loop-source.invariant.counted c.index-at.ensures in
    omega (arith, came, count_at_most order p (get_or order p 0) (omega arith))

pub index_mut-requires : goal.index_mut-requires
index_mut-requires c =
    let next = next_of c.args.order.now c.args.lists.now c.loop-source.source-index c.requires.ordered (omega arith) in
    omega (arith, next.0, c.loop-source.invariant.count, c.loop-source.came.ok.0)

pub bounds-lists-number : goal.bounds-lists-number
bounds-lists-number c = (next_of c.args.order.now c.args.lists.now c.loop-source.source-index c.requires.ordered (omega arith)).0

pub bounds-kept-number : goal.bounds-kept-number
bounds-kept-number c =
    let next = next_of c.args.order.now c.args.lists.now c.loop-source.source-index c.requires.ordered (omega arith) in
    omega (arith, next.0, c.requires.count)

pub is_kept-requires : goal.is_kept-requires
is_kept-requires c =
    let lists = c.args.lists.now in
    let source = get_or c.args.order.now c.loop-source.source-index 0 in
    let next = next_of c.args.order.now c.args.lists.now c.loop-source.source-index c.requires.ordered (omega arith) in
    let came = came_of_next c.args.order.now c.loop-source.came.items c.args.lists.now c.loop-source.source-index c.index-at.result.now c.requires.ordered (omega arith) c.loop-source.invariant.count c.loop-source.invariant.counted c.index-at.ensures in
    omega (arith, came, next.1, ap length (list_at lists source c.index-lists-number.result next.0 c.index-lists-number.is))

pub loop-source-preserved : goal.loop-source-preserved
loop-source-preserved c =
    let order = c.args.order.now in
    let lists = c.args.lists.now in
    let samples = samples_of lists in
    let p = c.loop-source.source-index in
    let source = get_or order p 0 in
    let came = c.loop-source.came.items in
    let left = c.loop-source.left.items in
    let at = c.index-at.result.now in
    let list = c.index-lists-number.result in
    let within : p < length order = omega arith in
    let next = next_of order lists p c.requires.ordered within in
    let below : source < length lists = next.0 in
    let below_came : source < length came = omega (arith, below, c.loop-source.invariant.count) in
    let at_is = came_of_next order came lists p at c.requires.ordered within c.loop-source.invariant.count c.loop-source.invariant.counted c.index-at.ensures in
    let list_is = list_at lists source list below c.index-lists-number.is in
    let more = take_more order p 0 within in
    let new_left : c.if-is_kept.left.items ≡ left ++ cond c.is_kept.result (source ∷ []) [] =
    elim c.if-is_kept.branch [
      | then-is_kept+in_ok-push w ↦ ap (λ left. left.items) w.left-is ∙ (w.in_ok-push.ensures.items ∙ ap (λ b. left ++ cond b (source ∷ []) []) (sym w.if-is_kept.true))
      | else-is_kept w ↦ ap (λ left. left.items) w.left-is ∙ (sym (append-nil left) ∙ ap (λ b. left ++ cond b (source ∷ []) []) (sym w.if-is_kept.false))
    ] in
    record {
      count = length-set came source (at + 1) ∙ c.loop-source.invariant.count;
      counted = λ other within_lists.
          counted_more (take p order) came source (at + 1) below_came (c.loop-source.invariant.counted source below) (ap (λ n. n + 1) at_is) other (c.loop-source.invariant.counted other within_lists)
          ∙ ap (count_of other) (sym more);
      kept = λ passes flags.
          let marks = c.deref.ensures.value ∙ marks_at (λ marks. marks.items) passes lists c.args.kept.now source c.index-kept-number.result list flags (omega (arith, below, c.requires.count)) below c.index-kept-number.is c.index-lists-number.is in
          let keeps_it = c.is_kept.ensures.kept passes marks ∙ ap (λ (samples : List Sample). passes (sample_at samples at).stack) (sym list_is) in
          new_left
          ∙ kept_order_more passes samples order left p source at c.is_kept.result c.requires.ordered within refl at_is (omega (arith, at_is, next.1)) keeps_it (c.loop-source.invariant.kept passes flags);
    }

pub returns : goal.returns
returns c = λ passes flags.
    kept_order_all passes (samples_of c.args.lists.now) c.args.order.now c.loop-source.left.items c.loop-source.source-index c.requires.ordered (omega arith) (c.loop-source.invariant.kept passes flags)
