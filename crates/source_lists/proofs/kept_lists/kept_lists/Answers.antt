use Rattle.std.proofs.Common.{◌∙◌, ◌<◌, ◌++◌, ◌∷◌, [], ap, arith, length, map, sym, take}
use Rattle.std.proofs.lemmas.List.{map_push, take_more}
use Rattle.ring_collect.specs.Collection.{seen_as_rest}
use Rattle.source_lists.specs.checked.KeptStacks.{passing_rest}
use Rattle.source_lists.proofs.KeptLemmas.{marks_at}
use Rattle.source_lists.proofs.kept_lists.kept_lists.Goals as goal

pub loop-number-preserved : goal.loop-number-preserved
loop-number-preserved c = λ passes flags.
    let lists = c.args.lists.now in
    let n = c.loop-number.number in
    let list = c.index-lists-number.result in
    let within : n < length lists = omega arith in
    let marks = c.deref.ensures.value ∙ marks_at (λ marks. marks.items) passes lists c.args.kept.now n c.index-kept-number.result list flags (omega (arith, c.requires, within)) within c.index-kept-number.is c.index-lists-number.is in
    ap (map seen_as_rest) c.in_ok-push.ensures.items
    ∙ (map_push seen_as_rest c.loop-number.left.items c.in_ok-kept_list.field-0
    ∙ ((λ i. c.loop-number.invariant passes flags i ++ c.in_ok-kept_list.ensures passes marks i ∷ [])
    ∙ (sym (map_push (passing_rest passes) (map seen_as_rest (take n lists)) (seen_as_rest list))
    ∙ (ap (map (passing_rest passes)) (sym (map_push seen_as_rest (take n lists) list))
    ∙ ap (λ lists. map (passing_rest passes) (map seen_as_rest lists)) (ap (λ last. take n lists ++ last ∷ []) c.index-lists-number.is ∙ sym (take_more lists n list within))))))
