use Rattle.std.proofs.Common.{◌≡◌, ◌+◌, ◌++◌, ◌∷◌, [], ◌∙◌, ap, arith, take, get_or, List, ℕ, subst, sym}
use Rattle.std.proofs.lemmas.List.{take_more}
use Rattle.call_tree.specs.FrameTable.{with_name}
use Rattle.ring_collect.specs.NamesInOrder.{with_stack}
use Rattle.ring_collect.proofs.NameOrder.{with_stack_push}
use Rattle.flame_layout.proofs.Held.{grows-trans, grows-interned, got}
use Rattle.merging.specs.checked.TakenRows.{AreNumbersOf}
use Rattle.merging.proofs.RowLemmas.{numbers-push}
use Rattle.merging.proofs.taken_rows.number_names.Goals as goal

pub returns-in_err-push-clause-grows : goal.returns-in_err-push-clause-grows
returns-in_err-push-clause-grows c =
    grows-trans c.args.table.now c.loop-at.table c.number_name.new.table c.loop-at.invariant.grows
    (grows-interned c.loop-at.table c.number_name.new.table c.name_of.result.now c.in_ok-number.ensures.names)

pub loop-at-preserved : goal.loop-at-preserved
loop-at-preserved c =
    let so_far = c.loop-at.invariant in
    let number = c.in_ok-number.ensures in
    let old = c.loop-at.table in
    let new = c.number_name.new.table in
    let at = c.loop-at.at in
    let names = c.args.stack.now in
    let name = get_or names at [] in
    let grows = grows-interned old new c.name_of.result.now number.names in
    let there : get_or new c.in_ok-number.number [] ≡ name = got new c.in_ok-number.number c.name_of.result.now number.number ∙ c.name_of.ensures in
    let more : take (at + 1) names ≡ take at names ++ name ∷ [] = take_more names at [] (omega arith) in
    record {
      reached = omega arith;
      count = so_far.count;
      numbers =
          subst (λ (stack : List (List ℕ)). AreNumbersOf stack new c.push.new.self.items) (sym more)
          (numbers-push (take at names) old new c.loop-at.numbers.items c.push.new.self.items name c.in_ok-number.number
          so_far.numbers grows there number.below c.in_ok-push.ensures.items);
      grows = grows-trans c.args.table.now old new so_far.grows grows;
      in_order =
          number.names
          ∙ ((λ i. with_name (so_far.in_order i) (c.name_of.ensures i))
          ∙ sym (ap (with_stack c.args.table.now) more ∙ with_stack_push c.args.table.now (take at names) name));
      distinct = number.distinct;
    }
