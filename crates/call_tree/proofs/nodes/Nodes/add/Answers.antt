use Rattle.std.proofs.Common.{◌≡◌, ℕ, ◌+◌, ◌<◌, ◌^◌, List, [], get_or, set, sym, ap, subst, ◌∙◌, arith}
use Rattle.std.proofs.lemmas.Grind.{get_or_default_zero}
use Rattle.std.proofs.lemmas.List.{take_more}
use Rattle.call_tree.specs.CallTree.{total_weight, tree_of}
use Rattle.call_tree.specs.declared.links.Link.{Link}
use Rattle.call_tree.specs.checked.Nodes.{NodeLists, samples_of, weights_of, IsTree}
use Rattle.call_tree.proofs.Found.{root_total}
use Rattle.call_tree.proofs.Paths.{path_of_root}
use Rattle.call_tree.proofs.Walk.{IsWalked, walk_starts}
use Rattle.call_tree.proofs.WalkStep.{IsOnTheWay, walk_steps, child_fits, on_at_end, own_fits, ends_tree, ends_weights}
use Rattle.call_tree.proofs.nodes.Nodes.add.Goals as goal

abbrev IsTreeOf : NodeLists → Type 0
IsTreeOf nodes = IsTree nodes.links nodes.owns nodes.totals

-- the root's total has room for the weight
root_fits : (nodes : NodeLists) (w bound : ℕ) → IsTreeOf nodes → total_weight (weights_of nodes) [] + w < bound → get_or nodes.totals 0 0 + w < bound
root_fits nodes w bound t fits = omega (arith, fits, root_total nodes.links nodes.owns nodes.totals t)

read_root : (links : List Link) (owns totals : List ℕ) → IsTree links owns totals → (read : ℕ) → read ≡ get_or totals 0 read → read ≡ get_or totals 0 0
read_root links owns totals t read is = is ∙ get_or_default_zero totals 0 read (omega (arith, t.shape.totals_len))

pub overflow_add-index_mut : goal.overflow_add-index_mut
overflow_add-index_mut c =
    let before = subst IsTreeOf c.self.view_is c.self.invariant in
    let fits = root_fits c.args.self.now c.args.weight (2 ^ 128) before c.requires.fits in
    let reserved : IsTree c.reserve.new.self.keys c.reserve-2.new.self.items c.reserve-3.new.self.items =
    rw (c.in_ok-reserve.ensures.keys, c.in_ok-reserve-2.ensures.items, c.in_ok-reserve-3.ensures.items) c.self.invariant in
    let same : get_or c.reserve-3.new.self.items 0 0 ≡ get_or c.args.self.now.totals 0 0 =
    ap (λ totals. get_or totals 0 0) c.in_ok-reserve-3.ensures.items ∙ ap (λ (n : NodeLists). get_or n.totals 0 0) c.self.view_is in
    omega (arith, read_root _ _ _ reserved c.index_mut.result.now c.index_mut.ensures.value, same, fits)

pub loop-id-init : goal.loop-id-init
loop-id-init c =
    let reserved : IsTree c.reserve.new.self.keys c.reserve-2.new.self.items c.reserve-3.new.self.items =
    rw (c.in_ok-reserve.ensures.keys, c.in_ok-reserve-2.ensures.items, c.in_ok-reserve-3.ensures.items) c.self.invariant in
    let read = read_root _ _ _ reserved c.index_mut.result.now c.index_mut.ensures.value in
    record {
      on = record {
        walked = subst (λ n. IsWalked c.reserve.new.self.keys c.reserve-2.new.self.items (set c.reserve-3.new.self.items 0 (n + c.args.weight)) [] c.args.weight) (sym read)
            (walk_starts _ _ _ c.args.weight reserved);
        at = (omega arith, path_of_root c.reserve.new.self.keys);
        same = (λ i. tree_of (samples_of (c.in_ok-reserve.ensures.keys i) (c.in_ok-reserve-2.ensures.items i))) ∙ ap weights_of c.self.view_is;
      };
      links_room = omega (arith, c.in_ok-reserve.ensures.room);
      owns_room = omega (arith, c.in_ok-reserve-2.ensures.ok);
      totals_room = omega (arith, c.in_ok-reserve-3.ensures.ok);
    }

pub enter-node-requires-clause-fits : goal.enter-node-requires-clause-fits
enter-node-requires-clause-fits c =
    let before = subst IsTreeOf c.self.view_is c.self.invariant in
    child_fits _ (2 ^ 128) before c.loop-id.invariant.on (root_fits c.args.self.now c.args.weight (2 ^ 128) before c.requires.fits)

pub loop-id-preserved : goal.loop-id-preserved
loop-id-preserved c = record {
  on = subst (λ front. IsOnTheWay c.enter-node.new.links.keys c.enter-node.new.owns.items c.enter-node.new.totals.items
      c.args.self.now.links c.args.self.now.owns front c.args.weight c.enter-node.result)
      (sym (take_more c.args.ids.now c.loop-id.id-index 0 (omega arith)))
      (walk_steps c.loop-id.invariant.on c.requires.positive c.enter-node.ensures.child);
  links_room = omega (arith, c.enter-node.ensures.links_room, c.loop-id.invariant.links_room);
  owns_room = omega (arith, c.enter-node.ensures.owns_room, c.loop-id.invariant.owns_room);
  totals_room = omega (arith, c.enter-node.ensures.totals_room, c.loop-id.invariant.totals_room);
}

pub overflow_add-index_mut-2 : goal.overflow_add-index_mut-2
overflow_add-index_mut-2 c =
    let before = subst IsTreeOf c.self.view_is c.self.invariant in
    let fits = root_fits c.args.self.now c.args.weight (2 ^ 128) before c.requires.fits in
    omega (arith, own_fits (on_at_end c.loop-id.id-index c.loop-id.invariant.on c.loop-id-test.false) c.index_mut-2.result.now (2 ^ 128) c.index_mut-2.ensures.value before fits)

pub invariant_of-self-2 : goal.invariant_of-self-2
invariant_of-self-2 c = ends_tree (on_at_end c.loop-id.id-index c.loop-id.invariant.on c.loop-id-test.false) c.index_mut-2.result.now c.index_mut-2.ensures.value

pub returns-clause-ok : goal.returns-clause-ok
returns-clause-ok c = ends_weights (on_at_end c.loop-id.id-index c.loop-id.invariant.on c.loop-id-test.false) c.index_mut-2.result.now c.index_mut-2.ensures.value
