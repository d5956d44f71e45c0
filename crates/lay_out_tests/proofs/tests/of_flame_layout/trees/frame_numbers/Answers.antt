use Rattle.std.proofs.Common.{◌≡◌, ◌++◌, ◌∷◌, [], ◌∙◌, sym, ap, arith, take, get_or, length}
use Rattle.std.proofs.lemmas.List.{map_push, take_more}
use Rattle.sample_tables.specs.Rows.{sample_at}
use Rattle.call_tree.specs.Listing.{named, AreIn}
use Rattle.flame_layout.proofs.Held.{grows-trans, grows-interned, known-grows, named-grows, each-push, got}
use Rattle.lay_out_tests.proofs.tests.of_flame_layout.trees.frame_numbers.Goals as goal
use Rattle.std.proofs.Common.{◌<◌, subst}

pub loop-frame-preserved : goal.loop-frame-preserved
loop-frame-preserved c =
    let stack = (sample_at c.args.list.now.samples c.args.at).stack in
    let old = c.loop-frame.table in
    let new = c.intern.new.self in
    let ids = c.loop-frame.numbers.items in
    let n = c.in_ok-intern.field-0 in
    let i = c.loop-frame.frame in
    let grows = grows-interned old new c.name.result.now c.in_ok-intern.ensures.names in
    let name : get_or new n [] ≡ get_or stack i [] = got new n c.name.result.now c.in_ok-intern.ensures.number ∙ c.name.ensures in
    let front : named new ids ≡ take i stack = sym (named-grows old new ids grows c.loop-frame.invariant.known) ∙ c.loop-frame.invariant.names in
    let within : i < length stack = omega (arith, c.depth-frame-end.ensures.value) in
    record {
      names = ap (named new) c.in_ok-push.ensures.items ∙ (map_push (λ k. get_or new k []) ids n ∙ ((λ j. front j ++ name j ∷ []) ∙ sym (take_more stack i [] within)));
      known = subst (AreIn new) (sym c.in_ok-push.ensures.items) (each-push (λ k. k < length new) ids n (known-grows old new ids grows c.loop-frame.invariant.known) c.in_ok-intern.ensures.below);
      grows = grows-trans c.args.table.now old new c.loop-frame.invariant.grows grows;
      distinct = c.in_ok-intern.ensures.distinct;
    }
