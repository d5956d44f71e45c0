use Rattle.std.proofs.Common.{◌≡◌, ◌+◌, ◌++◌, ◌∷◌, [], ◌∙◌, List, ℕ, ap, arith, get_or, map, subst, sym, take}
use Rattle.std.proofs.lemmas.List.{map_push, take_more}
use Rattle.flame_layout.proofs.Held.{grows-trans}
use Rattle.sample_tables.specs.Rows.{name_at}
use Rattle.merging.specs.checked.TakenRows.{AreNumbersOf}
use Rattle.merging.proofs.RowLemmas.{numbers-push}
use Rattle.merging.proofs.summed_stacks.number_frames.Goals as goal

pub returns-in_err-number-clause-names : goal.returns-in_err-number-clause-names
returns-in_err-number-clause-names c = grows-trans c.args.table.now.names c.loop-frame.table.names c.number_told.new.table.names c.loop-frame.invariant.names c.number_told.ensures.names

pub returns-in_err-push-clause-names : goal.returns-in_err-push-clause-names
returns-in_err-push-clause-names c = grows-trans c.args.table.now.names c.loop-frame.table.names c.number_told.new.table.names c.loop-frame.invariant.names c.number_told.ensures.names

pub loop-frame-preserved : goal.loop-frame-preserved
loop-frame-preserved c =
    let so_far = c.loop-frame.invariant in
    let told = c.args.ledger.now.told in
    let frames = c.args.frames.now in
    let at = c.loop-frame.frame-index in
    let name = name_at told (get_or frames at 0) in
    let old = c.loop-frame.table.names in
    let new = c.number_told.new.table.names in
    let number = c.in_ok-number.ensures in
    let more : map (name_at told) (take (at + 1) frames) ≡ map (name_at told) (take at frames) ++ name ∷ [] =
    ap (map (name_at told)) (take_more frames at 0 (omega arith)) ∙ map_push (name_at told) (take at frames) (get_or frames at 0) in
    record {
      reached = omega arith;
      numbers =
          subst (λ (stack : List (List ℕ)). AreNumbersOf stack new c.push.new.self.items) (sym more)
          (numbers-push (map (name_at told) (take at frames)) old new c.loop-frame.numbers.items c.push.new.self.items name c.in_ok-number.number
          so_far.numbers c.number_told.ensures.names (number.number ∙ c.told_name.ensures) number.below c.in_ok-push.ensures.items);
      names = grows-trans c.args.table.now.names old new so_far.names c.number_told.ensures.names;
      stacks = c.number_told.ensures.stacks ∙ so_far.stacks;
    }
