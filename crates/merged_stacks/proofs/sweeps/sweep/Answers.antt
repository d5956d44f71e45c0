use Rattle.std.proofs.Common.{◌≡◌, ◌∙◌, ◌∷◌, sym, drop, map, arith}
use Rattle.std.proofs.lemmas.List.Elements.{All-push, All-same}
use Rattle.merged_stacks.specs.checked.Swept.{swept, place_row, IsPlace}
use Rattle.merged_stacks.proofs.SweepSteps.{swept_more, swept_all}
use Rattle.merged_stacks.proofs.sweeps.sweep.Goals as goal

pub each-preserved : goal.each-preserved
each-preserved c =
    let lefts = c.args.lefts.now in
    let rights = c.args.rights.now in
    let place = c.next_place-place.result in
    let step : swept (drop c.each.before lefts) (drop c.each.after rights) ≡ place_row lefts rights place ∷ swept (drop c.behind-next.result.0 lefts) (drop c.behind-next.result.1 rights) =
    c.next_place-place.ensures.next ∙ (λ i. place_row lefts rights place ∷ swept (drop (sym c.behind-next.ensures.before i) lefts) (drop (sym c.behind-next.ensures.after i) rights)) in
    record {
      before = omega (arith, c.behind-next.ensures.before, c.next_place-place.ensures.before);
      after = omega (arith, c.behind-next.ensures.after, c.next_place-place.ensures.after);
      rows = swept_more lefts rights c.each.places.items c.push.new.self.items place c.each.before c.each.after c.behind-next.result.0 c.behind-next.result.1 c.in_ok-push.ensures.items step c.each.invariant.rows;
      within = All-same (IsPlace lefts rights) c.push.new.self.items _ c.in_ok-push.ensures.items (All-push (IsPlace lefts rights) c.each.places.items place c.each.invariant.within c.next_place-place.ensures.place);
    }

pub returns-clause-rows : goal.returns-clause-rows
returns-clause-rows c =
    swept_all c.args.lefts.now c.args.rights.now c.each.before c.each.after (map (place_row c.args.lefts.now c.args.rights.now) c.each.places.items) (omega arith) (omega arith) c.each.invariant.rows
