use Rattle.std.proofs.Common.{◌≡◌, List, ◌+◌, ◌-◌, ◌++◌, ◌∷◌, [], ◌∙◌, sym, ap, map, length, arith}
use Rattle.std.specs.List.{range_with_len}
use Rattle.std.proofs.lemmas.List.{append_assoc, append-nil, length_push}
use Rattle.std.proofs.lemmas.List.FromFn.{map-range_with_len_more}
use Rattle.flame_layout.specs.checked.Walk.{Run, new_run}
use Rattle.flame_layout.specs.checked.ChartWalks.{named_runs}
use Rattle.flame_layout.proofs.NamedRuns.{runs-pushed}
use Rattle.flame_layout.proofs.chart_walks.open_ends.Goals as goal

pub each-init : goal.each-init
each-init c =
    let n = length c.args.ends.now.items in
    let none : n - n ≡ 0 = omega arith in
    record {
      few = omega arith;
      most = c.requires;
      runs = λ stack. sym (append-nil (named_runs stack c.args.ends.now.items)) ∙ ap (λ k. named_runs stack c.args.ends.now.items ++ map (new_run stack c.args.end) (range_with_len n k)) (sym none);
    }

pub each-preserved : goal.each-preserved
each-preserved c =
    let first = length c.args.ends.now.items in
    let many = length c.each.ends.items in
    let next : length c.push.new.self.items ≡ many + 1 = ap length c.in_ok-push.ensures.items ∙ length_push c.each.ends.items _ in
    let longer : length c.push.new.self.items - first ≡ (many - first) + 1 = omega (arith, next, c.each.invariant.few) in
    record {
      few = omega (arith, next, c.each.invariant.few);
      most = omega (arith, next, c.each-test.true, c.len.ensures, c.each.ends.ok.0);
      runs = λ stack.
          let old = named_runs stack c.args.ends.now.items in
          let fresh = new_run stack c.args.end in
          let more : map fresh (range_with_len first (length c.push.new.self.items - first)) ≡ map fresh (range_with_len first (many - first)) ++ fresh many ∷ [] =
          ap (λ n. map fresh (range_with_len first n)) longer ∙ map-range_with_len_more fresh first (many - first) many (omega (arith, c.each.invariant.few)) in
          ap (named_runs stack) c.in_ok-push.ensures.items ∙ (runs-pushed stack c.each.ends.items c.args.end ∙ (ap (λ (runs : List Run). runs ++ fresh many ∷ []) (c.each.invariant.runs stack) ∙ (append_assoc old (map fresh (range_with_len first (many - first))) (fresh many ∷ []) ∙ ap (λ xs. old ++ xs) (sym more))));
    }
