use Rattle.std.proofs.Common.{◌≡◌, ◌+◌, ◌<◌, ◌∙◌, ◌∷◌, [], length, map, sym, ap, subst, arith, length-append, IfNone, IfSome, IsSome, slice_get}
use Rattle.std.specs.Vec.Iter.{into_iter_items}
use Rattle.ring_collect.specs.checked.Settlement.{AreSettled}
use Rattle.ring_collect.proofs.RunningSourceLemmas.{taken_all, taken_fewer, taken_next}
use Rattle.ring_collect.proofs.SettlementLemmas.{more_closes, more_settled, first_below}
use Rattle.ring_collect.proofs.settlement.settle_all.Goals as goal

pub settle-requires : goal.settle-requires
settle-requires g c =
    let all = c.into_iter-running-iterator.result in
    let before = c.loop-running.yielded in
    let gives : into_iter_items all ≡ c.args.sources.items = c.into_iter-running-iterator.ensures.into_iter_gives.0 in
    let fewer = taken_fewer all before c.loop-running.running-iterator c.loop-running.yielded_by c.in-Some.running _ c.in-Some.ensures.steps.0 in
    let next = taken_next all before c.loop-running.running-iterator c.loop-running.yielded_by c.in-Some.running _ c.in-Some.ensures.steps.0 in
    subst (λ found. IfSome found (λ running. IsSome running.intake.close)) (ap (λ items. slice_get items (length before)) (sym gives) ∙ next)
    (c.requires.closed (length before) (subst (λ items. length before < length items) gives fewer))

pub add_ledger-unfinished-requires : goal.add_ledger-unfinished-requires
add_ledger-unfinished-requires g c =
    let all = c.into_iter-running-iterator.result in
    let gives : length (into_iter_items all) ≡ length c.args.sources.items = ap length c.into_iter-running-iterator.ensures.into_iter_gives.0 in
    let fewer = taken_fewer all c.loop-running.yielded c.loop-running.running-iterator c.loop-running.yielded_by c.in-Some.running _ c.in-Some.ensures.steps.0 in
    let room = c.loop-running.invariant.room in
    let ledgers = c.loop-running.invariant.ledgers in
    omega arith

pub loop-running-preserved : goal.loop-running-preserved
loop-running-preserved g c =
    let so_far = c.loop-running.invariant in
    let added = c.add_ledger-unfinished.ensures in
    let one_more = length-append c.loop-running.yielded (c.in-Some.running ∷ []) in
    record {
      ends = (tt, tt);
      source = ap (λ n. n + 1) so_far.source ∙ sym one_more;
      room = let room = so_far.room in let more = added.room in omega arith;
      ledgers = let before = so_far.ledgers in let one = added.one in omega arith;
      settled = more_settled (λ gate. g.G.Gate.may_stop gate) (λ gate. g.G.Gate.may_go gate) (λ reader. g.R.RowReader.gives reader) c.loop-running.yielded c.loop-running.ledgers.items c.add_ledger-unfinished.new.ledgers.items c.loop-running.unfinished c.add_ledger-unfinished.result c.settle.result c.in-Some.running added.added so_far.settled c.settle.ensures.settled;
      closes = more_closes c.loop-running.yielded c.loop-running.ledgers.items c.add_ledger-unfinished.new.ledgers.items c.loop-running.unfinished c.add_ledger-unfinished.result c.settle.result c.in-Some.running added.added so_far.closes c.settle.ensures.closed;
      unfinished = subst (λ n. IfSome c.add_ledger-unfinished.result (λ first. first < n)) (sym one_more) (first_below c.loop-running.unfinished c.add_ledger-unfinished.result added.first so_far.unfinished so_far.source);
    }

-- all sources were given
whole : (g : _) (c : goal.After-drop-running-iterator g) → c.args.sources.items ≡ c.loop-running.yielded
whole g c =
    taken_all c.into_iter-running-iterator.result c.loop-running.yielded c.loop-running.running-iterator c.into_iter-running-iterator.ensures.into_iter_gives.0
    c.loop-running.yielded_by (let ok = c.loop-running.running-iterator.rest.ok.0 in let none = c.in-None.ensures.steps.0 in omega arith)

pub returns-clause-settled : goal.returns-clause-settled
returns-clause-settled g c =
    subst (λ all. IfNone c.loop-running.unfinished (AreSettled (λ gate. g.G.Gate.may_stop gate) (λ gate. g.G.Gate.may_go gate) (λ reader. g.R.RowReader.gives reader) all c.loop-running.ledgers.items)) (sym (whole g c)) c.loop-running.invariant.settled

pub returns-clause-closes : goal.returns-clause-closes
returns-clause-closes g c =
    subst (λ all. IfNone c.loop-running.unfinished (map (λ ledger. ledger.close) c.loop-running.ledgers.items ≡ map (λ running. running.intake.close) all)) (sym (whole g c)) c.loop-running.invariant.closes

pub returns-clause-unfinished : goal.returns-clause-unfinished
returns-clause-unfinished g c = subst (λ all. IfSome c.loop-running.unfinished (λ source. source < length all)) (sym (whole g c)) c.loop-running.invariant.unfinished
