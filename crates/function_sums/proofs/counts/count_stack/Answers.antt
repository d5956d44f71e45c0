use Rattle.std.proofs.Common.{◌<◌, length, map, take, set, get_or, refl, sym, ap, subst, ◌∙◌, arith, IfSome}
use Rattle.std.proofs.lemmas.List.{take_all, map_more, length-set}
use Rattle.sample_tables.specs.Rows.{name_at}
use Rattle.function_sums.specs.checked.Counted.{AreCounts, ended}
use Rattle.function_sums.proofs.Counting.{none, with_own, frame_more, room_more, stack_begins, stack_empty, stack_ended}
use Rattle.function_sums.proofs.counts.count_stack.Goals as goal

pub loop-rank-init : goal.loop-rank-init
loop-rank-init c = record {
  many = refl;
  room = c.requires.room;
  counted = λ names lasts done rising are. stack_begins names c.args.counts.now lasts done c.args.weight c.args.stamp are;
}

pub count_frame-requires : goal.count_frame-requires
count_frame-requires c = record {
  rank = omega (arith, c.requires.known c.loop-rank.rank-index 0 c.loop-rank-test.true, c.loop-rank.invariant.many);
  room = λ k d lt. (c.loop-rank.invariant.room k d lt).1;
}

pub loop-rank-preserved : goal.loop-rank-preserved
loop-rank-preserved c =
    let i = c.loop-rank.rank-index in
    let ranks = c.args.ranks.now in
    let rank = get_or ranks i 0 in
    let old = c.loop-rank.counts in
    let below : rank < length old = omega (arith, c.requires.known i 0 c.loop-rank-test.true, c.loop-rank.invariant.many) in
    record {
      many = ap length (c.count_frame.ensures none) ∙ length-set old rank _ ∙ c.loop-rank.invariant.many;
      room = room_more old c.count_frame.new.counts c.args.weight c.args.stamp rank below c.loop-rank.invariant.room c.count_frame.ensures;
      counted = λ names lasts done rising are.
          let before = c.loop-rank.invariant.counted names lasts done rising are in
          subst (λ front. AreCounts names c.count_frame.new.counts lasts done front c.args.weight c.args.stamp) (sym (map_more (name_at names) ranks i 0 c.loop-rank-test.true))
          (frame_more names old c.count_frame.new.counts lasts done (map (name_at names) (take i ranks)) c.args.weight c.args.stamp rank before rising (omega (arith, below, before.many)) c.count_frame.ensures);
    }

pub returns-in-Some : goal.returns-in-Some
returns-in-Some c names lasts done ending rising are weighs ends_in =
    let counts = c.loop-rank.counts in
    let last = c.in-Some.last in
    let before = c.loop-rank.invariant.counted names lasts done rising are in
    let all = subst (λ front. AreCounts names counts lasts done front c.args.weight c.args.stamp) (ap (map (name_at names)) (take_all c.loop-rank.rank-index c.args.ranks.now (omega (arith, c.loop-rank-test.false)))) before in
    stack_ended names counts lasts done ending (record { stack = map (name_at names) c.args.ranks.now; weight = c.args.weight }) c.args.stamp all weighs
    (set counts last (with_own c.args.weight (get_or counts last none))) last rising
    (omega (arith, subst (λ it. IfSome it (λ rank. rank < length c.args.counts.now)) c.in-Some.is c.requires.last, are.many))
    (λ name. ends_in name ∙ ap (λ it. ended names it name) c.in-Some.is) refl

pub returns-in_default : goal.returns-in_default
returns-in_default c names lasts done ending rising are weighs ends_in =
    let counts = c.loop-rank.counts in
    let before = c.loop-rank.invariant.counted names lasts done rising are in
    let all = subst (λ front. AreCounts names counts lasts done front c.args.weight c.args.stamp) (ap (map (name_at names)) (take_all c.loop-rank.rank-index c.args.ranks.now (omega (arith, c.loop-rank-test.false)))) before in
    stack_empty names counts lasts done ending (record { stack = map (name_at names) c.args.ranks.now; weight = c.args.weight }) c.args.stamp all weighs
    (λ name. ends_in name ∙ ap (λ it. ended names it name) c.in_default.is)
