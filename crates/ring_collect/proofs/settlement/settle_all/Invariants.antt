use Rattle.std.proofs.Common.{◌≡◌, ◌≤◌, ◌<◌, length, map, vec_capacity, IfSome, IfNone}
use Rattle.ring_collect.specs.checked.Settlement.{AreSettled}
use Rattle.ring_collect.proofs.settlement.settle_all.Given as goal

-- the sources so far are settled, unless one of them is unfinished
abbrev pub invariant-loop-running : goal.invariant-loop-running
invariant-loop-running g l = record {
  ends : (goal.iterator-loop-running g).can_next l.running-iterator × (goal.iterator-loop-running g).is_finite l.running-iterator;
  source : l.source ≡ length l.yielded;
  room : length l.fn.sources.items ≤ vec_capacity l.ledgers;
  ledgers : length l.ledgers.items ≤ length l.yielded;
  settled : IfNone l.unfinished (AreSettled (λ gate. g.G.Gate.may_stop gate) (λ gate. g.G.Gate.may_go gate) (λ reader. g.R.RowReader.gives reader) l.yielded l.ledgers.items);
  closes : IfNone l.unfinished (map (λ ledger. ledger.close) l.ledgers.items ≡ map (λ running. running.intake.close) l.yielded);
  unfinished : IfSome l.unfinished (λ source. source < length l.yielded);
}
