use Rattle.std.proofs.Common.{◌≡◌, ◌<◌, ℕ, length, slice_get, IfSome, IsSome}
use Rattle.ring_collect.specs.checked.Rounds.{GoesOn}
use Rattle.ring_collect.specs.declared.intakes.Look.TheVariants.{Closed}
use Rattle.ring_collect.proofs.rounds.Collector.look_round.Given as goal

-- while all are closed nothing has changed
abbrev pub invariant-loop-source : goal.invariant-loop-source
invariant-loop-source g l = record {
  count : length l.self.sources.items ≡ length l.fn.self.sources.items;
  goes : GoesOn l.fn.self l.self (g.F.Feed.taken l.fn.sink) (g.F.Feed.taken l.sink) (g.F.Feed.setting l.fn.sink) (g.F.Feed.setting l.sink);
  closed : l.round ≡ Closed → (source : ℕ) → source < l.source → IfSome (slice_get l.self.sources.items source) (λ running. IsSome running.intake.close);
}
