use Rattle.std.proofs.Common.{◌+◌, ◌≤◌, length, take, vec_len, vec_capacity}
use Rattle.call_tree.proofs.WalkStep.{IsOnTheWay}
use Rattle.call_tree.proofs.nodes.Nodes.add.Given as goal

abbrev pub invariant-loop-id : goal.invariant-loop-id
invariant-loop-id l = record {
  on : IsOnTheWay l.self-inside.links.keys l.self-inside.owns.items l.self-inside.totals.items l.fn.self.links l.fn.self.owns (take l.id-index l.ids) l.weight l.node;
  links_room : length l.ids ≤ l.self-inside.links.room + l.id-index;
  owns_room : vec_len l.self-inside.owns + length l.ids ≤ vec_capacity l.self-inside.owns + l.id-index;
  totals_room : vec_len l.self-inside.totals + length l.ids ≤ vec_capacity l.self-inside.totals + l.id-index;
}
