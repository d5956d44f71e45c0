use Rattle.std.proofs.Common.{take}
use Rattle.call_tree.specs.checked.Nodes.{IsNodeOf}
use Rattle.call_tree.proofs.nodes.Nodes.find.Given as goal

abbrev pub invariant-loop-frame : goal.invariant-loop-frame
invariant-loop-frame l = IsNodeOf l.self-inside.links.keys (take l.frame-index l.path) l.node
