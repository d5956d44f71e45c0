use Rattle.std.proofs.Common.{◌∙◌, arith, codes}
use Rattle.run_options.specs.declared.ring_sizes.TheConstants.{LARGEST_RING}
use Rattle.command_line.proofs.ReadEntries.{number_given, number_or}
use Rattle.command_line.proofs.entries.ring.Goals as goal

pub unwrap-requires : goal.unwrap-requires
unwrap-requires c =
    let given = number_given c.args.entries.now (codes "ring") LARGEST_RING c.get_one.result (omega arith) c.requires c.get_one.ensures.none c.get_one.ensures.value in
    let read = number_or c.args.entries.now (codes "ring") LARGEST_RING 1024 c.get_one.result (omega arith) (omega arith) given in
    c.of.ensures.range.1 (rw c.unwrap_or-items.ensures (read.0, read.1))

pub returns : goal.returns
returns c =
    let given = number_given c.args.entries.now (codes "ring") LARGEST_RING c.get_one.result (omega arith) c.requires c.get_one.ensures.none c.get_one.ensures.value in
    let read = number_or c.args.entries.now (codes "ring") LARGEST_RING 1024 c.get_one.result (omega arith) (omega arith) given in
    let size = rw c.unwrap.ensures at c.of.ensures.size in
    size ∙ c.unwrap_or-items.ensures ∙ read.2
