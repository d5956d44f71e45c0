use Rattle.std.proofs.Common.{◌≡◌, Ok, min, length, drop, ap, arith}
use Rattle.std.proofs.lemmas.List.{length-append, length-drop, length-take}
use Rattle.std.specs.Arc.{arc_value}
use Rattle.byte_io.specs.Stored.{stored_content}
use Rattle.byte_io.proofs.Ranges.{front_read, range_end}
use Rattle.byte_io.proofs.stored_range.RangeReaderRead.read.Goals as goal

pub returns-clause-bytes : goal.returns-clause-bytes
returns-clause-bytes c =
    let known = stored_content (arc_value c.args.self.now.bytes) in
    let front = c.read_from.new.buf in
    let back = drop c.min-room.result c.args.buf.now in
    let read = rw c.deref.ensures at c.in_ok-count.ensures in
    let long : length front ≡ min c.args.self.now.left (length c.args.buf.now) = omega (arith, c.read_from.auto.buf, c.min-room.ensures, length-take c.min-room.result c.args.buf.now) in (
      front_read known _ _ _ front back (omega (arith, read.bound.0, long)) read.bound.0 read.bytes,
      λ none room. range_end known _ _ _ (λ some. read.end (ap Ok none) (omega (arith, long, length-append front back, length-drop c.min-room.result c.args.buf.now))),
    )
