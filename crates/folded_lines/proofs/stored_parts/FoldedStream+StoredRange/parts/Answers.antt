use Rattle.std.proofs.Common.{◌≡◌, ◌-◌, ◌∷◌, [], All, IfSome, List, arith, length, length-append, subst, sym, ap}
use Rattle.std.proofs.lemmas.List.Elements.{All-nil, All-push, All-weaker}
use Rattle.byte_io.specs.Stored.{known_range}
use Rattle.stack_core.specs.Reading.{IsSourceLimited, Rest}
use Rattle.stack_core.specs.RowReading.{GivesSome}
use Rattle.folded_lines.proofs.StoredParts.{AreReadTo, IsRangeReader, IsSomeRange, RangeStream, gives_rest, none_read, range_limits, range_possible, read_further, readers_in_parts}
use Rattle.folded_lines.proofs.stored_parts.FoldedStream+StoredRange.parts.Goals as goal

here : (c : goal.In_ok-push) → IsRangeReader (known_range c.args.text.now c.loop-left.begin (c.part_end-end.result - c.loop-left.begin)) c.in_ok-over_range.field-0
here c = record { gives = c.in_ok-over_range.ensures.gives; told = c.in_ok-over_range.ensures.told }

pub loop-left-init : goal.loop-left-init
loop-left-init c =
    let empty = c.in_ok-readers.ensures.items in
    record {
      each = subst (All IsSomeRange) (sym empty) (All-nil IsSomeRange);
      parts = subst (λ (readers : List RangeStream). IfSome c.args.text.now (λ all. AreReadTo all readers 0)) (sym empty) (none_read c.args.text.now);
      count = omega (arith, ap length empty);
      some = omega (arith, c.requires);
    }

pub loop-left-preserved : goal.loop-left-preserved
loop-left-preserved c =
    let readers = c.loop-left.readers.items in
    let reader = c.in_ok-over_range.field-0 in
    let begin = c.loop-left.begin in
    let end = c.part_end-end.result in
    let more = c.in_ok-push.ensures.items in
    let cut = c.part_end-end.ensures in
    record {
      each =
          subst (All IsSomeRange) (sym more)
          (All-push IsSomeRange readers reader c.loop-left.invariant.each (known_range c.args.text.now begin (end - begin), here c));
      parts = read_further c.args.text.now readers c.push.new.self.items reader begin end more cut.ordered cut.within cut.lines (here c) c.loop-left.invariant.parts;
      count = omega (arith, ap length more, length-append readers (reader ∷ []), c.loop-left.invariant.count, c.loop-left-test.true);
      some = omega (arith, c.loop-left-test.true);
    }

last : (c : goal.In_ok-push-2) → IsRangeReader (known_range c.args.text.now c.loop-left.begin (c.len.result - c.loop-left.begin)) c.in_ok-over_range-2.field-0
last c = record { gives = c.in_ok-over_range-2.ensures.gives; told = c.in_ok-over_range-2.ensures.told }

each : (c : goal.In_ok-push-2) → All IsSomeRange c.push-2.new.self.items
each c =
    let begin = c.loop-left.begin in
    subst (All IsSomeRange) (sym c.in_ok-push-2.ensures.items)
    (All-push IsSomeRange c.loop-left.readers.items c.in_ok-over_range-2.field-0 c.loop-left.invariant.each (known_range c.args.text.now begin (c.len.result - begin), last c))

pub returns-clause-parts : goal.returns-clause-parts
returns-clause-parts c =
    readers_in_parts c.args.text.now c.loop-left.readers.items c.push-2.new.self.items c.in_ok-over_range-2.field-0 c.loop-left.begin c.len.result
    c.in_ok-push-2.ensures.items c.len.ensures.known (last c) c.loop-left.invariant.parts

pub returns-clause-count : goal.returns-clause-count
returns-clause-count c =
    omega (arith, ap length c.in_ok-push-2.ensures.items, length-append c.loop-left.readers.items (c.in_ok-over_range-2.field-0 ∷ []), c.loop-left.invariant.count, c.loop-left.invariant.some, c.loop-left-test.false)

pub returns-clause-told : goal.returns-clause-told
returns-clause-told c =
    All-weaker IsSomeRange (λ (reader : RangeStream). reader.telling ≡ record { names = []; stacks = [] }) (λ reader is. is.1.told) c.push-2.new.self.items (each c)

pub returns-clause-possible : goal.returns-clause-possible
returns-clause-possible c =
    All-weaker IsSomeRange (λ reader. GivesSome (gives_rest reader)) range_possible c.push-2.new.self.items (each c)

pub returns-clause-limits : goal.returns-clause-limits
returns-clause-limits c =
    All-weaker IsSomeRange (λ reader. (rest : Rest) → gives_rest reader rest → IsSourceLimited rest.samples) range_limits c.push-2.new.self.items (each c)
