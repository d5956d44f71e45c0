use Rattle.std.proofs.Common.{arith}
use Rattle.folded_lines.proofs.Buffers.{none_new, none_held, found_new, found_held}
use Rattle.folded_lines.proofs.line_buffer.LineBuffer.find_feed.Goals as goal

pub invariant_of-self : goal.invariant_of-self
invariant_of-self c =
    let ok = c.self.invariant in
    record {
      low = omega (arith, ok.low, ok.high);
      high = omega arith;
      within = ok.within;
      unfed = none_new c.self.inside c.as_slice.result.now ok c.as_slice.ensures c.in_default.ensures;
    }

pub returns-in_default-clause-feed : goal.returns-in_default-clause-feed
returns-in_default-clause-feed c =
    let ok = c.self.invariant in
    none_held c.self.inside c.args.self.now ok c.self.view_is (none_new c.self.inside c.as_slice.result.now ok c.as_slice.ensures c.in_default.ensures)

pub invariant_of-self-2 : goal.invariant_of-self-2
invariant_of-self-2 c =
    let ok = c.self.invariant in
    let found = found_new c.self.inside c.as_slice.result.now c.in-Some.at ok c.as_slice.ensures c.in-Some.ensures in
    record {
      low = omega (arith, ok.low);
      high = omega (arith, found.0);
      within = ok.within;
      unfed = found.1;
    }

pub returns-clause-feed : goal.returns-clause-feed
returns-clause-feed c = found_held c.self.inside c.as_slice.result.now c.args.self.now c.in-Some.at c.self.invariant c.as_slice.ensures c.in-Some.ensures c.self.view_is
