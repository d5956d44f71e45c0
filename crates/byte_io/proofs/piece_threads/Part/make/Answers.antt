use Rattle.std.proofs.Common.{◌++◌, ◌∙◌, ap, sym, arith}
use Rattle.std.specs.List.{concat, slice_range}
use Rattle.byte_io.proofs.PieceTexts.{range_on}
use Rattle.byte_io.proofs.piece_threads.Part.make.Goals as goal

pub each-preserved : goal.each-preserved
each-preserved g c =
    let pieces = g.P.Pieces.pieces c.args.text.now in
    let at = c.each.self.next in
    let next = c.in_ok-self.field-0 in
    record {
      from = c.each.invariant.from;
      bytes = c.in_ok-self.ensures.ok ∙ ap (λ text. text ++ concat (slice_range pieces at next)) c.each.invariant.bytes
          ∙ sym (range_on pieces c.each.self.from at next c.each.invariant.further (omega (arith, c.in_ok-self.ensures.further)));
      further = omega (arith, c.each.invariant.further, c.in_ok-self.ensures.further);
      within = λ _. c.in_ok-self.ensures.within;
    }

pub returns-then-self-clause-made : goal.returns-then-self-clause-made
returns-then-self-clause-made g c =
    let pieces = g.P.Pieces.pieces c.args.text.now in
    let at = c.each.self.next in
    let next = c.in_ok-self.field-0 in
    record {
      bytes = c.in_ok-self.ensures.ok ∙ ap (λ text. text ++ concat (slice_range pieces at next)) c.each.invariant.bytes
          ∙ sym (range_on pieces c.each.self.from at next c.each.invariant.further (omega (arith, c.in_ok-self.ensures.further)));
      further = omega (arith, c.each.invariant.further, c.in_ok-self.ensures.further);
      within = λ _. c.in_ok-self.ensures.within;
      some = λ _. omega (arith, c.each.invariant.further, c.in_ok-self.ensures.further);
    }
