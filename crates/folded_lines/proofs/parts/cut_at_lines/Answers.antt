use Rattle.std.proofs.Common.{◌∷◌, [], All, List, arith, length, length-append, subst, sym, take, ap, ◌∙◌, ℕ}
use Rattle.std.proofs.lemmas.List.Elements.{All-push}
use Rattle.folded_lines.specs.TextParts.{IsWholeLines, AreCutAtLines}
use Rattle.folded_lines.proofs.PartReaders.{cut_before, whole_at_end, whole_with}
use Rattle.folded_lines.proofs.parts.cut_at_lines.Goals as goal

pub loop-left-preserved : goal.loop-left-preserved
loop-left-preserved c =
    let parts = c.loop-left.parts.items in
    let left = c.loop-left.rest in
    let end = c.part_end-end.result in
    let last = c.in_ok-split_to.field-0 in
    let more = c.in_ok-push.ensures.items in
    let lines : IsWholeLines last = subst IsWholeLines (ap (λ (t : List ℕ). take end t) c.as_slice.ensures ∙ sym c.in_ok-split_to.ensures.front) c.part_end-end.ensures.lines in
    record {
      whole = whole_with parts c.push.new.self.items c.args.text left last c.split_to.new.self end c.loop-left.invariant.whole c.in_ok-split_to.ensures.front c.in_ok-split_to.ensures.rest more;
      lines = subst (All IsWholeLines) (sym more) (All-push IsWholeLines parts last c.loop-left.invariant.lines lines);
      count = omega (arith, ap length more, length-append parts (last ∷ []), c.loop-left.invariant.count, c.loop-left-test.true);
      some = omega (arith, c.loop-left-test.true);
    }

pub returns-clause-whole : goal.returns-clause-whole
returns-clause-whole c =
    whole_at_end c.loop-left.parts.items c.push-2.new.self.items c.args.text c.loop-left.rest c.loop-left.invariant.whole c.in_ok-push-2.ensures.items

pub returns-clause-lines : goal.returns-clause-lines
returns-clause-lines c =
    subst AreCutAtLines (sym c.in_ok-push-2.ensures.items) (cut_before c.loop-left.parts.items c.loop-left.rest c.loop-left.invariant.lines)
