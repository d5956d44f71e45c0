use Rattle.std.proofs.Common.{◌≡◌, ◌++◌, ◌∙◌, [], drop, ap, append-nil, arith, rules}
use Rattle.std.proofs.lemmas.List.{drop_all}
use Rattle.view_texts.specs.checked.BoxParts.{edge_text}
use Rattle.view_texts.proofs.box_buffers.turn_to.Goals as goal

pub returns-clause-ready : goal.returns-clause-ready
returns-clause-ready c =
    let start = c.args.drawn.now.start in
    let weight = c.args.drawn.now.weight in
    let none : drop 448 c.args.buffer.now.bytes ≡ [] = drop_all 448 c.args.buffer.now.bytes (omega arith) in
    record {
      left = ap (λ edges. edges.0) c.edges-left.ensures;
      edges = c.put_edges-buffer.ensures.text ∙ ap (λ t. edge_text c.edges-left.result.1 start weight ++ t) none ∙ append-nil (edge_text c.edges-left.result.1 start weight)
          ∙ ap (λ r. edge_text r start weight) (ap (λ edges. edges.1) c.edges-left.ensures);
      low = omega (arith, c.put_edges-buffer.ensures.start);
      high = c.put_edges-buffer.ensures.within;
    }

pub returns-then-weight-buffer-clause-weight : goal.returns-then-weight-buffer-clause-weight
returns-then-weight-buffer-clause-weight c = search rules
