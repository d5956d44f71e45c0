use Rattle.std.proofs.Common.{◌+◌, ◌*◌, ◌/◌, ◌∙◌, ap}
use Rattle.std.proofs.lemmas.Result.{on_ok_weaker}
use Rattle.flame_layout.specs.Boxes.{span_of}
use Rattle.flame_layout.specs.Edges.{left_edge, right_edge, placed_at}
use Rattle.view_texts.specs.declared.scales.Scale.{Scale}
use Rattle.view_texts.specs.checked.BoxParts.{edge_text}
use Rattle.view_texts.proofs.JsonMembers.{box_written}
use Rattle.view_texts.proofs.box_writers.BoxWriter.append_members.Goals as goal

pub returns-clause-ok : goal.returns-clause-ok
returns-clause-ok c =
    let scale = c.self.inside.scale in
    let span = span_of c.args.drawn.now in
    let ready = c.turn_to.ensures.ready in
    let left = ready.left ∙ ap (λ s. s * scale.width / scale.total) c.turn_to.ensures.start
    ∙ ap (λ (one : Scale). left_edge one.total one.width span) c.self.view_is in
    let edges = ready.edges ∙ (λ i. edge_text ((c.turn_to.ensures.start i + c.turn_to.ensures.weight i) * scale.width / scale.total) (c.turn_to.ensures.start i) (c.turn_to.ensures.weight i))
    ∙ ap (λ (one : Scale). edge_text (right_edge one.total one.width span) span.start span.weight) c.self.view_is in
    on_ok_weaker c.append_ready.result
    (λ e. box_written (placed_at c.args.self.now.total c.args.self.now.width span) c.args.opening c.turn_to.new.buffer.left c.args.text.now.items _ c.append_ready.new.text.items left edges e)
    c.append_ready.ensures.ok
