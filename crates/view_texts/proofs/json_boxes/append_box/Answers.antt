use Rattle.std.proofs.Common.{ℕ, ◌++◌, ◌∙◌, Option, ap, sym}
use Rattle.std.proofs.lemmas.Result.{on_ok_weaker}
use Rattle.serde_json.specs.Written.{compact_text}
use Rattle.flame_layout.specs.Boxes.{span_of}
use Rattle.view_texts.specs.Lines.{data_with}
use Rattle.view_texts.proofs.json_boxes.append_box.Goals as goal

pub returns-in-Some-clause-ok : goal.returns-in-Some-clause-ok
returns-in-Some-clause-ok c =
    let scale = c.args.writer.now in
    on_ok_weaker c.append_compared.result
    (λ e. e ∙ ap (λ (before : Option ℕ). c.args.text.now.items ++ compact_text (data_with scale.total scale.width (span_of c.args.one.now.drawn) before)) (sym c.in-Some.is)) c.append_compared.ensures.ok
