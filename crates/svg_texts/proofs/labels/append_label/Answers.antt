use Rattle.std.proofs.Common.{◌≡◌, [], ◌++◌, sym, ap, ◌∙◌, append-nil, arith}
use Rattle.std.proofs.lemmas.Result.{on_ok_weaker}
use Rattle.std.proofs.lemmas.Bool.Decides.{nat_tests}
use Rattle.svg_texts.specs.Shown.{shown, visible, xml_text}
use Rattle.svg_texts.specs.Labels.{label, change_label}
use Rattle.view_texts.proofs.Fronts.{text_after}
use Rattle.svg_texts.proofs.LabelTexts.{label-short, label-empty, label-whole, label-cut}
use Rattle.svg_texts.proofs.labels.append_label.Goals as goal
use Rattle.svg_texts.proofs.labels.append_label.Goals.{then-room-lt2-via-then-room-lt2, then-room-lt2-via-else-room-lt2+then-is_empty}

pub returns-then-room-lt2-clause-ok : goal.returns-then-room-lt2-clause-ok
returns-then-room-lt2-clause-ok c =
    let start = c.args.out.now.items in
    let none : label c.args.room c.args.name.now c.args.change ≡ [] =
    elim c.then-room-lt2.branch [
      | then-room-lt2-via-then-room-lt2 w ↦ label-short c.args.room c.args.name.now c.args.change w.if-room-lt2.true
      | then-room-lt2-via-else-room-lt2+then-is_empty w ↦ label-empty c.args.room c.args.name.now c.args.change (grind (arith, nat_tests))
    ] in
    sym (ap (λ text. start ++ text) none ∙ append-nil start)

pub returns-in_ok-append_shown-in-Some-clause-ok : goal.returns-in_ok-append_shown-in-Some-clause-ok
unfolding shown
returns-in_ok-append_shown-in-Some-clause-ok c =
    let start = c.args.out.now.items in
    let whole = label-whole c.args.room c.in-Some.rest c.args.name.now c.args.change c.if-room-lt2.false (grind (arith, nat_tests)) (sym c.room_behind.ensures ∙ c.in-Some.is) in
    on_ok_weaker c.append_change_label.result
    (λ is. text_after start c.append_shown.new.out.items _ (xml_text (visible c.args.name.now)) (change_label c.in-Some.rest c.args.change) c.in_ok-append_shown-in-Some.ensures.ok is ∙ ap (λ text. start ++ text) (sym whole))
    c.append_change_label.ensures.ok

pub returns-in-None-clause-ok : goal.returns-in-None-clause-ok
returns-in-None-clause-ok c =
    let start = c.args.out.now.items in
    let part = label-cut c.args.room c.args.name.now c.args.change c.if-room-lt2.false (grind (arith, nat_tests)) (sym c.room_behind.ensures ∙ c.in-None.is) in
    on_ok_weaker c.append_cut.result (λ is. is ∙ ap (λ text. start ++ text) (sym part)) c.append_cut.ensures.ok
