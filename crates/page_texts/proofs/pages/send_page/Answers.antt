use Rattle.std.proofs.Common.{ℕ, List, refl, subst, ◌∙◌, ◌++◌}
use Rattle.std.proofs.KnownBytes.{Appends-nil}
use Rattle.std.proofs.lemmas.Result.{IfOk-from_err}
use Rattle.std.specs.Prelude.{OnOk, OnErr}
use Rattle.std.specs.Io.KnownBytes.{Appends}
use Rattle.byte_io.specs.Pieces.{AppendsFront}
use Rattle.byte_io.proofs.PieceTexts.{on_err}
use Rattle.page_texts.specs.Page.{page_text}
use Rattle.page_texts.specs.Drawn.{page_of}
use Rattle.page_texts.proofs.PartLists.{concat-parts}
use Rattle.page_texts.proofs.Unsent.{not_of_output}
use Rattle.page_texts.proofs.pages.send_page.Goals as goal

pub returns-clause-ok : goal.returns-clause-ok
returns-clause-ok g c =
    subst (λ (text : List ℕ). OnOk c.send_pieces.result (Appends (g.W.Outlet.contents c.args.out.now) (g.W.Outlet.contents c.send_pieces.new.out) text))
    (concat-parts c.in_ok-document.document.parts.items ∙ c.in_ok-document.ensures.text ∙ (λ i. c.head.ensures i ++ (page_text (page_of g.L.FlameBoxes.boxes c.args.page.now) ++ c.tail.ensures i))) c.send_pieces.ensures.ok

pub returns-clause-front : goal.returns-clause-front
returns-clause-front g c =
    subst (λ (text : List ℕ). OnErr c.send_pieces.result (AppendsFront text (g.W.Outlet.contents c.args.out.now) (g.W.Outlet.contents c.send_pieces.new.out)))
    (concat-parts c.in_ok-document.document.parts.items ∙ c.in_ok-document.ensures.text ∙ (λ i. c.head.ensures i ++ (page_text (page_of g.L.FlameBoxes.boxes c.args.page.now) ++ c.tail.ensures i))) c.send_pieces.ensures.front

pub returns-in_err-kept-clause-ok : goal.returns-in_err-kept-clause-ok
returns-in_err-kept-clause-ok g c = IfOk-from_err c.from_residual.result _ c.from_residual.ensures.0

pub returns-in_err-kept-clause-flushed : goal.returns-in_err-kept-clause-flushed
returns-in_err-kept-clause-flushed g c = IfOk-from_err c.from_residual.result _ c.from_residual.ensures.0

pub returns-in_err-kept-clause-output : goal.returns-in_err-kept-clause-output
returns-in_err-kept-clause-output g c = not_of_output c.from_residual.result c.from_residual.ensures.1

pub returns-in_err-document-clause-ok : goal.returns-in_err-document-clause-ok
returns-in_err-document-clause-ok g c = IfOk-from_err c.from_residual-in_err-document.result _ c.from_residual-in_err-document.ensures.0

pub returns-in_err-document-clause-flushed : goal.returns-in_err-document-clause-flushed
returns-in_err-document-clause-flushed g c = IfOk-from_err c.from_residual-in_err-document.result _ c.from_residual-in_err-document.ensures.0

pub returns-in_err-document-clause-output : goal.returns-in_err-document-clause-output
returns-in_err-document-clause-output g c = not_of_output c.from_residual-in_err-document.result c.from_residual-in_err-document.ensures.1

pub returns-in_err-kept-clause-front : goal.returns-in_err-kept-clause-front
returns-in_err-kept-clause-front g c = on_err c.from_residual.result (0, Appends-nil (g.W.Outlet.contents c.args.out.now))

pub returns-in_err-kept-clause-unfailed : goal.returns-in_err-kept-clause-unfailed
returns-in_err-kept-clause-unfailed g c = λ _. refl

pub returns-in_err-document-clause-front : goal.returns-in_err-document-clause-front
returns-in_err-document-clause-front g c = on_err c.from_residual-in_err-document.result (0, Appends-nil (g.W.Outlet.contents c.args.out.now))

pub returns-in_err-document-clause-unfailed : goal.returns-in_err-document-clause-unfailed
returns-in_err-document-clause-unfailed g c = λ _. refl

pub returns-clause-flushed : goal.returns-clause-flushed
returns-clause-flushed g c = c.send_pieces.ensures.flushed

pub returns-clause-output : goal.returns-clause-output
returns-clause-output g c = c.send_pieces.ensures.output

pub returns-clause-unfailed : goal.returns-clause-unfailed
returns-clause-unfailed g c = c.send_pieces.ensures.unfailed
