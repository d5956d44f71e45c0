use Rattle.std.proofs.Common.{ap, ◌++◌, ◌∙◌}
use Rattle.std.proofs.lemmas.Iterator.{YieldsList-from_chars}
use Rattle.byte_io.proofs.PieceTexts.{further}
use Rattle.svg_texts.specs.Shown.{shown, xml_text}
use Rattle.svg_texts.proofs.Characters.{all_there}
use Rattle.svg_texts.proofs.Visible.{seen}
use Rattle.svg_texts.proofs.shown_texts.append_shown.Goals as goal

pub returns-clause-ok : goal.returns-clause-ok
unfolding shown
returns-clause-ok c =
    let all = all_there (YieldsList-from_chars c.args.text.now c.utf8.text cc) c.loop-character.yielded _ c.loop-character.yielded_by _ _ c.in-None.is c.next.ensures.steps in
    c.loop-character.invariant ∙ ap (λ cs. c.args.out.now.items ++ xml_text (seen cs)) all

pub returns-in_err-append_visible-clause-front : goal.returns-in_err-append_visible-clause-front
returns-in_err-append_visible-clause-front c =
    further c.append_visible.new.out.items c.loop-character.out.items c.args.out.now.items (xml_text (seen c.loop-character.yielded)) c.append_visible.ensures.front c.loop-character.invariant
