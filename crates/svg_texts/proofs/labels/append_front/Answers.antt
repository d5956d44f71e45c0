use Rattle.std.proofs.Common.{◌≡◌, ◌++◌, ap, sym, ◌∙◌, arith}
use Rattle.std.proofs.lemmas.Iterator.{YieldsList-from_chars}
use Rattle.std.proofs.lemmas.List.Sums.{sum_by-append}
use Rattle.byte_io.proofs.PieceTexts.{further}
use Rattle.svg_texts.specs.Labels.{front, places, places_of}
use Rattle.svg_texts.specs.Shown.{visible, visible_character, xml_text}
use Rattle.view_texts.proofs.Fronts.{text_after}
use Rattle.svg_texts.proofs.Characters.{all_there, in_turn}
use Rattle.svg_texts.proofs.Fitting.{front-append, front-over, front-whole}
use Rattle.svg_texts.proofs.Visible.{seen, seen_in, seen_more, xml-append}
use Rattle.svg_texts.proofs.labels.append_front.Goals as goal

pub loop-character-preserved : goal.loop-character-preserved
loop-character-preserved c =
    let start = c.args.out.now.items in
    let before = seen c.loop-character.yielded in
    let next = visible_character c.in-Some.character in
    let more = seen_more c.loop-character.yielded c.in-Some.character in
    let whole = front-whole next c.loop-character.rest (omega (arith, c.visible_places.ensures, c.in-Some-checked_sub.ensures)) in
    record {
      room = omega (arith, ap places_of more, sum_by-append places before next, c.loop-character.invariant.room, c.visible_places.ensures, c.in-Some-checked_sub.ensures);
      written = text_after start c.loop-character.out.items _ (xml_text before) (xml_text next) c.loop-character.invariant.written (c.in_ok-append_front_of.ensures.ok ∙ ap (λ text. c.loop-character.out.items ++ xml_text text) whole)
          ∙ ap (λ text. start ++ text) (sym (xml-append before next) ∙ ap xml_text (sym more));
    }

pub returns-in_default-clause-ok : goal.returns-in_default-clause-ok
returns-in_default-clause-ok c =
    let start = c.args.out.now.items in
    let before = seen c.loop-character.yielded in
    let next = visible_character c.in-Some.character in
    let room = c.loop-character.rest in
    let turn = in_turn (YieldsList-from_chars c.args.name.now c.utf8.name cc) c.loop-character.yielded _ c.loop-character.yielded_by _ _ c.in-Some.character c.in-Some.is c.next.ensures.steps in
    let text = seen_in c.args.name.now c.loop-character.yielded c.in-Some.character turn.0 turn.1 in
    let fits : front c.args.room (visible c.args.name.now) ≡ before ++ front room next =
    ap (front c.args.room) text ∙ (front-append before (next ++ seen turn.0) c.args.room room (sym c.loop-character.invariant.room)
    ∙ ap (λ rest. before ++ rest) (front-over next (seen turn.0) room (omega (arith, c.visible_places.ensures, c.in_default.ensures)))) in
    text_after start c.loop-character.out.items _ (xml_text before) (xml_text (front room next)) c.loop-character.invariant.written c.in_ok-append_front_of.ensures.ok
    ∙ ap (λ rest. start ++ rest) (sym (xml-append before (front room next)) ∙ ap xml_text (sym fits))

pub returns-clause-ok : goal.returns-clause-ok
returns-clause-ok c =
    let all = all_there (YieldsList-from_chars c.args.name.now c.utf8.name cc) c.loop-character.yielded _ c.loop-character.yielded_by _ _ c.in-None.is c.next.ensures.steps in
    let text : seen c.loop-character.yielded ≡ visible c.args.name.now = ap seen all in
    let whole = front-whole (visible c.args.name.now) c.args.room (omega (arith, ap places_of text, c.loop-character.invariant.room)) in
    c.loop-character.invariant.written ∙ ap (λ rest. c.args.out.now.items ++ xml_text rest) (text ∙ sym whole)

pub returns-in_err-append_front_of-clause-front : goal.returns-in_err-append_front_of-clause-front
returns-in_err-append_front_of-clause-front c =
    further c.append_front_of.new.out.items c.loop-character.out.items c.args.out.now.items (xml_text (seen c.loop-character.yielded)) c.append_front_of.ensures.front c.loop-character.invariant.written
