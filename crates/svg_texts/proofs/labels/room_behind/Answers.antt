use Rattle.std.proofs.Common.{◌≡◌, ◌+◌, ◌-◌, ◌++◌, Some, None, cond, ap, sym, ◌∙◌, arith}
use Rattle.std.proofs.lemmas.Bool.{le-leb, lt-leb}
use Rattle.std.proofs.lemmas.Iterator.{YieldsList-from_chars}
use Rattle.std.proofs.lemmas.List.Sums.{sum_by-append}
use Rattle.svg_texts.specs.Labels.{places, places_of}
use Rattle.svg_texts.specs.Shown.{visible, visible_character}
use Rattle.svg_texts.proofs.Characters.{all_there, in_turn}
use Rattle.svg_texts.proofs.Visible.{seen, seen_in}
use Rattle.svg_texts.proofs.labels.room_behind.Goals as goal

pub returns-in_err-rest : goal.returns-in_err-rest
returns-in_err-rest c =
    let turn = in_turn (YieldsList-from_chars c.args.name.now c.utf8.name cc) c.loop-character.yielded _ c.loop-character.yielded_by _ _ c.in-Some.character c.in-Some.is c.next.ensures.steps in
    let before = seen c.loop-character.yielded in
    let next = visible_character c.in-Some.character in
    let most = places_of (visible c.args.name.now) in
    let text = seen_in c.args.name.now c.loop-character.yielded c.in-Some.character turn.0 turn.1 in
    let over = lt-leb most c.args.room
    (omega (arith, ap places_of text, sum_by-append places before (next ++ seen turn.0), sum_by-append places next (seen turn.0), c.loop-character.invariant, c.visible_places.ensures, c.in_err-rest.ensures)) in
    c.from_residual.ensures ∙ sym (ap (λ b. cond b (Some (c.args.room - most)) None) over)

pub returns : goal.returns
returns c =
    let all = all_there (YieldsList-from_chars c.args.name.now c.utf8.name cc) c.loop-character.yielded _ c.loop-character.yielded_by _ _ c.in-None.is c.next.ensures.steps in
    let sum : places_of (visible c.args.name.now) + c.loop-character.rest ≡ c.args.room = ap (λ cs. places_of (seen cs) + c.loop-character.rest) (sym all) ∙ c.loop-character.invariant in
    let most = places_of (visible c.args.name.now) in
    let fits = le-leb most c.args.room (omega (arith, sum)) in
    let left : c.loop-character.rest ≡ c.args.room - most = omega (arith, sum) in
    ap Some left ∙ sym (ap (λ b. cond b (Some (c.args.room - most)) None) fits)
