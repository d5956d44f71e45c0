use Rattle.std.proofs.Common.{◌≡◌, ◌<◌, ◌-◌, ◌++◌, ◌∙◌, [], rules, ap, refl, sym, subst, length, take, arith}
use Rattle.std.proofs.KnownBytes.{Appends-nil, Appends-trans}
use Rattle.std.proofs.lemmas.List.{take_all}
use Rattle.std.specs.Io.KnownBytes.{Appends}
use Rattle.std.specs.List.{concat}
use Rattle.byte_io.proofs.PieceTexts.{all_front, ok_no_err, pieces_on, sent_partly, waits_anew}
use Rattle.byte_io.specs.checked.Parts.{bytes_of}
use Rattle.byte_io.proofs.piece_threads.send_in_rounds.Goals as goal

pub returns-in_err-row-clause-wrote : goal.returns-in_err-row-clause-wrote
returns-in_err-row-clause-wrote g c = search rules

pub rounds-init : goal.rounds-init
rounds-init g c =
    let pieces = g.P.Pieces.pieces c.args.text.now in
    let next = c.in_ok-row.row.next in
    record {
      row = c.in_ok-row.ensures.few;
      within = c.in_ok-row.ensures.within;
      sent = ([], pieces_on pieces 0 next (omega arith) ∙ sym c.in_ok-row.ensures.bytes, Appends-nil _);
      unfailed = refl;
    }

pub returns-in_err-row-2-clause-wrote : goal.returns-in_err-row-2-clause-wrote
returns-in_err-row-2-clause-wrote g c =
    let sent = c.rounds.invariant.sent in
    let gone = c.in_err-row-2.ensures.wrote in
    record {
      ok = search rules;
      front = sent_partly (g.P.Pieces.pieces c.args.text.now) c.rounds.row.next gone.front.0 sent.0 (bytes_of (take c.rounds.row.parts c.rounds.ready)) _ _ _ sent.1 sent.2 gone.front.1;
      output = search rules;
      unfailed = search rules;
    }

pub rounds-smaller : goal.rounds-smaller
rounds-smaller g c =
    let pieces = g.P.Pieces.pieces c.args.text.now in
    let there : c.rounds.row.next < length pieces = omega (arith, c.count-count.ensures, c.rounds-test.true) in
    let less : length pieces - c.in_ok-row-2.row.next < length pieces - c.rounds.row.next = omega (arith, c.in_ok-row-2.ensures.made.within, c.in_ok-row-2.ensures.made.further there) in
    less

pub rounds-preserved : goal.rounds-preserved
rounds-preserved g c =
    let pieces = g.P.Pieces.pieces c.args.text.now in
    let at = c.rounds.row.next in
    let next = c.in_ok-row-2.row.next in
    let sent = c.rounds.invariant.sent in
    let waiting = bytes_of (take c.rounds.row.parts c.rounds.ready) in
    let made = c.in_ok-row-2.ensures.made in
    let wrote = c.in_ok-row-2.ensures.wrote in
    let there : at < length pieces = omega (arith, c.count-count.ensures, c.rounds-test.true) in
    record {
      row = made.few;
      within = made.within;
      sent = (
        sent.0 ++ waiting,
        waits_anew pieces at next sent.0 waiting (bytes_of (take c.in_ok-row-2.row.parts c.send.new.ready)) (omega (arith, made.further there)) sent.1 made.bytes,
        Appends-trans _ _ _ sent.0 waiting sent.2 wrote.ok,
      );
      unfailed = wrote.unfailed (ok_no_err _ _ _ refl) ∙ c.rounds.invariant.unfailed;
    }

pub returns-in_err-send_parts-clause-wrote : goal.returns-in_err-send_parts-clause-wrote
returns-in_err-send_parts-clause-wrote g c =
    let sent = c.rounds.invariant.sent in
    let gone = c.in_err-send_parts.ensures.front in
    record {
      ok = search rules;
      front = sent_partly (g.P.Pieces.pieces c.args.text.now) c.rounds.row.next gone.0 sent.0 (bytes_of (take c.rounds.row.parts c.rounds.ready)) _ _ _ sent.1 sent.2 gone.1;
      output = search rules;
      unfailed = search rules;
    }

pub returns-clause-wrote : goal.returns-clause-wrote
returns-clause-wrote g c =
    let pieces = g.P.Pieces.pieces c.args.text.now in
    let old = g.W.Outlet.contents c.args.out.now in
    let new = g.W.Outlet.contents c.send_parts.new.out in
    let sent = c.rounds.invariant.sent in
    let waiting = bytes_of (take c.rounds.row.parts c.rounds.ready) in
    let whole : take c.rounds.row.next pieces ≡ pieces = take_all c.rounds.row.next pieces (omega (arith, c.count-count.ensures, c.rounds-test.false)) in
    let text : sent.0 ++ waiting ≡ concat pieces = sym sent.1 ∙ ap concat whole in
    let written : Appends old new (concat pieces) = subst (Appends old new) text (Appends-trans _ _ _ sent.0 waiting sent.2 c.in_ok-send_parts.ensures.ok) in
    record {
      ok = written;
      front = all_front (concat pieces) old new written;
      output = search rules;
      unfailed = λ _. c.in_ok-send_parts.ensures.count ∙ c.rounds.invariant.unfailed;
    }
