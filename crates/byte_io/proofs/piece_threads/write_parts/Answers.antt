use Rattle.std.proofs.Common.{◌+◌, ◌++◌, ◌∙◌, ◌≡◌, ap, sym, subst, map, take, arith}
use Rattle.std.proofs.KnownBytes.{Appends-trans}
use Rattle.std.proofs.lemmas.List.{take_all, take-map}
use Rattle.std.specs.Io.KnownBytes.{Appends}
use Rattle.std.specs.List.{concat}
use Rattle.byte_io.proofs.PartRows.{bytes_more}
use Rattle.byte_io.proofs.PieceTexts.{all_front, sent_partly}
use Rattle.byte_io.specs.checked.Parts.{bytes_of}
use Rattle.byte_io.specs.declared.piece_threads.Part.{Part}
use Rattle.byte_io.proofs.piece_threads.write_parts.Goals as goal

pub returns-in_err-write_whole-clause-front : goal.returns-in_err-write_whole-clause-front
returns-in_err-write_whole-clause-front g c =
    let parts = c.args.parts.now in
    let i = c.each.part-index in
    let texts = map (λ (part : Part). part.bytes.items) parts in
    sent_partly texts (i + 1) c.in_err-write_whole.field-0.0.written (bytes_of (take i parts)) c.deref.result.now _ _ _
    (ap concat (take-map (λ (part : Part). part.bytes.items) (i + 1) parts) ∙ bytes_more parts i c.part-item.result (omega arith) c.part-item.is
    ∙ ap (λ text. bytes_of (take i parts) ++ text) (sym c.deref.ensures.value))
    c.each.invariant.written c.in_err-write_whole.ensures.fault

pub each-preserved : goal.each-preserved
each-preserved g c =
    let parts = c.args.parts.now in
    let i = c.each.part-index in
    let more : bytes_of (take (i + 1) parts) ≡ bytes_of (take i parts) ++ c.deref.result.now =
    bytes_more parts i c.part-item.result (omega arith) c.part-item.is ∙ ap (λ text. bytes_of (take i parts) ++ text) (sym c.deref.ensures.value) in
    record {
      written = subst (Appends _ _) (sym more) (Appends-trans _ _ _ (bytes_of (take i parts)) c.deref.result.now c.each.invariant.written c.in_ok-write_whole.ensures.ok);
      unfailed = c.in_ok-write_whole.ensures.count ∙ c.each.invariant.unfailed;
    }

pub returns-clause-front : goal.returns-clause-front
returns-clause-front g c =
    let parts = c.args.parts.now in
    let old = g.W.Outlet.contents c.args.out.now in
    let new = g.W.Outlet.contents c.each.out in
    let all : take c.each.part-index parts ≡ parts = take_all c.each.part-index parts (omega arith) in
    let written : Appends old new (bytes_of parts) = subst (λ some. Appends old new (bytes_of some)) all c.each.invariant.written in
    all_front (bytes_of parts) old new written
