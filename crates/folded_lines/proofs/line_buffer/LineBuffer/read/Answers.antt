use Rattle.std.proofs.Common.{◌≡◌, ◌+◌, ℕ, true, false, List, ◌++◌, take, length-take-le, sym, ap, ◌∙◌, arith, ⊎_elim}
use Rattle.std.proofs.lemmas.Bool.{cases_Bool}
use Rattle.std.proofs.lemmas.Result.{err_from_is_err_and}
use Rattle.stack_core.specs.Parts.{bytes_of}
use Rattle.stack_core.specs.declared.source_bytes.SourceBytes.{SourceBytes}
use Rattle.folded_lines.proofs.Buffers.{room_of, held_more, held_same, held_in_room, read_ok}
use Rattle.folded_lines.proofs.line_buffer.LineBuffer.read.Goals as goal

pub returns-in_err-make_room-clause-bytes : goal.returns-in_err-make_room-clause-bytes
returns-in_err-make_room-clause-bytes g c =
    let p = err_from_is_err_and c.from_residual.result c.from_residual.ensures.1 in
    rw p.1 (held_in_room c.self.inside c.make_room.new.bytes (c.in_err-make_room.ensures.front ∙ ap (λ (b : SourceBytes). take c.self.inside.end (bytes_of b)) (sym c.in-Own.is)) ∙ c.self.view_is ∙ c.move_to_front.ensures)

pub invariant_of-self-in-Ok : goal.invariant_of-self-in-Ok
invariant_of-self-in-Ok g c =
    let room = c.make_room.new.bytes in
    let at = room_of c.self.inside room c.deref_mut.result.now c.read.new.buf c.self.invariant (c.in_ok-make_room.ensures.front ∙ ap (λ (b : SourceBytes). take c.self.inside.end (bytes_of b)) (sym c.in-Own.is)) c.in_ok-make_room.ensures.room c.deref_mut.ensures.value c.read.auto.buf in
    read_ok c.self.inside room c.deref_mut.result.now c.read.new.buf _ (c.self.inside.end + c.in-Ok.count) at (omega arith) (omega (arith, at.long, c.in-Ok.ensures.bound.0))

pub invariant_of-self-in-Err : goal.invariant_of-self-in-Err
invariant_of-self-in-Err g c =
    let room = c.make_room.new.bytes in
    let at = room_of c.self.inside room c.deref_mut.result.now c.read.new.buf c.self.invariant (c.in_ok-make_room.ensures.front ∙ ap (λ (b : SourceBytes). take c.self.inside.end (bytes_of b)) (sym c.in-Own.is)) c.in_ok-make_room.ensures.room c.deref_mut.ensures.value c.read.auto.buf in
    read_ok c.self.inside room c.deref_mut.result.now c.read.new.buf _ c.self.inside.end at (omega arith) (omega (arith, at.long))

pub returns-in-Ok-clause-brings : goal.returns-in-Ok-clause-brings
returns-in-Ok-clause-brings g c =
    let room = c.make_room.new.bytes in
    let count = c.in-Ok.count in
    let came = take count c.read.new.buf in
    let at = room_of c.self.inside room c.deref_mut.result.now c.read.new.buf c.self.invariant (c.in_ok-make_room.ensures.front ∙ ap (λ (b : SourceBytes). take c.self.inside.end (bytes_of b)) (sym c.in-Own.is)) c.in_ok-make_room.ensures.room c.deref_mut.ensures.value c.read.auto.buf in (
      came,
      held_more c.self.inside room c.deref_mut.result.now c.read.new.buf _ count (c.self.inside.end + count) at c.in-Ok.ensures.bound.0 (omega arith)
          ∙ ap (λ (held : List ℕ). held ++ came) (c.self.view_is ∙ c.move_to_front.ensures),
      length-take-le count c.read.new.buf c.in-Ok.ensures.bound.0,
      c.in-Ok.ensures.bytes.0,
      λ none. c.in-Ok.ensures.bytes.1 none (omega (arith, at.long, c.in_ok-make_room.ensures.room)),
    )

pub returns-in-Err-clause-brings : goal.returns-in-Err-clause-brings
returns-in-Err-clause-brings g c =
    let room = c.make_room.new.bytes in
    let at = room_of c.self.inside room c.deref_mut.result.now c.read.new.buf c.self.invariant (c.in_ok-make_room.ensures.front ∙ ap (λ (b : SourceBytes). take c.self.inside.end (bytes_of b)) (sym c.in-Own.is)) c.in_ok-make_room.ensures.room c.deref_mut.ensures.value c.read.auto.buf in (
      ⊎_elim (λ sure. let failed : false ≡ true = c.in-Err.ensures.sure sure in cc) (λ unsure. unsure) (cases_Bool (g.I.Inlet.is_sure c.args.inlet.now)),
      c.in-Err.ensures.bytes,
      held_same c.self.inside room c.deref_mut.result.now c.read.new.buf _ at ∙ c.self.view_is ∙ c.move_to_front.ensures,
    )
