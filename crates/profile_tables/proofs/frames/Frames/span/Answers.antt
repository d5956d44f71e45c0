use Rattle.std.proofs.Common.{rules, sym, subst}
use Rattle.profile_tables.specs.checked.FrameNumbers.{IsPlaceOf}
use Rattle.profile_tables.proofs.FrameLemmas.{at-place, past-places, place-of, no-place}
use Rattle.profile_tables.proofs.frames.Frames.span.Goals as goal

pub returns-in_err-get : goal.returns-in_err-get
returns-in_err-get c = search rules

pub get-requires-2 : goal.get-requires-2
get-requires-2 c = search rules

pub returns-in_err-span : goal.returns-in_err-span
returns-in_err-span c =
    subst (IsPlaceOf c.args.self.now c.args.id) (sym c.from_residual-in_err-span.ensures)
    (past-places c.args.self.now c.args.id c.in_ok-get.field-0 c.deref.result.now c.deref.ensures.value c.in_ok-get.ensures c.in_err-span.ensures.lookup.3)

pub get-requires-3 : goal.get-requires-3
get-requires-3 c = search rules

pub returns-in_err-get-2 : goal.returns-in_err-get-2
returns-in_err-get-2 c =
    let found = c.in_ok-span.ensures.lookup in
    subst (IsPlaceOf c.args.self.now c.args.id) (sym c.from_residual-in_err-get-2.ensures)
    (no-place c.args.self.now c.args.id c.deref-2.result.now c.in_ok-span.span.now c.deref-2.ensures.value
    (at-place c.args.self.now c.args.id c.in_ok-get.field-0 c.deref.result.now c.in_ok-span.span.now c.deref.ensures.value c.in_ok-get.ensures found.3.0 found.1)
    c.in_err-get-2.ensures.lookup.0)

pub returns : goal.returns
returns c =
    let found = c.in_ok-span.ensures.lookup in
    let part = c.in_ok-get-2.ensures.lookup.0 in
    place-of c.args.self.now c.args.id c.deref-2.result.now c.in_ok-span.span.now c.deref-2.ensures.value
    (at-place c.args.self.now c.args.id c.in_ok-get.field-0 c.deref.result.now c.in_ok-span.span.now c.deref.ensures.value c.in_ok-get.ensures found.3.0 found.1)
    part.0 part.1
