use Rattle.std.proofs.lemmas.Grind.{common_steps}
use Rattle.std.proofs.Common.{rules}
use Rattle.std.proofs.Common.{◌≡◌, ◌-◌, ◌+◌, ◌++◌, ◌∷◌, [], subst, sym, ap, ◌∙◌, arith, append_assoc}
use Rattle.stack_core.specs.Prefixes.{IsPrefixOf}
use Rattle.profile_tables.specs.checked.FrameNumbers.{text_at, root_first, IsNumbered}
use Rattle.call_tree.proofs.NameNumbers.{IsPrefixOf-trans, IsPrefixOf-with_name}
use Rattle.profile_tables.proofs.NumberLemmas.{numbered-push, root_first-step}
use Rattle.profile_tables.proofs.frame_numbers.FrameNumbers.append.Goals as goal

pub loop-past-preserved : goal.loop-past-preserved
loop-past-preserved c =
    let frames = c.args.frames.now in
    let place = c.loop-past.past - 1 in
    let so_far = c.loop-past.invariant in
    let test = c.loop-past-test.true in
    let told = c.in_ok-number.ensures in
    let name = text_at frames place in
    let old = c.loop-past.self.table in
    let next : place + 1 ≡ c.loop-past.past = omega (arith, test) in
    let one : root_first frames place c.args.span.end ≡ root_first frames c.loop-past.past c.args.span.end ++ name ∷ [] =
    root_first-step frames place c.args.span.end (omega (arith, test, so_far.within)) c.requires.within
    ∙ ap (λ from. root_first frames from c.args.span.end ++ name ∷ []) next in
    record {
      order = omega (arith, test);
      within = omega (arith, so_far.within);
      known = told.known;
      row = λ before stack is.
          subst (λ row. IsNumbered before (stack ++ root_first frames place c.args.span.end) c.number.new.self.table row) (sym c.in_ok-push.ensures.items)
          (subst (λ names. IsNumbered before names c.number.new.self.table (c.loop-past.row.items ++ c.in_ok-number.field-0 ∷ []))
          (append_assoc stack (root_first frames c.loop-past.past c.args.span.end) (name ∷ []) ∙ ap (λ list. stack ++ list) (sym one))
          (numbered-push before (stack ++ root_first frames c.loop-past.past c.args.span.end) old c.number.new.self.table c.loop-past.row.items c.in_ok-number.field-0 name
          (so_far.row before stack is) told.names told.number));
      grows = IsPrefixOf-trans c.args.self.now.table old c.number.new.self.table so_far.grows (subst (IsPrefixOf old) (sym told.names) (IsPrefixOf-with_name old name));
    }

pub loop-past-init : goal.loop-past-init
loop-past-init c = search rules

pub overflow_sub-past : goal.overflow_sub-past
overflow_sub-past c = search rules

pub returns-in_err-number : goal.returns-in_err-number
returns-in_err-number c = search rules

pub loop-past-smaller : goal.loop-past-smaller
loop-past-smaller c = search rules

pub returns : goal.returns
returns c = search rules

pub number-requires-clause-within : goal.number-requires-clause-within
number-requires-clause-within c = grind (arith, common_steps)

pub number-requires-clause-known : goal.number-requires-clause-known
number-requires-clause-known c = search rules

pub returns-in_err-push : goal.returns-in_err-push
returns-in_err-push c = record {
  known = c.number.ensures.known;
  row = search rules;
  grows = IsPrefixOf-trans c.args.self.now.table c.loop-past.self.table c.number.new.self.table c.loop-past.invariant.grows
      (subst (IsPrefixOf c.loop-past.self.table) (sym c.in_ok-number.ensures.names) (IsPrefixOf-with_name c.loop-past.self.table _));
}
