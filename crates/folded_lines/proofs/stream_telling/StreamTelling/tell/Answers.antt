use Rattle.std.proofs.Common.{◌≡◌, ◌++◌, ◌∷◌, [], List, ℕ, append-nil, sym, ap, subst, ◌∙◌}
use Rattle.folded_lines.specs.checked.KnownStacks.{AreKnown}
use Rattle.folded_lines.proofs.KnownStackLemmas.{AreKnown-longer, AreKnown-told, IsMet-later}
use Rattle.folded_lines.proofs.stream_telling.StreamTelling.tell.Goals as goal

pub invariant_of-self : goal.invariant_of-self
invariant_of-self c =
    let inside = c.self.inside in
    let grows = c.new_stack.ensures.grows in (
      AreKnown-longer inside.names c.new_stack.new.table inside.stacks grows c.self.invariant.0,
      IsMet-later inside.names c.new_stack.new.table inside.stacks inside.stacks [] inside.head.items inside.row grows (sym (append-nil inside.stacks)) c.self.invariant.1,
    )

pub invariant_of-self-in_err-remember : goal.invariant_of-self-in_err-remember
invariant_of-self-in_err-remember c =
    let inside = c.self.inside in
    let grows = c.new_stack.ensures.grows in
    let same = c.in_err-remember.ensures.err in (
      subst (AreKnown c.new_stack.new.table) (sym same) (AreKnown-longer inside.names c.new_stack.new.table inside.stacks grows c.self.invariant.0),
      IsMet-later inside.names c.new_stack.new.table inside.stacks c.remember.new.self [] inside.head.items inside.row grows (same ∙ sym (append-nil inside.stacks)) c.self.invariant.1,
    )

pub invariant_of-self-2 : goal.invariant_of-self-2
invariant_of-self-2 c =
    let inside = c.self.inside in
    let table = c.new_stack.new.table in
    let grows = c.new_stack.ensures.grows in
    let frames = c.in_ok-stack.stack.frames in
    let kept : c.remember.new.self ≡ inside.stacks ++ frames ∷ [] = c.in_ok-remember.ensures.ok ∙ ap (λ (all : List ℕ). inside.stacks ++ all ∷ []) c.get.ensures in (
      subst (AreKnown table) (sym kept)
          (AreKnown-told inside.names table inside.stacks frames c.args.text.now c.in_ok-stack.ensures.numbered
          (AreKnown-longer inside.names table inside.stacks grows c.self.invariant.0)),
      IsMet-later inside.names table inside.stacks c.remember.new.self (frames ∷ []) inside.head.items inside.row grows kept c.self.invariant.1,
    )
