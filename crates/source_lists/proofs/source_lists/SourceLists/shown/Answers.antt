use Rattle.std.proofs.Common.{◌≡◌, ◌∙◌, map, string_bytes, sym}
use Rattle.std.proofs.lemmas.Result.{IfOk-weaker}
use Rattle.ring_collect.specs.Collection.{seen_as_rest}
use Rattle.source_lists.specs.OmittedNames.{shown_rests}
use Rattle.source_lists.proofs.CutLemmas.{shown_cut, shown_staged, shown_unchanged}
use Rattle.source_lists.proofs.KeptLemmas.{none_shown}
use Rattle.source_lists.proofs.source_lists.SourceLists.shown.Goals as goal

pub returns-in_ok-keeping-clause-lists : goal.returns-in_ok-keeping-clause-lists
returns-in_ok-keeping-clause-lists c =
    let from = c.args.from.now in
    let omitted = c.args.omitted.now in
    let given = sym c.is_some.ensures ∙ c.if-is_some.true in
    IfOk-weaker c.cut.result _ (λ left. map seen_as_rest left.lists ≡ shown_rests from omitted (map seen_as_rest c.args.self.lists))
    (λ left cut. shown_staged from omitted c.args.self.lists c.in_ok-keeping.field-0.lists left.lists given c.in_ok-keeping.ensures cut) c.cut.ensures

pub returns-then-is_empty-clause-lists : goal.returns-then-is_empty-clause-lists
returns-then-is_empty-clause-lists c =
    let empty = sym (none_shown string_bytes c.get.result.now c.args.omitted.now c.get.ensures) ∙ (sym c.is_empty.ensures ∙ c.if-is_empty.true) in
    shown_unchanged c.args.from.now c.args.omitted.now (map seen_as_rest c.args.self.lists) (sym c.is_some.ensures ∙ c.if-is_some.false) empty

pub returns-else-is_empty-clause-lists : goal.returns-else-is_empty-clause-lists
returns-else-is_empty-clause-lists c =
    let from = c.args.from.now in
    let omitted = c.args.omitted.now in
    let none = sym c.is_some.ensures ∙ c.if-is_some.false in
    IfOk-weaker c.cut-else-is_empty.result _ (λ left. map seen_as_rest left.lists ≡ shown_rests from omitted (map seen_as_rest c.args.self.lists))
    (λ left cut. shown_cut from omitted c.args.self.lists left.lists none cut) c.cut-else-is_empty.ensures
