use Rattle.std.proofs.Common.{rules, ◌≡◌, ◌++◌, ◌∷◌, [], ap, ◌∙◌}
use Rattle.call_tree.proofs.NameLists.{NameKept, name_kept}
use Rattle.call_tree.proofs.name_list.NameList.push.Goals as goal

kept : (c : goal.After-push_reserved) → NameKept c.self.inside.bytes.items c.self.inside.spans.items c.args.name.now c.extend_from_slice.new.self.items c.push_reserved.new.self.items
kept c =
    let bytes : c.extend_from_slice.new.self.items ≡ c.self.inside.bytes.items ++ c.args.name.now = search rules in
    let spans : c.push_reserved.new.self.items ≡ c.self.inside.spans.items ++ record { start = c.len-start.result; end = c.len-end.result } ∷ [] = cc (c.push_reserved.ensures.items, c.in_ok-reserve.ensures.items) in
    name_kept _ _ _ _ _ _ _ c.self.invariant c.utf8.name bytes (c.len-start.ensures ∙ c.self.inside.bytes.ok.0) (c.len-end.ensures ∙ c.extend_from_slice.new.self.ok.0) spans

pub invariant_of-self-2 : goal.invariant_of-self-2
invariant_of-self-2 c = (kept c).texts_are

pub returns-clause-ok : goal.returns-clause-ok
returns-clause-ok c = (kept c).names_are ∙ ap (λ names. names ++ c.args.name.now ∷ []) c.self.view_is
