use Rattle.std.proofs.Common.{ℕ, List, ◌≡◌, ◌++◌, ◌∷◌, [], map, string_bytes, ap, refl, ◌∙◌, rules}
use Rattle.sample_tables.specs.Rows.{ToldRows}
use Rattle.sample_tables.specs.Tables.{IsStack}
use Rattle.sample_tables.proofs.Spans.{stack_kept, same_stacks}
use Rattle.sample_tables.proofs.stacks.Stacks.add.Goals as goal

pub invariant_of-self-in_err-append_numbers : goal.invariant_of-self-in_err-append_numbers
invariant_of-self-in_err-append_numbers c =
    let more = c.append_numbers.ensures.begins in
    (same_stacks _ _ _ _ _ _ _ c.self.invariant refl more.1 c.in_ok-reserve.ensures.items).spans_are

pub returns-in_err-append_numbers-clause-refused : goal.returns-in_err-append_numbers-clause-refused
returns-in_err-append_numbers-clause-refused c =
    let more = c.append_numbers.ensures.begins in
    let told = (same_stacks _ _ _ _ _ _ _ c.self.invariant refl more.1 c.in_ok-reserve.ensures.items).told_is ∙ c.self.view_is in
    search (rules, told)

pub invariant_of-self-2 : goal.invariant_of-self-2
invariant_of-self-2 c =
    let stack : IsStack (map string_bytes c.self.inside.names.items) c.args.frames.now = rw (ap (λ (t : ToldRows). t.names) c.self.view_is) c.requires in
    let spans : c.push.new.self.items ≡ c.self.inside.spans.items ++ record { start = c.len-start.result; end = c.len.result } ∷ [] = cc (c.in_ok-push.ensures.items, c.in_ok-reserve.ensures.items) in
    (stack_kept _ _ _ _ _ _ _ _ c.self.invariant stack c.in_ok-append_numbers.ensures.ok (c.len-start.ensures ∙ c.self.inside.frames.ok.0) (c.len.ensures ∙ c.append_numbers.new.frames.ok.0) spans).spans_are

pub returns-clause-ok : goal.returns-clause-ok
returns-clause-ok c =
    let stack : IsStack (map string_bytes c.self.inside.names.items) c.args.frames.now = rw (ap (λ (t : ToldRows). t.names) c.self.view_is) c.requires in
    let spans : c.push.new.self.items ≡ c.self.inside.spans.items ++ record { start = c.len-start.result; end = c.len.result } ∷ [] = cc (c.in_ok-push.ensures.items, c.in_ok-reserve.ensures.items) in
    let stacks = (stack_kept _ _ _ _ _ _ _ _ c.self.invariant stack c.in_ok-append_numbers.ensures.ok (c.len-start.ensures ∙ c.self.inside.frames.ok.0) (c.len.ensures ∙ c.append_numbers.new.frames.ok.0) spans).stacks_are in
    let whole : List (List ℕ) → ToldRows = λ stacks. record { names = map string_bytes c.self.inside.names.items; stacks = stacks } in
    ap whole stacks ∙ ap (λ (t : ToldRows). record { names = t.names; stacks = t.stacks ++ c.args.frames.now ∷ [] }) c.self.view_is
