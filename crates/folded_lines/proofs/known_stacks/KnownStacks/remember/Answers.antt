use Rattle.std.proofs.Common.{◌≡◌, ◌++◌, ◌∷◌, [], length, ap, ◌∙◌, rules}
use Rattle.folded_lines.specs.checked.KnownStacks.{stacks_of}
use Rattle.folded_lines.specs.declared.known_stacks.KnownRow.{KnownRow}
use Rattle.folded_lines.proofs.KnownStackLemmas.{stacks_of-append, stacks_of-push}
use Rattle.folded_lines.proofs.known_stacks.KnownStacks.remember.Goals as goal

pub returns-in_err-append_numbers-clause-err : goal.returns-in_err-append_numbers-clause-err
returns-in_err-append_numbers-clause-err c =
    let numbers = c.self.inside.numbers.items in
    let rows = c.self.inside.rows.items in
    let more = c.append_numbers.ensures.begins in
    let same : stacks_of c.append_numbers.new.numbers.items c.reserve.new.self.items ≡ c.args.self.now =
    ap (λ all. stacks_of all c.reserve.new.self.items) more.1 ∙ ap (stacks_of (numbers ++ more.0)) c.in_ok-reserve.ensures.items
    ∙ stacks_of-append numbers more.0 rows c.self.invariant ∙ c.self.view_is in
    search (rules, same)

pub returns-clause-ok : goal.returns-clause-ok
returns-clause-ok c =
    let numbers = c.self.inside.numbers.items in
    let rows = c.self.inside.rows.items in
    let frames = c.args.frames.now in
    let row : KnownRow = record { start = c.len-start.result; len = c.in_ok-len.len; hash = c.args.hash } in
    let pushed : c.push.new.self.items ≡ rows ++ row ∷ [] = cc (c.in_ok-push.ensures.items, c.in_ok-reserve.ensures.items) in
    let len : c.in_ok-len.len ≡ length frames = search rules in
    ap (λ all. stacks_of all c.push.new.self.items) c.in_ok-append_numbers.ensures.ok ∙ ap (stacks_of (numbers ++ frames)) pushed
    ∙ stacks_of-push numbers frames rows row c.self.invariant (c.len-start.ensures ∙ c.self.inside.numbers.ok.0) len
    ∙ ap (λ stacks. stacks ++ frames ∷ []) c.self.view_is
