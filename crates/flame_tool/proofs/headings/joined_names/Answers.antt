use Rattle.std.proofs.Common.{◌≡◌, ◌<◌, IfOk, List, length, rules, string_bytes, subst, ℕ}
use Rattle.flame_tool.proofs.PageLemmas.{joined_title}
use Rattle.flame_tool.proofs.headings.joined_names.Goals as goal

pub returns-else-is_empty : goal.returns-else-is_empty
returns-else-is_empty c =
    let some : 0 < length c.args.files.now = search rules in
    subst (λ (text : List ℕ). IfOk c.join.result (λ title. string_bytes title ≡ text)) (joined_title string_bytes c.args.files.now some) c.join.ensures.ok
