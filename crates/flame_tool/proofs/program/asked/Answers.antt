use Rattle.std.proofs.Common.{rules, ◌≡◌, [], IfErr, OnOk, length, string_bytes}
use Rattle.command_line.specs.Plans.{IsFaultAmong}
use Rattle.flame_tool.proofs.RunEndings.{of_words}
use Rattle.flame_tool.proofs.program.asked.Goals as goal

pub returns-clause-taken : goal.returns-clause-taken
returns-clause-taken c =
    let some : length c.args.words.now ≡ 0 → ⊥ = search rules in
    of_words string_bytes c.args.words.now (λ faults. OnOk c.plan.result (faults ≡ [])) some c.plan.ensures.taken

pub returns-clause-refused : goal.returns-clause-refused
returns-clause-refused c =
    let some : length c.args.words.now ≡ 0 → ⊥ = search rules in
    of_words string_bytes c.args.words.now (λ faults. IfErr c.plan.result (IsFaultAmong faults)) some c.plan.ensures.refused
