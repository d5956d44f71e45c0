use Rattle.std.proofs.Common.{◌≡◌, false, rules, string_bytes}
use Rattle.std.specs.Str.{bytes_eq}
use Rattle.command_line.proofs.EarlyWords.{behind_is, first_behind}
use Rattle.command_line.proofs.early_values.value_in.Goals as goal

pub returns-else-eq : goal.returns-else-eq
returns-else-eq c =
    let word = c.word-item.result in
    let other : bytes_eq (string_bytes word) c.args.option.now ≡ false = search rules in
    let same : c.as_str-else-eq.result.now ≡ string_bytes word = search rules in
    let value = behind_is c.args.front.now c.as_str-else-eq.result.now c.strip_prefix.result c.strip_prefix.ensures.cases in
    first_behind string_bytes c.args.words.now word c.args.option.now c.args.front.now _ c.in-len1-up.len_at_least c.word-item.is other (rw (← same) value)
