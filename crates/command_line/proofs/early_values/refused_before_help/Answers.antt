use Rattle.std.proofs.Common.{◌≡◌, ◌∙◌, ap, arith, drop, false, is_some, map, rules, string_bytes, sym, true}
use Rattle.std.proofs.lemmas.List.{drop_all}
use Rattle.command_line.specs.EarlyValues.{asks_for_help, gives_unknown}
use Rattle.command_line.proofs.EarlyWords.{from_on, goes_on, nothing_left, refuses, stops}
use Rattle.command_line.proofs.early_values.refused_before_help.Goals as goal

pub returns-then-asks_for_help : goal.returns-then-asks_for_help
returns-then-asks_for_help c =
    let word = c.index-words-at.result in
    let asking : asks_for_help (string_bytes word) ≡ true = search rules in
    sym (c.loop-at.invariant ∙ stops string_bytes c.args.words.now c.loop-at.at word c.loop-at-test.true c.index-words-at.is asking)

pub returns-in-Some : goal.returns-in-Some
returns-in-Some c =
    let word = c.index-words-at.result in
    let asking : asks_for_help (string_bytes word) ≡ false = search rules in
    let giving : gives_unknown (map string_bytes (drop c.loop-at.at c.args.words.now)) ≡ true = ap (λ words. gives_unknown (map string_bytes words)) (sym (from_on c.args.words.now c.loop-at.at)) ∙ sym c.unknown_in.ensures ∙ ap is_some c.in-Some.is in
    sym (c.loop-at.invariant ∙ refuses string_bytes c.args.words.now c.loop-at.at word c.loop-at-test.true c.index-words-at.is asking giving)

pub loop-at-preserved : goal.loop-at-preserved
loop-at-preserved c =
    let word = c.index-words-at.result in
    let asking : asks_for_help (string_bytes word) ≡ false = search rules in
    let giving : gives_unknown (map string_bytes (drop c.loop-at.at c.args.words.now)) ≡ false = ap (λ words. gives_unknown (map string_bytes words)) (sym (from_on c.args.words.now c.loop-at.at)) ∙ sym c.unknown_in.ensures ∙ ap is_some c.in_default.is in
    c.loop-at.invariant ∙ goes_on string_bytes c.args.words.now c.loop-at.at word c.loop-at-test.true c.index-words-at.is asking giving

pub returns : goal.returns
returns c =
    let none = drop_all c.loop-at.at c.args.words.now (omega arith) in
    sym (c.loop-at.invariant ∙ nothing_left string_bytes c.args.words.now c.loop-at.at none)
