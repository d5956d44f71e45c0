use Rattle.std.proofs.Common.{rules, ◌∙◌, ◌<◌, ◌++◌, ◌∷◌, [], All, Some, ap, append-nil, sym, subst, map, take, length, string_bytes}
use Rattle.std.proofs.lemmas.List.{length-map, map_more, take_all}
use Rattle.stack_core.specs.NamesInOrder.{with_name}
use Rattle.stack_core.specs.Records.{names_at}
use Rattle.ring_collect.specs.NamesInOrder.{GrowsTo, with_stack}
use Rattle.ring_collect.proofs.NameOrder.{with_stack_push}
use Rattle.ring_collect.proofs.Records.{grown_further, names_at_push, known_push}
use Rattle.std.proofs.lemmas.Result.{IfOk-from_err}
use Rattle.ring_collect.proofs.numbering.number_names.Goals as goal

pub loop-name-preserved : goal.loop-name-preserved
loop-name-preserved c =
    let so_far = c.loop-name.invariant in
    let numbered = c.in_ok-number_name.ensures in
    let pushed = c.in_ok-push.ensures.items in
    let i = c.loop-name.name-index in
    let name = string_bytes c.name-item.result in
    let before = map string_bytes (take i c.args.stack.now) in
    let more = map_more string_bytes c.args.stack.now i c.name-item.result c.loop-name-test.true ∙ ap (λ item. before ++ string_bytes item ∷ []) (sym c.name-item.is) in
    let number = c.in_ok-number_name.field-0 in
    let table = c.loop-name.table in
    let table' = c.number_name.new.table in
    let numbers = c.loop-name.numbers.items in
    record {
      told = numbered.told c.args.table.now so_far.told;
      asked = numbered.asked ∙ ap (with_name table) c.as_str.ensures.value ∙ ap (λ names. with_name names name) so_far.asked ∙ sym (ap (with_stack c.args.table.now) more ∙ with_stack_push c.args.table.now before name);
      numbers = ap (names_at table') pushed ∙ names_at_push table table' numbers number name before numbered.grown so_far.known so_far.numbers (numbered.number ∙ ap (λ bytes. Some bytes) c.as_str.ensures.value) ∙ sym more;
      known = subst (All (λ k. k < length table')) (sym pushed) (known_push table table' numbers number c.as_str.result.now numbered.grown so_far.known numbered.number);
    }

pub returns : goal.returns
returns c =
    let so_far = c.loop-name.invariant in
    let taken = take_all c.loop-name.name-index c.args.stack.now c.loop-name-test.false in
    let numbers = so_far.numbers ∙ ap (map string_bytes) taken in
    record {
      told = so_far.told;
      asked = so_far.asked ∙ ap (λ names. with_stack c.args.table.now (map string_bytes names)) taken;
      grown = (c.loop-name.new.items, so_far.told);
      numbers = numbers;
      known = so_far.known;
      count = sym (length-map c.loop-name.numbers.items _) ∙ ap length numbers ∙ length-map c.args.stack.now string_bytes;
    }

pub returns-in_err-numbers : goal.returns-in_err-numbers
returns-in_err-numbers c =
    let grown : GrowsTo c.args.table.now c.args.table.now = ([], sym (append-nil _)) in
    search (rules, IfOk-from_err, grown)

pub returns-in_err-number_name : goal.returns-in_err-number_name
returns-in_err-number_name c =
    let grown = grown_further c.args.table.now c.loop-name.new.items c.loop-name.invariant.told c.number_name.ensures.grown in
    search (rules, IfOk-from_err, grown)

pub returns-in_err-push : goal.returns-in_err-push
returns-in_err-push c =
    let grown = grown_further c.args.table.now c.loop-name.new.items c.loop-name.invariant.told c.number_name.ensures.grown in
    search (rules, IfOk-from_err, grown)
