use Rattle.std.proofs.Common.{◌<◌, ◌+◌, [], ℕ, List, arith, length, subst, sym, take}
use Rattle.source_lists.specs.checked.Joining.{AreFound, IsFound}
use Rattle.source_lists.proofs.JoinLemmas.{names_more, tells_on}
use Rattle.std.proofs.lemmas.List.{take_all}
use Rattle.source_lists.proofs.joined_names.numbers_of_names.Goals as goal

pub loop-at-preserved : goal.loop-at-preserved
loop-at-preserved c =
    let told = c.args.list.now.told in
    let at = c.loop-at.at in
    let number = c.in_ok-number.number in
    let ledger = c.number_of_name.new.ledger in
    let within : at < length told = omega arith in
    let one = subst (λ (name : List ℕ). IsFound [] ledger.told number name) c.told_name.ensures c.in_ok-number.ensures.found in
    let more = names_more c.loop-at.ledger ledger told c.loop-at.numbers.items at number c.in_ok-number.ensures.tells c.loop-at.invariant.found one within in
    record {
      found = subst (λ (numbers : List ℕ). AreFound [] ledger.told numbers (take (at + 1) told)) (sym c.in_ok-append_number.ensures) more;
      tells = tells_on c.args.ledger.now c.loop-at.ledger ledger c.loop-at.invariant.tells c.in_ok-number.ensures.tells;
    }

pub returns-clause-found : goal.returns-clause-found
returns-clause-found c =
    let all = take_all c.loop-at.at c.args.list.now.told (omega (arith, c.told-count.ensures)) in
    subst (λ (names : List (List ℕ)). AreFound [] c.loop-at.ledger.told c.loop-at.numbers.items names) all c.loop-at.invariant.found
