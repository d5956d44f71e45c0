use Rattle.std.proofs.Common.{◌∙◌, ◌<◌, ◌+◌, [], ℕ, List, All, ap, arith, length, map, subst, sym, take}
use Rattle.std.specs.Prelude.{slice_index}
use Rattle.stack_core.specs.Ledgers.{LedgerState}
use Rattle.source_lists.specs.checked.Joining.{AreFound, named_stacks}
use Rattle.source_lists.proofs.JoinLemmas.{keeps_on, renumbered_within, stacks_more}
use Rattle.std.proofs.lemmas.List.{length-map, take_all}
use Rattle.sample_tables.specs.Rows.{name_at}
use Rattle.source_lists.proofs.joined_stacks.numbers_of_stacks.Goals as goal

pub number_of_stack-requires-clause-numbers : goal.number_of_stack-requires-clause-numbers
number_of_stack-requires-clause-numbers c =
    let told = ap (λ (ledger : LedgerState). ledger.told) c.loop-at.invariant.keeps.1 in
    let names = subst (λ (told : List (List ℕ)). AreFound [] told c.args.names.now c.args.list.now.told) (sym told) c.requires.names in
    subst (λ (numbers : List ℕ). All (λ k. k < length c.loop-at.ledger.told) numbers) (sym (c.deref.ensures.value ∙ c.in_ok-renumber.ensures))
    (renumbered_within c.loop-at.ledger.told c.args.list.now.told c.args.names.now c.stack.result.now names c.stack.ensures.told)

pub loop-at-preserved : goal.loop-at-preserved
loop-at-preserved c =
    let list = c.args.list.now in
    let wanted = named_stacks list.told list.stacks in
    let at = c.loop-at.at in
    let number = c.in_ok-number.number in
    let old = c.loop-at.ledger in
    let new = c.number_of_stack.new.ledger in
    let within : at < length list.stacks = omega arith in
    let told = ap (λ (ledger : LedgerState). ledger.told) c.loop-at.invariant.keeps.1 in
    let names = subst (λ (told : List (List ℕ)). AreFound [] told c.args.names.now list.told) (sym told) c.requires.names in
    let stack_told = subst (λ (frames : List ℕ). All (λ k. k < length list.told) frames) c.stack.ensures.value c.stack.ensures.told in
    let is = c.deref.ensures.value ∙ (c.in_ok-renumber.ensures ∙ ap (map (slice_index c.args.names.now)) c.stack.ensures.value) in
    let more = stacks_more old new list c.args.names.now c.loop-at.numbers.items c.deref.result.now at number c.in_ok-number.ensures.keeps names stack_told within is c.in_ok-number.ensures.found c.loop-at.invariant.found in
    record {
      found = subst (λ (numbers : List ℕ). AreFound [] (named_stacks new.told new.stacks) numbers (take (at + 1) wanted)) (sym c.in_ok-append_number.ensures) more;
      keeps = keeps_on c.args.ledger.now old new c.loop-at.invariant.keeps c.in_ok-number.ensures.keeps;
    }

pub returns-clause-found : goal.returns-clause-found
returns-clause-found c =
    let list = c.args.list.now in
    let wanted = named_stacks list.told list.stacks in
    let all = take_all c.loop-at.at wanted (omega (arith, c.stack_count-count.ensures, length-map list.stacks (λ frames. map (name_at list.told) frames))) in
    subst (λ (items : List (List (List ℕ))). AreFound [] (named_stacks c.loop-at.ledger.told c.loop-at.ledger.stacks) c.loop-at.numbers.items items) all c.loop-at.invariant.found
