use Rattle.std.proofs.Common.{◌≡◌, ◌∙◌, ◌++◌, [], ap, sym, subst, length, take, drop, arith, refl, length-drop, length-append, append_assoc, append-nil}
use Rattle.sample_tables.specs.declared.samples.Sample.{Sample}
use Rattle.stack_core.specs.Ledgers.{ListState}
use Rattle.std.specs.Prelude.{List}
use Rattle.std.proofs.lemmas.List.Sums.{sum_by-append}
use borrow.Author.Tests.{eqb-true}
use Rattle.merged_stacks.specs.Timeline.{samples_of, total_weight}
use Rattle.merged_stacks.specs.Merged.{all_samples}
use Rattle.merged_stacks.specs.checked.Ranks.{all_told}
use Rattle.merged_stacks.specs.checked.Ranked.{HasSums, IsNamedBy}
use Rattle.merged_stacks.proofs.GivenStacks.{none_left, taken_out}
use Rattle.merged_stacks.proofs.JoinedStacks.{named_front, named_rest, no_sums}
use Rattle.merged_stacks.proofs.merged.ranked_out.Goals as goal

pub each-preserved : goal.each-preserved
each-preserved c =
    let list = c.remove-list.result in
    let left = c.remove-list.new.self.items in
    let ranks = c.each.rest.now in
    let out = taken_out c.each.lists.items left list c.remove-list.ensures.value c.remove-list.ensures.by_index.2 (omega arith) in
    let told : c.told.result ≡ length list.told = c.told.ensures in
    let own : c.split_at.result.0.now ≡ take (length list.told) ranks = c.split_at.ensures.front ∙ ap (λ n. take n ranks) told in
    let others : c.split_at.result.1.now ≡ drop (length list.told) ranks = c.split_at.ensures.back ∙ ap (λ n. drop n ranks) told in
    record {
      long = omega (arith, ap length others, length-drop (length list.told) ranks, c.each.invariant.long, ap (λ (all : List ListState). length (all_told all)) out, length-append list.told (all_told left));
      total = omega (arith, c.each.invariant.total, ap (λ (all : List ListState). total_weight (all_samples (samples_of all))) out, sum_by-append (λ (sample : Sample). sample.weight) list.samples (all_samples (samples_of left)));
      named = λ names by.
          subst (λ numbers. IsNamedBy names numbers (all_told left)) (sym others)
          (named_rest names ranks list.told (all_told left) (subst (λ (all : List ListState). IsNamedBy names ranks (all_told all)) out (c.each.invariant.named names by)));
      sums = λ names by.
          let before = c.each.invariant.sums names by in (
            before.0 ++ list.samples,
            append_assoc before.0 list.samples (all_samples (samples_of left)) ∙ ap (λ (all : List ListState). before.0 ++ all_samples (samples_of all)) (sym out) ∙ before.1,
            c.in_ok-give_list.ensures names before.0
                (subst (λ numbers. IsNamedBy names numbers list.told) (sym own)
                (named_front names ranks list.told (all_told left) (subst (λ (all : List ListState). IsNamedBy names ranks (all_told all)) out (c.each.invariant.named names by))))
                before.2,
          );
    }

pub each-init : goal.each-init
each-init c = record {
  long = ap length c.as_slice-rest.ensures.value ∙ c.requires.ranks;
  total = c.requires.total;
  named = λ names by. subst (λ numbers. IsNamedBy names numbers (all_told c.args.lists.items)) (sym c.as_slice-rest.ensures.value) by;
  sums = λ names by. ([], refl, subst (HasSums names []) (sym c.in_ok-rows.ensures) (no_sums names));
}

pub split_at-requires : goal.split_at-requires
split_at-requires c =
    let list = c.remove-list.result in
    let left = c.remove-list.new.self.items in
    let out = taken_out c.each.lists.items left list c.remove-list.ensures.value c.remove-list.ensures.by_index.2 (omega arith) in
    omega (arith, c.told.ensures, c.each.invariant.long, ap (λ (all : List ListState). length (all_told all)) out, length-append list.told (all_told left))

pub give_list-requires-clause-total : goal.give_list-requires-clause-total
give_list-requires-clause-total c =
    let list = c.remove-list.result in
    let left = c.remove-list.new.self.items in
    let out = taken_out c.each.lists.items left list c.remove-list.ensures.value c.remove-list.ensures.by_index.2 (omega arith) in
    omega (arith, c.each.invariant.total, ap (λ (all : List ListState). total_weight (all_samples (samples_of all))) out, sum_by-append (λ (sample : Sample). sample.weight) list.samples (all_samples (samples_of left)))

pub returns : goal.returns
returns c names by =
    let done = c.each.invariant.sums names by in
    let none : c.each.lists.items ≡ [] = none_left c.each.lists.items (omega (arith, eqb-true _ _ (sym c.each-test.ensures), c.each.lists.ok.0)) in
    subst (HasSums names (all_samples (samples_of c.args.lists.items))) (sym c.into_rows.ensures)
    (subst (λ samples. HasSums names samples c.each.rows) (sym (append-nil done.0) ∙ ap (λ (all : List ListState). done.0 ++ all_samples (samples_of all)) (sym none) ∙ done.1) done.2)
