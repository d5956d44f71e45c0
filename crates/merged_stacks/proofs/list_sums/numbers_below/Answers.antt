use Rattle.std.proofs.Common.{◌≡◌, ◌∙◌, ◌++◌, OnOk, ap, sym, subst, arith}
use Rattle.std.specs.List.{range_with_len}
use Rattle.std.proofs.lemmas.Iterator.{YieldsList-from_range}
use Rattle.std.proofs.lemmas.Iterator.Adapters.{fact_from_extend}
use Rattle.std.proofs.lemmas.List.{map-id}
use Rattle.merged_stacks.proofs.list_sums.numbers_below.Goals as goal

pub returns : goal.returns
returns c =
    let n = c.args.count in
    let numbers : OnOk c.extend.result (c.extend.new.self.items ≡ range_with_len 0 n) = fact_from_extend (λ x. x) c.extend.result c.extend.ensures.ran
    (λ it h. YieldsList-from_range 0 n n h (omega arith))
    (λ xs e h. h.0 ∙ ap (λ ys. c.new-numbers.result.items ++ ys) (sym (map-id xs) ∙ e) ∙ ap (λ ys. ys ++ range_with_len 0 n) c.new-numbers.ensures.items) in
    subst (λ r. OnOk r (c.extend.new.self.items ≡ range_with_len 0 n)) c.in_ok-extend.was numbers
