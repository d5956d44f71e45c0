use Rattle.std.proofs.Common.{◌≡◌, ◌∙◌, ◌+◌, ◌++◌, ◌∷◌, ℕ, zero, suc, [], ap, sym, map, slice_index, add-one, arith}
use Rattle.std.specs.List.{range_with_len}
use Rattle.std.proofs.lemmas.List.{map_push}
use Rattle.merged_stacks.specs.checked.Ranked.{Ranked}
use Rattle.merged_stacks.proofs.list_sums.sorted_stacks.Goals as goal

one_more : (a n j : ℕ) → a + n ≡ j → range_with_len a (suc n) ≡ range_with_len a n ++ j ∷ []
one_more a zero j e = let here : a ≡ j = omega arith in ap (λ k. k ∷ []) here
one_more a (suc n) j e = ap (λ rest. a ∷ rest) (one_more (a + 1) n j (omega arith))

pub loop-number-preserved : goal.loop-number-preserved
loop-number-preserved c =
    let n = c.loop-number.number in
    let weight = λ (row : Ranked). row.1 in
    let more : range_with_len 0 (n + 1) ≡ range_with_len 0 n ++ n ∷ [] = rw (add-one n) (one_more 0 n n (omega arith)) in
    ap (map weight) c.in_ok-push.ensures ∙ map_push weight c.loop-number.rows (map (slice_index c.args.ranks.now) c.stack.result.now, n)
    ∙ ap (λ numbers. numbers ++ n ∷ []) c.loop-number.invariant ∙ sym more
