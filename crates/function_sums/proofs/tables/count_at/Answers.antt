use Rattle.std.proofs.Common.{◌≡◌, ◌∙◌, ℕ, ◌+◌, ◌-◌, ◌<◌, ◌^◌, ◌++◌, [], ◌∷◌, List, All, Some, Option, ap, subst, sym, arith, refl, length, map, take}
use Rattle.std.specs.List.{slice_get}
use Rattle.sample_tables.specs.declared.samples.Sample.{Sample}
use Rattle.sample_tables.specs.Rows.{name_at}
use Rattle.merged_stacks.specs.RankedStacks.{Ranking, ranked_samples}
use Rattle.merged_stacks.specs.Timeline.{total_weight}
use Rattle.function_sums.specs.Calls.{beside_in, last_two}
use Rattle.function_sums.specs.declared.calls.Call.{Call}
use Rattle.function_sums.specs.declared.counts.Count.{Count}
use Rattle.function_sums.specs.FunctionSums.{ends}
use Rattle.function_sums.specs.checked.Counted.{AreCounts, HasRoom, ended}
use Rattle.function_sums.specs.checked.Cuts.{counted_of, lasts_of}
use Rattle.function_sums.proofs.Counting.{all_room, ended_by, stack_more, stack_room}
use Rattle.function_sums.proofs.CutSamples.{counted-push, counted-weight, cut_by, last_two-map, lasts-push, lasts-weight}
use Rattle.function_sums.proofs.tables.count_at.Goals as goal

-- the stack that is counted, by its names
abbrev by_name : List (List ℕ) → List ℕ → ℕ → Sample
by_name names ranks weight = record { stack = map (name_at names) ranks; weight = weight }

room_at : (ranking : Ranking) (counts : List Count) (call : Option Call) (at weight : ℕ) (ranks : List ℕ) → take (at + 1) (ranked_samples ranking) ≡ take at (ranked_samples ranking) ++ by_name ranking.names ranks weight ∷ []
    → total_weight (ranked_samples ranking) < 2 ^ 64 → AreCounts ranking.names counts (lasts_of call (take at (ranked_samples ranking))) (counted_of call (take at (ranked_samples ranking))) [] 0 (at + 1) → All (HasRoom weight (at + 1)) counts
room_at ranking counts call at weight ranks more total are =
    let samples = ranked_samples ranking in
    let fits = stack_room samples at (by_name ranking.names ranks weight) more in
    all_room ranking.names counts (lasts_of call (take at samples)) (counted_of call (take at samples)) weight (at + 1) are (omega (arith, lasts-weight call (take at samples), fits, total)) (omega (arith, counted-weight call (take at samples), fits, total))

pub count_stack-requires-clause-room : goal.count_stack-requires-clause-room
count_stack-requires-clause-room c =
    let more = stack_more c.args.merged.now c.args.at c.weight-weight.result c.ranks-ranks.result.now c.requires.at c.weight-weight.ensures.value c.ranks-ranks.ensures.value in
    room_at c.args.merged.now c.args.counts.now c.args.call c.args.at c.weight-weight.result c.ranks-ranks.result.now more c.requires.total c.requires.counted

pub count_stack-requires-in-Some-clause-room : goal.count_stack-requires-in-Some-clause-room
count_stack-requires-in-Some-clause-room c =
    let more = stack_more c.args.merged.now c.args.at c.weight-weight.result c.ranks-ranks.result.now c.requires.at c.weight-weight.ensures.value c.ranks-ranks.ensures.value in
    room_at c.args.merged.now c.args.counts.now c.args.call c.args.at c.weight-weight.result c.ranks-ranks.result.now more c.requires.total c.requires.counted

pub returns-in-None : goal.returns-in-None
returns-in-None c =
    let names = c.args.merged.now.names in
    let ranks = c.ranks-ranks.result.now in
    let samples = ranked_samples c.args.merged.now in
    let done = take c.args.at samples in
    let s = by_name names ranks c.weight-weight.result in
    let more = stack_more c.args.merged.now c.args.at c.weight-weight.result ranks c.requires.at c.weight-weight.ensures.value c.ranks-ranks.ensures.value in
    let is = c.in-None.is in
    let are = c.count_stack.ensures names (lasts_of c.args.call done) (counted_of c.args.call done) s c.requires.rising c.requires.counted refl
    (λ name. ended_by names ranks name ∙ ap (λ it. ended names it name) (sym (c.copied.ensures ∙ c.last.ensures.value))) in
    subst (λ lasts. AreCounts names c.count_stack.new.counts lasts (counted_of c.args.call (take (c.args.at + 1) samples)) [] 0 (c.args.at + 1 + 1))
    (ap (λ call. lasts_of call done ++ s ∷ []) is ∙ sym more ∙ ap (λ call. lasts_of call (take (c.args.at + 1) samples)) (sym is))
    (subst (λ all. AreCounts names c.count_stack.new.counts (lasts_of c.args.call done ++ s ∷ []) all [] 0 (c.args.at + 1 + 1))
    (ap (λ call. counted_of call done ++ s ∷ []) is ∙ sym more ∙ ap (λ call. counted_of call (take (c.args.at + 1) samples)) (sym is)) are)

pub returns-in_ok-ending-in-Some : goal.returns-in_ok-ending-in-Some
returns-in_ok-ending-in-Some c =
    let names = c.args.merged.now.names in
    let ranks = c.ranks-ranks.result.now in
    let samples = ranked_samples c.args.merged.now in
    let done = take c.args.at samples in
    let weight = c.weight-weight.result in
    let s = by_name names ranks weight in
    let more = stack_more c.args.merged.now c.args.at weight ranks c.requires.at c.weight-weight.ensures.value c.ranks-ranks.ensures.value in
    let call = c.in-Some.call in
    let is : c.args.call ≡ Some call = c.in-Some.is in
    let ending = c.in_ok-ending-in-Some.ending.items in
    let e = cut_by (λ stack. beside_in call.side call.name.now (last_two stack)) s in
    let ends_with : beside_in call.side call.name.now (last_two (map (name_at names) ranks)) ≡ map (name_at names) ending =
    ap (beside_in call.side call.name.now) (last_two-map (name_at names) ranks ∙ ap (map (name_at names)) (sym c.last_two.ensures)) ∙ sym c.in_ok-ending-in-Some.ensures.names in
    let last : c.copied-in-Some.result ≡ slice_get ending (length ending - 1) =
    c.copied-in-Some.ensures ∙ c.last-in-Some.ensures.value ∙ ap (λ xs. slice_get xs (length xs - 1)) c.deref-in-Some.ensures.value in
    let are = c.count_stack-in-Some.ensures names (lasts_of c.args.call done) (counted_of c.args.call done) e c.requires.rising c.requires.counted refl
    (λ name. ap (ends name) ends_with ∙ ended_by names ending name ∙ ap (λ it. ended names it name) (sym last)) in
    let found : map (name_at names) c.deref.result.now ≡ beside_in call.side call.name.now (map (name_at names) ranks) = ap (map (name_at names)) c.deref.ensures.value ∙ c.in_ok-found-in-Some.ensures.names in
    let counted : counted_of c.args.call done ++ by_name names c.deref.result.now weight ∷ [] ≡ counted_of c.args.call (take (c.args.at + 1) samples) =
    ap (λ stack. counted_of c.args.call done ++ record { stack = stack; weight = weight } ∷ []) found ∙ ap (λ k. counted_of k done ++ cut_by (beside_in call.side call.name.now) s ∷ []) is
    ∙ sym (ap (λ k. counted_of k (take (c.args.at + 1) samples)) is ∙ ap (counted_of (Some call)) more ∙ counted-push call done s) in
    let lasts : lasts_of c.args.call done ++ e ∷ [] ≡ lasts_of c.args.call (take (c.args.at + 1) samples) =
    ap (λ k. lasts_of k done ++ e ∷ []) is ∙ sym (ap (λ k. lasts_of k (take (c.args.at + 1) samples)) is ∙ ap (lasts_of (Some call)) more ∙ lasts-push call done s) in
    subst (λ lasts. AreCounts names c.count_stack-in-Some.new.counts lasts (counted_of c.args.call (take (c.args.at + 1) samples)) [] 0 (c.args.at + 1 + 1)) lasts
    (subst (λ all. AreCounts names c.count_stack-in-Some.new.counts (lasts_of c.args.call done ++ e ∷ []) all [] 0 (c.args.at + 1 + 1)) counted are)
