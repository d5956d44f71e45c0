use Rattle.std.proofs.Common.{◌≡◌, ◌∙◌, ◌<◌, ◌+◌, ◌++◌, ◌∷◌, [], List, All, ap, arith, length, map, subst, sym, take}
use Rattle.std.proofs.lemmas.List.{map_push, take_all, take_more}
use Rattle.std.proofs.lemmas.List.Elements.{All-push}
use Rattle.std.proofs.lemmas.List.Sums.{sum_by-append}
use Rattle.sample_tables.specs.Samples.{total_weight}
use Rattle.sample_tables.specs.declared.samples.Sample.{Sample}
use Rattle.stack_core.specs.Ledgers.{ListState}
use Rattle.stack_core.specs.Parts.{IsClean, ignored_of, samples_of_parts}
use Rattle.stack_core.specs.Reading.{Rest}
use Rattle.ring_collect.specs.Collection.{seen_as_rest}
use Rattle.source_lists.specs.checked.Parts.{ignored_by}
use Rattle.source_lists.proofs.PartLemmas.{ignored_more, samples_more}
use Rattle.source_lists.proofs.part_lists.ignored_by_clean.Goals as goal

pub loop-part-preserved : goal.loop-part-preserved
loop-part-preserved c =
    let parts = c.args.parts.now in
    let n = c.loop-part.part-index in
    let part : ListState = c.part-item.result in
    let before = map seen_as_rest (take n parts) in
    let within : n < length parts = omega arith in
    let one_more : map seen_as_rest (take (n + 1) parts) ≡ before ++ seen_as_rest part ∷ [] =
    ap (map seen_as_rest) (take_more parts n part within ∙ ap (λ last. take n parts ++ last ∷ []) (sym c.part-item.is)) ∙ map_push seen_as_rest (take n parts) part in
    let clean = sym c.ending.ensures ∙ c.in-Clean.is in
    let weigh = ap total_weight (ap samples_of_parts one_more ∙ samples_more before (seen_as_rest part)) ∙ sum_by-append (λ (sample : Sample). sample.weight) (samples_of_parts before) part.samples in
    record {
      clean = subst (λ (rests : List Rest). All IsClean rests) (sym one_more) (All-push IsClean before (seen_as_rest part) c.loop-part.invariant.clean (_, clean));
      weight = omega (arith, weigh, c.loop-part.invariant.weight, c.in_ok-weight.ensures, c.total.ensures);
      ignored = omega (arith, ap ignored_by one_more, ignored_more before (seen_as_rest part), ap ignored_of clean, c.loop-part.invariant.ignored, c.in_ok-ignored.ensures);
    }

pub returns-then-weight : goal.returns-then-weight
returns-then-weight c =
    let parts = c.args.parts.now in
    let all = ap (map seen_as_rest) (take_all c.loop-part.part-index parts (omega (arith, c.loop-part-test.false))) in
    record {
      clean = subst (λ (rests : List Rest). All IsClean rests) all c.loop-part.invariant.clean;
      weight = omega (arith, ap (λ (rests : List Rest). total_weight (samples_of_parts rests)) all, c.loop-part.invariant.weight, c.if-weight.true);
      ignored_is = c.loop-part.invariant.ignored ∙ ap ignored_by all;
    }
