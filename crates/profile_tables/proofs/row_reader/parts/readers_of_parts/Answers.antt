use Rattle.std.proofs.lemmas.Result.{IfOk-from_err}
use Rattle.std.proofs.Common.{◌≡◌, ◌≤◌, ◌+◌, ◌-◌, ◌/◌, List, [], ◌∷◌, ◌++◌, All, map, length, length-append, sym, ap, subst, ◌∙◌, arith, rules}
use Rattle.std.proofs.Math.Nat.{div-le_self, div-one}
use Rattle.std.proofs.lemmas.List.{map-append}
use Rattle.std.proofs.lemmas.List.Elements.{All-push}
use Rattle.std.specs.Arc.{arc_value}
use Rattle.stack_core.specs.Parts.{ReadsInParts}
use Rattle.stack_core.specs.Reading.{Rest}
use Rattle.profile_messages.specs.SampleTypes.{chosen_type}
use Rattle.profile_tables.specs.declared.outline.Outline.{Outline}
use Rattle.profile_tables.specs.State.{State}
use Rattle.profile_tables.specs.checked.PartReaders.{IsPartReader}
use Rattle.profile_tables.specs.checked.Rests.{rest_from}
use Rattle.profile_tables.proofs.PartLemmas.{part-more}
use Rattle.profile_tables.proofs.row_reader.parts.readers_of_parts.Goals as goal

pub of_part-requires-clause-chosen : goal.of_part-requires-clause-chosen
of_part-requires-clause-chosen c =
    ap (λ (o : Outline). o.chosen_type) c.in_ok-outline.ensures
    ∙ (c.requires.chosen ∙ (λ i. chosen_type (sym c.in_ok-bytes.ensures.cases i) (sym c.in_ok-pick.ensures i)))

pub loop-left-preserved : goal.loop-left-preserved
loop-left-preserved c =
    let file = c.args.bytes.now in
    let outline = arc_value c.args.whole.now.outline in
    let given = c.loop-left.given in
    let left = c.loop-left.left in
    let most = c.args.whole.now.past in
    let past = given + (most - given) / left in
    let before : List State = c.loop-left.readers.items in
    let reader : State = c.of_part.result in
    let rests : List Rest = map (λ (reader : State). reader.rest) before in
    let more = c.in_ok-push.ensures.items in
    let rest : reader.rest ≡ rest_from file outline past given 0 =
    c.of_part.ensures.rest ∙ (λ i. rest_from (c.in_ok-bytes.ensures.cases i) (c.in_ok-outline.ensures i) past given 0) in
    let all_rests : map (λ (reader : State). reader.rest) c.push.new.self.items ≡ rests ++ rest_from file outline past given 0 ∷ [] =
    ap (map (λ (reader : State). reader.rest)) more
    ∙ (map-append (λ (reader : State). reader.rest) before (reader ∷ []) ∙ ap (λ (r : Rest). rests ++ r ∷ []) rest) in
    let is : IsPartReader file c.args.pick.now reader =
    subst (λ f. IsPartReader f c.args.pick.now reader) c.in_ok-bytes.ensures.cases
    (subst (λ p. IsPartReader c.in_ok-bytes.bytes p reader) c.in_ok-pick.ensures c.of_part.ensures.reader) in
    let grows : given ≤ past = omega arith in
    let below = c.loop-left.invariant.within in
    let some = c.loop-left-test.true in
    record {
      parts = subst (ReadsInParts (rest_from file outline past 0 0)) (sym all_rests) (part-more file outline given past rests grows c.loop-left.invariant.parts);
      readers = subst (All (IsPartReader file c.args.pick.now)) (sym more)
          (All-push (IsPartReader file c.args.pick.now) before reader c.loop-left.invariant.readers is);
      count = omega (arith, ap (λ (list : List State). length list) more, length-append before (reader ∷ []), c.loop-left.invariant.count, some);
      within = omega (arith, div-le_self (most - given) left, below);
      all = λ none.
          let one : left ≡ 1 = omega (arith, none, some) in
          ap (λ n. given + (most - given) / n) one ∙ (ap (λ n. given + n) (div-one (most - given)) ∙ omega (arith, below));
    }

pub returns-clause-parts : goal.returns-clause-parts
returns-clause-parts c =
    let all = c.loop-left.invariant.all (omega (arith, c.loop-left-test.false)) in
    subst (λ past. ReadsInParts (rest_from c.args.bytes.now (arc_value c.args.whole.now.outline) past 0 0) (map (λ (reader : State). reader.rest) c.loop-left.readers.items))
    all c.loop-left.invariant.parts

pub returns-in_err-readers : goal.returns-in_err-readers
returns-in_err-readers c = record {
  parts = IfOk-from_err _ _ c.from_residual.ensures.0;
  count = IfOk-from_err _ _ c.from_residual.ensures.0;
  readers = IfOk-from_err _ _ c.from_residual.ensures.0;
}

pub loop-left-init : goal.loop-left-init
loop-left-init c = search rules

pub overflow_sub-past : goal.overflow_sub-past
overflow_sub-past c = search rules

pub nonzero_div-past : goal.nonzero_div-past
nonzero_div-past c = search rules

pub overflow_add-past : goal.overflow_add-past
overflow_add-past c = search rules

pub returns-in_err-outline : goal.returns-in_err-outline
returns-in_err-outline c = record {
  parts = IfOk-from_err _ _ c.from_residual-in_err-outline.ensures.0;
  count = IfOk-from_err _ _ c.from_residual-in_err-outline.ensures.0;
  readers = IfOk-from_err _ _ c.from_residual-in_err-outline.ensures.0;
}

pub returns-in_err-bytes : goal.returns-in_err-bytes
returns-in_err-bytes c = record {
  parts = IfOk-from_err _ _ c.from_residual-in_err-bytes.ensures.0;
  count = IfOk-from_err _ _ c.from_residual-in_err-bytes.ensures.0;
  readers = IfOk-from_err _ _ c.from_residual-in_err-bytes.ensures.0;
}

pub returns-in_err-pick : goal.returns-in_err-pick
returns-in_err-pick c = record {
  parts = IfOk-from_err _ _ c.from_residual-in_err-pick.ensures.0;
  count = IfOk-from_err _ _ c.from_residual-in_err-pick.ensures.0;
  readers = IfOk-from_err _ _ c.from_residual-in_err-pick.ensures.0;
}

pub of_part-requires-clause-order : goal.of_part-requires-clause-order
of_part-requires-clause-order c = search rules

pub returns-in_err-push : goal.returns-in_err-push
returns-in_err-push c = record {
  parts = IfOk-from_err _ _ c.from_residual-in_err-push.ensures.0;
  count = IfOk-from_err _ _ c.from_residual-in_err-push.ensures.0;
  readers = IfOk-from_err _ _ c.from_residual-in_err-push.ensures.0;
}

pub overflow_sub-left : goal.overflow_sub-left
overflow_sub-left c = search rules

pub loop-left-smaller : goal.loop-left-smaller
loop-left-smaller c = search rules

pub returns-clause-count : goal.returns-clause-count
returns-clause-count c = search rules

pub returns-clause-readers : goal.returns-clause-readers
returns-clause-readers c = search rules
