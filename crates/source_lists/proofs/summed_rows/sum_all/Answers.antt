use Rattle.std.proofs.Common.{◌≡◌, ◌∙◌, [], List, ap, arith, subst, sym}
use Rattle.std.proofs.lemmas.Iterator.Adapters.{YieldsList-from_vec}
use Rattle.std.proofs.lemmas.Iterator.Consumers.{YieldsList-end}
use Rattle.std.proofs.lemmas.List.{map-id}
use Rattle.stack_core.specs.Reading.{Rest}
use Rattle.stack_core.specs.RowReading.{GivesSome, GivesSuch}
use Rattle.source_lists.specs.Summing.{IsSummed}
use Rattle.source_lists.specs.checked.SummedRows.{GivesLeft}
use Rattle.source_lists.proofs.KnownInputs.{zip_count, zip_each, zip_pushed, zip_taken, zip_weaker}
use Rattle.source_lists.proofs.SummedLemmas.{left_none, left_possible}
use Rattle.source_lists.proofs.summed_rows.sum_all.Goals as goal

pub loop-reader-preserved : goal.loop-reader-preserved
loop-reader-preserved g c =
    zip_pushed c.loop-reader.yielded c.loop-reader.all.items c.push.new.self.items c.in-Some.reader c.over.result (λ reader summed. (summed.reader ≡ reader) × (summed.sums.items ≡ []))
    c.in_ok-push.ensures.items c.loop-reader.invariant (c.over.ensures.reader, c.over.ensures.sums)

pub returns : goal.returns
returns g c =
    let r = g.R.RowReader in
    let readers = c.args.readers.items in
    let all = c.loop-reader.all.items in
    let yielded = c.loop-reader.yielded in
    let end = YieldsList-end (YieldsList-from_vec readers c.into_iter-reader-iterator.ensures.into_iter_gives.0 (omega arith)) yielded c.loop-reader.reader-iterator c.loop-reader.yielded_by c.next.result c.next.new.self c.in-None.is c.next.ensures.steps in
    let over = zip_taken yielded readers all (λ reader summed. (summed.reader ≡ reader) × (summed.sums.items ≡ [])) (sym (map-id yielded) ∙ end.0) c.loop-reader.invariant in
    record {
      told = zip_each readers all (λ reader summed. (summed.reader ≡ reader) × (summed.sums.items ≡ [])) (λ reader. r.told reader ≡ record { names = []; stacks = [] }) (λ summed. r.told summed.reader ≡ record { names = []; stacks = [] })
          (λ reader summed none is. ap r.told is.0 ∙ none) c.requires.told over;
      possible = zip_each readers all (λ reader summed. (summed.reader ≡ reader) × (summed.sums.items ≡ [])) (λ reader. GivesSome (r.gives reader)) (λ summed. GivesSome (GivesLeft (r.gives summed.reader) (r.told summed.reader) summed.sums.items))
          (λ reader summed some is. left_possible (r.gives summed.reader) (r.told summed.reader) summed.sums.items (rw is.0 some)) c.requires.possible over;
      count = zip_count (λ reader summed. (summed.reader ≡ reader) × (summed.sums.items ≡ [])) readers all over;
      sums = zip_weaker readers all (λ reader summed. (summed.reader ≡ reader) × (summed.sums.items ≡ []))
          (λ reader summed. (found : Rest) → GivesLeft (r.gives summed.reader) (r.told summed.reader) summed.sums.items found → GivesSuch (r.gives reader) (λ rest. IsSummed rest found))
          (λ reader summed is found given. left_none (r.gives reader) (r.told summed.reader) found (subst (λ (sums : List _). GivesLeft (r.gives reader) (r.told summed.reader) sums found) is.1 (rw (← is.0) given))) over;
    }
