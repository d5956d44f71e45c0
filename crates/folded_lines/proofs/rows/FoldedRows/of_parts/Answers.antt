use Rattle.std.proofs.Common.{◌≡◌, ◌∙◌, ◌++◌, ◌∷◌, [], List, All, ap, arith, get_or, map, subst, sym, take}
use Rattle.std.specs.List.{concat}
use Rattle.std.proofs.lemmas.List.{map_push, take_all, take_more}
use Rattle.std.proofs.lemmas.List.Elements.{All-push}
use Rattle.stack_core.specs.Parts.{ReadsInParts}
use Rattle.stack_core.specs.Reading.{Rest}
use Rattle.folded_lines.specs.Reading.{read_folded}
use Rattle.folded_lines.specs.State.{State}
use Rattle.folded_lines.proofs.PartReaders.{parts_read}
use Rattle.folded_lines.proofs.rows.FoldedRows.of_parts.Goals as goal

pub loop-part-preserved : goal.loop-part-preserved
loop-part-preserved c =
    let rest : State → Rest = λ reader. reader.rest in
    let parts = c.args.parts.now in
    let at = c.loop-part.part-index in
    let readers = c.loop-part.readers.items in
    let more = c.in_ok-push.ensures.items in
    let read = c.over_shared.ensures.rest ∙ ap read_folded (c.in_ok-clone.ensures.cases ∙ c.part-item.is) in
    record {
      rests =
          ap (map rest) more
          ∙ (map_push rest readers c.over_shared.result
          ∙ ((λ i. c.loop-part.invariant.rests i ++ read i ∷ [])
          ∙ sym (ap (map read_folded) (take_more parts at c.part-item.result c.loop-part-test.true) ∙ map_push read_folded (take at parts) (get_or parts at c.part-item.result))));
      told =
          subst (λ (readers : List State). All (λ reader. reader.told ≡ record { names = []; stacks = [] }) readers) (sym more)
          (All-push (λ (reader : State). reader.told ≡ record { names = []; stacks = [] }) readers c.over_shared.result c.loop-part.invariant.told c.over_shared.ensures.told);
    }

pub returns-clause-parts : goal.returns-clause-parts
returns-clause-parts c =
    let parts = c.args.parts.now in
    let all : take c.loop-part.part-index parts ≡ parts = take_all c.loop-part.part-index parts (omega (arith, c.loop-part-test.false)) in
    subst (λ (rests : List Rest). ReadsInParts (read_folded (concat parts)) rests) (sym (c.loop-part.invariant.rests ∙ ap (map read_folded) all))
    (parts_read parts c.requires)
