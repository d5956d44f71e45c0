use Rattle.std.proofs.Common.{◌≡◌, ◌∙◌, ◌<◌, ◌+◌, ◌++◌, ◌∷◌, [], All, List, Ok, ap, arith, length, subst, sym, take}
use Rattle.std.proofs.lemmas.List.{take_all, take_more}
use Rattle.std.proofs.lemmas.List.Elements.{All-push}
use Rattle.stack_core.specs.Ledgers.{ListState}
use Rattle.source_lists.specs.Runs.{IsReadOut}
use Rattle.source_lists.proofs.unreadable_sources.first_unreadable.Goals as goal

pub loop-source-preserved : goal.loop-source-preserved
loop-source-preserved c =
    let lists = c.args.lists.now in
    let n = c.loop-source.source in
    let list = c.index-lists-source.result in
    let within : n < length lists = omega arith in
    let read = c.is_read_out.ensures (c.in_ok-is_read_out.was ∙ ap Ok c.if-not-branch.false) in
    let out : IsReadOut list = λ after is. read after (c.ending.ensures ∙ is) in
    let one_more : take (n + 1) lists ≡ take n lists ++ list ∷ [] = take_more lists n list within ∙ ap (λ last. take n lists ++ last ∷ []) (sym c.index-lists-source.is) in
    subst (λ (lists : List ListState). All IsReadOut lists) (sym one_more) (All-push IsReadOut (take n lists) list c.loop-source.invariant out)

pub returns-clause-none : goal.returns-clause-none
returns-clause-none c = λ _.
    subst (λ (lists : List ListState). All IsReadOut lists) (take_all c.loop-source.source c.args.lists.now (omega (arith, c.loop-source-test.false))) c.loop-source.invariant
