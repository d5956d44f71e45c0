use Rattle.std.proofs.Common.{ap, subst, take, ℕ, List}
use Rattle.std.proofs.lemmas.List.{take_all}
use Rattle.ranked_rows.specs.Ranks.{all_told}
use Rattle.ranked_rows.specs.checked.Names.{AreKept}
use Rattle.ranked_rows.proofs.RankedNames.{all_told-push}
use Rattle.ranked_rows.proofs.told_names.names_of_lists.Goals as goal

pub loop-list-preserved : goal.loop-list-preserved
loop-list-preserved c =
    let new = c.keep_names.new.told in
    subst (λ (names : List (List ℕ)). AreKept names new.kept.items new.places.items) (all_told-push c.args.lists.now c.loop-list.list-index c.list-item.result c.loop-list-test.true c.list-item.is)
    (c.in_ok-keep_names.ensures (all_told (take c.loop-list.list-index c.args.lists.now)) c.loop-list.invariant)

pub returns : goal.returns
returns c =
    subst (λ names. AreKept names c.loop-list.told.kept.items c.loop-list.told.places.items) (ap all_told (take_all c.loop-list.list-index c.args.lists.now c.loop-list-test.false)) c.loop-list.invariant
