use Rattle.std.proofs.Common.{sym, subst}
use Rattle.std.proofs.lemmas.Result.{IfOk-weaker}
use Rattle.ranked_rows.specs.checked.Names.{AreSorted}
use Rattle.ranked_rows.proofs.RankedNames.{names_sorted}
use Rattle.ranked_rows.proofs.name_ranks.ranks_of_named.Goals as goal

pub rank-requires : goal.rank-requires
rank-requires c =
    let names = c.requires.0 in
    (names, subst (AreSorted names) (sym c.deref.ensures.value) (names_sorted names c.args.told.items c.sort_unstable.new.self.items c.requires.1 c.sort_unstable.ensures.permutation c.sort_unstable.ensures.sorted))

pub returns : goal.returns
returns c =
    IfOk-weaker c.rank.result _ _ (λ all h names placed. h names
    (subst (AreSorted names) (sym c.deref.ensures.value)
    (names_sorted names c.args.told.items c.sort_unstable.new.self.items placed c.sort_unstable.ensures.permutation c.sort_unstable.ensures.sorted))) c.rank.ensures
