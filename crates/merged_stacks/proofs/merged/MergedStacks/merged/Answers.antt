use Rattle.std.proofs.Common.{◌∙◌, sym, ap, subst, map, string_bytes, arith}
use Rattle.merged_stacks.specs.RankedStacks.{sample_of}
use Rattle.merged_stacks.specs.checked.Ranked.{AreMerged}
use Rattle.merged_stacks.proofs.JoinedStacks.{are_merged, merged_are}
use Rattle.merged_stacks.proofs.merged.MergedStacks.merged.Goals as goal

pub merged-requires : goal.merged-requires
merged-requires g c = omega (arith, c.requires.sums.1.total, c.requires.sums.2)

pub invariant_of-result : goal.invariant_of-result
invariant_of-result g c =
    let names = map string_bytes c.args.names.items in
    let sums = c.requires.sums in
    let h = c.in_ok-rows.ensures in
    subst (AreMerged names) (sym h.3) (are_merged names sums.0 c.args.rows h.0 c.requires.rising sums.1 h.1 h.2 sums.2)

pub returns : goal.returns
returns g c samples sums =
    let names = map string_bytes c.args.names.items in
    let h = c.in_ok-rows.ensures in
    ap (map (sample_of names)) h.3 ∙ merged_are names samples c.args.rows h.0 c.requires.rising sums h.1 h.2
