use Rattle.std.proofs.Common.{◌∙◌, [], List, ap, sum_by, sym, subst, arith}
use Rattle.std.proofs.lemmas.Result.{IfOk-weaker}
use Rattle.merged_stacks.specs.Merged.{sum_at}
use Rattle.merged_stacks.specs.checked.Ranked.{Ranked, HasSums, AreMerged, named_rows}
use Rattle.merged_stacks.proofs.JoinedStacks.{no_sums, are_merged, merged_sum}
use Rattle.merged_stacks.proofs.paired.merged_rows.Goals as goal

pub merged-requires : goal.merged-requires
merged-requires g c =
    let names = c.requires.named.0 in
    let sums = c.in_ok-add_list.ensures names [] c.requires.named.1 (subst (HasSums names []) (sym c.in_ok-rows.ensures) (no_sums names)) in
    omega (arith, sums.total, ap (sum_by (λ (row : Ranked). row.1)) c.into_rows.ensures, c.requires.total)

pub returns : goal.returns
returns g c =
    let samples = c.args.list.now.samples in
    let taken = c.into_rows.result in
    IfOk-weaker c.merged.result _ _ (λ rows h names rising by.
    let sums : HasSums names samples taken = subst (HasSums names samples) (sym c.into_rows.ensures) (c.in_ok-add_list.ensures names [] by (subst (HasSums names []) (sym c.in_ok-rows.ensures) (no_sums names))) in
    record {
      merged = subst (AreMerged names) (sym h.3) (are_merged names samples taken h.0 rising sums h.1 h.2 c.requires.total);
      sums = λ q. ap (λ (all : List Ranked). sum_at (named_rows names all) q) h.3 ∙ merged_sum names samples taken h.0 rising sums h.1 h.2 q;
    }) c.merged.ensures
