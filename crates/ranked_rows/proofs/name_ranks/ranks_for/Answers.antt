use Rattle.std.proofs.Common.{◌∙◌, ap, length, map, slice_index}
use Rattle.std.proofs.lemmas.List.{length-map}
use Rattle.ranked_rows.proofs.WeighingRows.{whole_put}
use Rattle.ranked_rows.proofs.name_ranks.ranks_for.Goals as goal

pub returns : goal.returns
returns c =
    let seen = c.deref_mut.result.now in
    let ranked = slice_index c.args.ranks.now in
    whole_put c.args.numbers.len c.args.numbers.items seen c.put_ranks.new.numbers c.args.numbers.ok.0 c.deref_mut.ensures.value (ap length c.put_ranks.ensures ∙ length-map seen ranked)
    ∙ c.put_ranks.ensures ∙ ap (map ranked) c.deref_mut.ensures.value
