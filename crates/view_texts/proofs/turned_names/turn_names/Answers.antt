use Rattle.std.proofs.Common.{◌++◌, ◌∙◌, sym, ltb, arith}
use Rattle.view_texts.specs.checked.Joined.{joint}
use Rattle.view_texts.proofs.MergedLines.{ranks_joined_more}
use Rattle.view_texts.proofs.turned_names.turn_names.Goals as goal

pub loop-place-preserved : goal.loop-place-preserved
loop-place-preserved c =
    let place = c.loop-place.place in
    c.in_ok-append_name.ensures.ok ∙ (λ k. c.loop-place.invariant k ++ joint (ltb 0 place) (c.name_of.ensures k))
    ∙ sym (ranks_joined_more c.args.merged.now.names c.args.ranks.now place (omega (arith, c.loop-place-test.true)))
