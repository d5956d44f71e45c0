use Rattle.std.proofs.Common.{◌-◌, length, take, ltb, ap, arith}
use Rattle.byte_io.proofs.PieceTexts.{further}
use Rattle.view_texts.specs.checked.Joined.{joint, joined_names}
use Rattle.view_texts.proofs.MergedLines.{ranks_joined_less, length-ranks_joined}
use Rattle.view_texts.proofs.turned_names.cut_names.Goals as goal

pub overflow_sub-length : goal.overflow_sub-length
overflow_sub-length c =
    let kept = c.loop-kept.kept in
    let name = ap (λ name. length (joint (ltb 0 (kept - 1)) name)) c.name_of.ensures in
    omega (arith, name, length-ranks_joined c.args.merged.now.names c.args.ranks.now kept (omega arith) c.loop-kept.invariant.within)

pub loop-kept-preserved : goal.loop-kept-preserved
loop-kept-preserved c =
    let names = c.args.merged.now.names in
    let ranks = c.args.ranks.now in
    let kept = c.loop-kept.kept in
    let within = c.loop-kept.invariant.within in
    let less = ranks_joined_less names ranks kept (omega arith) within in
    let name = ap (λ name. length (joint (ltb 0 (kept - 1)) name)) c.name_of.ensures in
    record {
      within = omega arith;
      wide = omega arith;
      begins = further c.args.text.now.items (joined_names names (take kept ranks)) _ _ c.loop-kept.invariant.begins less;
      long = omega (arith, name, length-ranks_joined names ranks kept (omega arith) within);
    }
