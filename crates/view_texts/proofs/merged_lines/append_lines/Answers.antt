use Rattle.std.proofs.Common.{◌<◌, ◌++◌, ◌∙◌, length, sym, ap, arith, rules}
use Rattle.std.proofs.lemmas.List.{length-map}
use Rattle.std.specs.List.{concat, slice_range}
use Rattle.byte_io.proofs.PieceTexts.{further, range_more}
use Rattle.sample_tables.specs.Rows.{sample_at}
use Rattle.merged_stacks.specs.RankedStacks.{ranked_samples}
use Rattle.view_texts.specs.Pieces.{stack_lines}
use Rattle.view_texts.specs.checked.Joined.{joined_names}
use Rattle.view_texts.proofs.TextPieces.{line_at, ranked_line-at, line_appended}
use Rattle.view_texts.proofs.merged_lines.append_lines.Goals as goal

pub returns-in_err-append_line-clause-front : goal.returns-in_err-append_line-clause-front
returns-in_err-append_line-clause-front c =
    further c.append_line.new.out.items c.loop-at.out.items c.args.out.now.items _ c.append_line.ensures.front c.loop-at.invariant.appended

pub loop-at-preserved : goal.loop-at-preserved
loop-at-preserved c =
    let merged = c.args.merged.now in
    let lines = stack_lines (ranked_samples merged) in
    let at = c.loop-at.at in
    let start = c.args.out.now.items in
    let so_far = concat (slice_range lines c.args.from at) in
    let there : at < length (ranked_samples merged) = omega arith in
    let within : at < length lines = omega (arith, length-map (ranked_samples merged) line_at) in
    let names = c.deref.ensures.value ∙ c.in_ok-turn_names.ensures ∙ ap (joined_names merged.names) c.ranks-ranks.ensures.value in
    let weight = (sample_at (ranked_samples merged) at).weight in
    let more = range_more lines c.args.from at (omega arith) within ∙ ap (λ line. so_far ++ line) (ranked_line-at merged at there) in
    record {
      appended = line_appended _ _ _ weight start so_far _ _ names (search rules)
          c.loop-at.invariant.appended c.in_ok-append_line.ensures.ok
          ∙ ap (λ text. start ++ text) (sym more);
      joined = c.in_ok-turn_names.ensures;
      known = c.ranks-ranks.ensures.known;
    }
