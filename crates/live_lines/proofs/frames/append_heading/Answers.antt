use Rattle.std.proofs.Common.{◌≡◌, ◌∙◌, ◌++◌, [], append_assoc, codes, decimal, rules}
use Rattle.view_texts.specs.WeightTexts.{weight_text}
use Rattle.live_lines.specs.Frames.{word_of}
use Rattle.live_lines.proofs.frames.append_heading.Goals as goal

pub returns : goal.returns
returns c =
    let out = c.args.out.now.items in
    let standing = c.args.standing in
    let weight = weight_text [] standing.at in
    let of = word_of standing.at (codes " sample of ") (codes " samples of ") in
    let digits : c.as_bytes.result.now ≡ decimal c.args.standing.sources = search rules in
    let word = word_of standing.sources (codes " source\n") (codes " sources\n") in
    let counted = c.in_ok-extend_from_slice.ensures.items ∙ (λ i. c.in_ok-append_weight.ensures.ok i ++ c.word_of.ensures i) in
    let told = c.in_ok-extend_from_slice-2.ensures.items ∙ (λ i. counted i ++ digits i) in
    c.in_ok-extend_from_slice-3.ensures.items ∙ (λ i. told i ++ c.word_of-2.ensures i)
    ∙ append_assoc ((out ++ weight) ++ of) (decimal standing.sources) word ∙ append_assoc (out ++ weight) of (decimal standing.sources ++ word) ∙ append_assoc out weight (of ++ (decimal standing.sources ++ word))
