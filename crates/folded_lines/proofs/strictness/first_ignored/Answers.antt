use Rattle.std.proofs.Common.{◌≡◌, ℕ, List, [], drop, map, ap, arith, sym, ◌∙◌}
use Rattle.std.proofs.lemmas.List.{drop_all}
use Rattle.bstr.specs.Text.{without_terminator}
use Rattle.bstr.proofs.lemmas.LineLemmas.{lines-nil}
use Rattle.folded_lines.specs.Lines.{read_line}
use Rattle.folded_lines.specs.checked.Strictness.{first_ignored, lines_in}
use Rattle.folded_lines.proofs.strictness.first_ignored.Goals as goal

pub returns : goal.returns
returns c =
    let bytes = c.args.bytes.now in
    let none : lines_in (drop c.loop-position.position bytes) ≡ [] =
    ap lines_in (drop_all c.loop-position.position bytes (omega arith)) ∙ ap (λ (lines : List (List ℕ)). map read_line (map without_terminator lines)) lines-nil in
    sym (c.loop-position.invariant.same ∙ ap (first_ignored c.loop-position.taken) none)
