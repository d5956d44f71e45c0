use Rattle.std.proofs.Common.{◌≡◌, ℕ, ◌+◌, List, ◌∷◌, Some, cond, map, take, drop, drop-drop, length-drop, sym, ap, ◌∙◌, arith}
use Rattle.bstr.specs.Text.{line_len, without_terminator}
use Rattle.folded_lines.specs.Lines.{read_line}
use Rattle.folded_lines.specs.Reading.{is_ignored}
use Rattle.folded_lines.specs.checked.Strictness.{first_ignored, lines_in}
use Rattle.folded_lines.proofs.ScanLemmas.{left-whole, line_len-fits, text_lines-step}
use Rattle.folded_lines.proofs.strictness.look_at.Goals as goal

pub overflow_add-result : goal.overflow_add-result
overflow_add-result c =
    let bytes = c.args.bytes.now in
    let fits = line_len-fits bytes c.args.position c.requires in
    let len = c.first_line-len.ensures.len ∙ ap line_len (left-whole bytes c.args.position) in
    omega arith

pub returns-clause-first : goal.returns-clause-first
returns-clause-first c = λ before.
    let bytes = c.args.bytes.now in
    let at = c.args.position in
    let left = drop at bytes in
    let whole = left-whole bytes at in
    let line : List ℕ = without_terminator (take (line_len left) left) in
    let len : c.first_line-len.result.1 ≡ line_len left = c.first_line-len.ensures.len ∙ ap line_len whole in
    let text : c.first_line-len.result.0.now ≡ line = c.first_line-len.ensures.text ∙ ap (λ (l : List ℕ). without_terminator (take (line_len l) l)) whole in
    let step : lines_in left ≡ read_line line ∷ lines_in (drop (line_len left) left) = ap (map read_line) (text_lines-step left (omega (arith, length-drop at bytes, c.requires))) in
    let rest : drop (line_len left) left ≡ drop (at + c.first_line-len.result.1) bytes = drop-drop (line_len left) at bytes ∙ ap (λ n. drop (at + n) bytes) (sym len) in
    let ignored : is_ignored (read_line line) ≡ c.has_no_count.result = sym (c.has_no_count.ensures ∙ ap (λ (l : List ℕ). is_ignored (read_line l)) text) in
    ap (first_ignored before) step ∙ (λ i. cond (ignored i) (Some (before + 1)) (first_ignored (before + 1) (lines_in (rest i))))

pub returns-clause-nearer : goal.returns-clause-nearer
returns-clause-nearer c =
    let bytes = c.args.bytes.now in
    let fits = line_len-fits bytes c.args.position c.requires in
    let len = c.first_line-len.ensures.len ∙ ap line_len (left-whole bytes c.args.position) in
    omega arith

pub returns-clause-within : goal.returns-clause-within
returns-clause-within c =
    let bytes = c.args.bytes.now in
    let fits = line_len-fits bytes c.args.position c.requires in
    let len = c.first_line-len.ensures.len ∙ ap line_len (left-whole bytes c.args.position) in
    omega arith
