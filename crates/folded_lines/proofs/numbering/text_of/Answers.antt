use Rattle.std.proofs.Common.{◌≡◌, ap, ◌∙◌, rules}
use Rattle.std.specs.String.{string_bytes}
use Rattle.folded_lines.specs.Lines.{lossy_text, names_of}
use Rattle.folded_lines.specs.checked.Cutting.{without_trailing_semicolons}
use Rattle.folded_lines.proofs.KnownStackLemmas.{names_of-text}
use Rattle.folded_lines.proofs.numbering.text_of.Goals as goal

pub returns-in-Owned : goal.returns-in-Owned
returns-in-Owned c =
    let head = c.args.head.now in
    let text : string_bytes c.in-Owned.text ≡ lossy_text (without_trailing_semicolons head) = search (rules, c.in_ok-to_str_lossy.ensures.text) in
    ap names_of text ∙ names_of-text head
