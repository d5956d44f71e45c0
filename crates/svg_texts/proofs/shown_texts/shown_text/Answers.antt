use Rattle.std.proofs.Common.{◌++◌, ap, sym, ◌∙◌, subst}
use Rattle.std.specs.Str.{IsUtf8}
use Rattle.svg_texts.specs.Shown.{shown}
use Rattle.svg_texts.proofs.Utf8.{shown-utf8}
use Rattle.svg_texts.proofs.shown_texts.shown_text.Goals as goal

pub unwrap-requires : goal.unwrap-requires
unwrap-requires c =
    let text = c.args.text.now in
    let bytes = c.in_ok-append_shown.ensures.ok ∙ ap (λ start. start ++ shown text) c.new-bytes.ensures.items in
    c.from_utf8.ensures.succeeds (subst IsUtf8 (sym bytes) (shown-utf8 text c.utf8.text))
