-- The document that a browser opens.
use Rattle.std.specs.Prelude.{ℕ, List, ◌++◌}
use Rattle.page_source.specs.Source.{page_head, page_tail}
use Rattle.page_texts.specs.Page.{Page, page_text}

-- the constant head, the data, and the constant tail
abbrev pub document_text : Page → List ℕ
document_text page = page_head ++ (page_text page ++ page_tail)
