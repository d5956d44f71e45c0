use Rattle.std.proofs.Common.{refl}
use Rattle.serde_json.specs.Written.{compact_text}
use Rattle.page_texts.specs.Page.{page_text, page_value}
use Rattle.page_texts.proofs.NoMarkup.{safe_has_no_markup, safe_has_no_separator}
use Rattle.page_texts.proofs.laws.markup_is_constant.Goals as goal

pub returns : goal.returns
unfolding page_text
returns c = λ page. (page_text page, refl, safe_has_no_markup (compact_text (page_value page)), safe_has_no_separator (compact_text (page_value page)))
