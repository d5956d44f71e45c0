use Rattle.serde_json.specs.Written.{compact_text}
use Rattle.page_texts.proofs.NoMarkup.{safe_has_no_markup, safe_has_no_separator}
use Rattle.page_texts.proofs.laws.no_character_ends_the_element.Goals as goal

pub returns-clause-markup : goal.returns-clause-markup
returns-clause-markup c = λ value. safe_has_no_markup (compact_text value)

pub returns-clause-separators : goal.returns-clause-separators
returns-clause-separators c = λ value. safe_has_no_separator (compact_text value)
