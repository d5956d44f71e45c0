-- The constant parts of a page, which are made of the files in page/.
use Rattle.std.specs.Prelude.{ℕ, List}
use Rattle.std.specs.List.{flat_map}
use Rattle.page_source.specs.declared.order.TheConstants.{HEAD, TAIL}

-- what stands before the data: texts, one after another
unfoldable pub page_head : List ℕ
page_head = flat_map (λ text. text.now) HEAD

-- what stands behind the data: texts, one after another
unfoldable pub page_tail : List ℕ
page_tail = flat_map (λ text. text.now) TAIL
