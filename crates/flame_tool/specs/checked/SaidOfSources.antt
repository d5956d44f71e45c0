-- What is said of a source.
use Rattle.std.specs.Prelude.{ℕ, List}
use Rattle.page_texts.specs.Page.{PageSource}
use Rattle.flame_tool.specs.declared.headings.Said.{Said}
use Rattle.flame_tool.specs.declared.headings.Said.TheVariants.{Unit, TypeName}

abbrev pub said_in : Said → PageSource → List ℕ
said_in Unit source = source.unit
said_in TypeName source = source.type_name
