use Rattle.std.proofs.Common.{◌≡◌, [], false, map, take, codes, arith, ◌++◌, ◌∙◌, ap}
use Rattle.std.specs.Prelude.{nat_lt}
use Rattle.std.proofs.lemmas.List.{take_all}
use Rattle.std.proofs.lemmas.Result.{on_ok_weaker}
use Rattle.serde_json.specs.Written.{comma_if}
use Rattle.page_texts.specs.Page.{source_data}
use Rattle.page_texts.specs.Drawn.{source_of}
use Rattle.page_texts.specs.declared.pages.Source.{Source}
use Rattle.page_texts.specs.checked.Parts.{parts_text}
use Rattle.page_texts.specs.checked.SafeText.{values_text}
use Rattle.page_texts.proofs.PartLists.{values_text-next, items_text-items_of}
use Rattle.page_texts.proofs.PageTexts.{list_step, list_end}
use Rattle.page_texts.proofs.page_parts.push_sources.Goals as goal

abbrev blank : Source
blank = record { name = record { ref_ptr = (0, 0); now = [] }; type_name = record { ref_ptr = (0, 0); now = [] }; unit = record { ref_ptr = (0, 0); now = [] }; weight = 0 }

pub loop-i-preserved : goal.loop-i-preserved
loop-i-preserved c =
    let sources = c.args.sources.now in
    let more = values_text-next false (λ source. source_data (source_of source)) sources c.loop-i.i blank (omega arith) in
    list_step (parts_text c.push_literal.new.parts.items) _ (comma_if (nat_lt 0 c.loop-i.i)) _ _ (parts_text c.loop-i.parts.items) (parts_text c.push_literal-in-loop-i.new.parts.items) (parts_text c.push_source.new.parts.items)
    c.loop-i.invariant (c.in_ok-push_literal-2.ensures ∙ ap (λ t. parts_text c.loop-i.parts.items ++ t) c.comma_if.ensures) c.in_ok-push_source.ensures more

pub returns : goal.returns
returns c =
    let sources = c.args.sources.now in
    let all : take c.loop-i.i sources ≡ sources = take_all c.loop-i.i sources (omega arith) in
    let closed = items_text-items_of false (map (λ source. source_data (source_of source)) sources) in
    on_ok_weaker c.push_literal-2.result
    (λ last. list_end (parts_text c.args.parts.now.items) (codes ",\"sources\":[") _ _ (parts_text c.push_literal.new.parts.items) (parts_text c.loop-i.parts.items) (parts_text c.push_literal-2.new.parts.items)
    c.in_ok-push_literal.ensures (c.loop-i.invariant ∙ ap (λ xs. parts_text c.push_literal.new.parts.items ++ values_text false (map (λ source. source_data (source_of source)) xs)) all) last closed)
    c.push_literal-2.ensures
