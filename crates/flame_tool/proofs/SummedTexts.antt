-- The text of a plan that sees sums alone is the same for samples that weigh alike.
use Rattle.std.proofs.Common.{◌≡◌, ℕ, true, List, [], ◌∷◌, map, Option, None, Some, refl, sym, ap, ◌∙◌, true≢false}
use Rattle.std.specs.Prelude.{codes, not, slice_get, unwrap_or}
use Rattle.std.specs.List.{AllZip, range_with_len}
use Rattle.std.proofs.lemmas.Bool.{and_parts}
use Rattle.std.proofs.lemmas.List.Elements.{length_all_zip}
use Rattle.sample_tables.specs.declared.samples.Sample.{Sample}
use Rattle.stack_core.specs.Interleaving.{list_of}
use Rattle.merged_stacks.specs.Timeline.{total_weight}
use Rattle.merging.specs.Sums.{all_samples}
use Rattle.flame_layout.proofs.Sums.{SameSums, same_graph}
use Rattle.function_sums.specs.Told.{Told, nothing_told}
use Rattle.function_sums.specs.declared.call_sides.CallSide.TheVariants.{Callers, Callees}
use Rattle.command_line.specs.declared.plans.Form.{Form}
use Rattle.command_line.specs.declared.plans.Form.TheVariants as form
use Rattle.command_line.specs.declared.plans.PageForm.{PageForm}
use Rattle.command_line.specs.declared.plans.PictureForm.{PictureForm}
use Rattle.command_line.specs.declared.plans.Plan.{Plan}
use Rattle.command_line.specs.declared.plans.View.{View}
use Rattle.command_line.specs.declared.plans.View.TheVariants.{Fold, Graph, Chart, Pairs, PairBoxes, Top, Diff}
use Rattle.page_texts.specs.Document.{document_text}
use Rattle.source_lists.specs.Types.{type_or_none}
use Rattle.source_views.specs.Names.{source_name}
use Rattle.source_views.specs.Pages.{PageHeading, compared_drawing, least_of, page_with, plain_drawing}
use Rattle.source_views.specs.Texts.{growth_line, limit_line, told_text}
use Rattle.svg_texts.specs.Svg.{compared_svg, plain_svg}
use Rattle.flame_tool.specs.Facts.{told_whole}
use Rattle.flame_tool.specs.Pages.{asked_frame, asked_heading, asked_sources, default_title, headed_text, shown_text, source_at, text_in, told_in, unit_or}
use Rattle.flame_tool.specs.Pictures.{PictureFrame, common_unit, compared_in, framed_text, picture_in, types_with_weight, units_with_weight}
use Rattle.flame_tool.specs.checked.SummedPlans.{is_summed, is_summed_view}
use Rattle.source_lists.specs.Summing.{WeighAlike}
use Rattle.flame_tool.specs.declared.run_facts.RunFacts.{RunFacts}
use Rattle.flame_tool.proofs.AlikeSums.{alike_all, alike_at, alike_sums}
use Rattle.flame_tool.proofs.SummedViews.{boxes_are, calls_is, diff_is, fold_is, graph_is, grown_is, pair_boxes_is, pairs_is, peek_is, top_is, weight_is}

module _ (found lists : List (List Sample)) (alike : AllZip WeighAlike found lists) where
  all : SameSums (all_samples found) (all_samples lists)
  all = alike_sums (all_samples found) (all_samples lists) (alike_all found lists alike)

  at : (place : ℕ) → SameSums (list_of found place) (list_of lists place)
  at place = alike_sums (list_of found place) (list_of lists place) (alike_at found lists alike place)

  all_weight : total_weight (all_samples found) ≡ total_weight (all_samples lists)
  all_weight = weight_is (all_samples found) (all_samples lists) all

  weight_at : (place : ℕ) → total_weight (list_of found place) ≡ total_weight (list_of lists place)
  weight_at place = weight_is (list_of found place) (list_of lists place) (at place)

  -- ---- texts

  view_alike : (told : Told) (view : View) (every : Option ℕ) (order other : List ℕ) → is_summed_view view every ≡ true → told_text told view found order every ≡ told_text told view lists other every
  view_alike told Fold every order other summed = fold_is (all_samples found) (all_samples lists) all
  view_alike told (Graph width) None order other summed = graph_is (all_samples found) (all_samples lists) all width
  view_alike told (Graph width) (Some every) order other summed = absurd (true≢false (sym summed))
  view_alike told (Chart width) every order other summed = absurd (true≢false (sym summed))
  view_alike told Pairs every order other summed = pairs_is (list_of found 0) (list_of found 1) (list_of lists 0) (list_of lists 1) (at 0) (at 1)
  view_alike told (PairBoxes width) every order other summed = pair_boxes_is (list_of found 0) (list_of found 1) (list_of lists 0) (list_of lists 1) (at 0) (at 1) width
  view_alike told (Top top) every order other summed = top_is (all_samples found) (all_samples lists) all told top
  view_alike told (Diff diff) every order other summed = diff_is (list_of found 0) (list_of found 1) (list_of lists 0) (list_of lists 1) (at 0) (at 1) told diff

  pub alike_growth : (view : View) → growth_line view found ≡ growth_line view lists
  alike_growth Fold = refl
  alike_growth (Graph width) = refl
  alike_growth (Chart width) = refl
  alike_growth Pairs = refl
  alike_growth (PairBoxes width) = refl
  alike_growth (Top top) = refl
  alike_growth (Diff diff) = ap (limit_line diff.fail_over) (grown_is (list_of found 0) (list_of found 1) (list_of lists 0) (list_of lists 1) (at 0) (at 1) diff.fail_over diff)

  -- ---- pages

  drawing_is : (least : Option ℕ) (one other : ℕ) → compared_drawing least (list_of found one) (list_of found other) ≡ compared_drawing least (list_of lists one) (list_of lists other)
  drawing_is least one other = λ i. record {
    moment = None;
    is_compared = true;
    least = least_of least (weight_at other i);
    total = weight_at other i;
    boxes = map (λ compared. record { span = compared.span; other = compared.before }) (boxes_are (list_of found one) (list_of found other) (list_of lists one) (list_of lists other) (at one) (at other) i);
  }

  headed_alike : (heading : PageHeading) (view : View) (every : Option ℕ) (order other : List ℕ) → is_summed_view view every ≡ true → headed_text heading view found order every ≡ headed_text heading view lists other every
  headed_alike heading Fold every order other summed = view_alike nothing_told Fold None [] [] refl
  headed_alike heading (Graph width) None order other summed =
      λ i. document_text (page_with heading (codes "graph") (plain_drawing heading.least None (all_weight i) (same_graph (all_samples found) (all_samples lists) all i) ∷ []))
  headed_alike heading (Graph width) (Some every) order other summed = absurd (true≢false (sym summed))
  headed_alike heading (Chart width) every order other summed = absurd (true≢false (sym summed))
  headed_alike heading Pairs every order other summed = view_alike nothing_told Pairs None [] [] refl
  headed_alike heading (PairBoxes width) every order other summed =
      λ i. document_text (page_with heading (codes "compare") (drawing_is heading.least 1 0 i ∷ drawing_is heading.least 0 1 i ∷ []))
  headed_alike heading (Top top) every order other summed = view_alike nothing_told (Top top) None [] [] refl
  headed_alike heading (Diff diff) every order other summed = view_alike nothing_told (Diff diff) None [] [] refl

  -- ---- pictures

  framed_alike : (frame : PictureFrame) (view : View) (every : Option ℕ) → is_summed_view view every ≡ true → framed_text frame view found ≡ framed_text frame view lists
  framed_alike frame Fold every summed = view_alike nothing_told Fold None [] [] refl
  framed_alike frame (Graph width) every summed = λ i. plain_svg (picture_in frame width (all_weight i)) (same_graph (all_samples found) (all_samples lists) all i)
  framed_alike frame (Chart width) every summed = absurd (true≢false (sym summed))
  framed_alike frame Pairs every summed = view_alike nothing_told Pairs None [] [] refl
  framed_alike frame (PairBoxes width) every summed =
      λ i. compared_svg (compared_in frame width (weight_at 0 i) (weight_at 1 i)) (boxes_are (list_of found 0) (list_of found 1) (list_of lists 0) (list_of lists 1) (at 0) (at 1) i)
  framed_alike frame (Top top) every summed = view_alike nothing_told (Top top) None [] [] refl
  framed_alike frame (Diff diff) every summed = view_alike nothing_told (Diff diff) None [] [] refl

  -- ---- what is told beside

  module _ (plan : Plan) (facts : RunFacts) where
    sources_are : asked_sources plan facts found ≡ asked_sources plan facts lists
    sources_are = λ i. map (source i) (range_with_len 0 (length_all_zip WeighAlike found lists alike i))
      where
        source : source_at plan.unit plan.files facts.types found ≡ source_at plan.unit plan.files facts.types lists
        source = λ i place. record {
          name = source_name plan.files place;
          type_name = (type_or_none (slice_get facts.types place)).name;
          unit = unit_or plan.unit (type_or_none (slice_get facts.types place)).unit;
          weight = weight_at place i;
        }

    heading_is : (page : PageForm) → asked_heading plan facts page found ≡ asked_heading plan facts page lists
    heading_is page = λ i. record {
      title = unwrap_or page.title (default_title plan.files);
      sources = sources_are i;
      least = page.least;
      whole = facts.whole;
      is_root_below = page.is_root_below;
      is_share = page.is_share;
    }

    frame_is : (picture : PictureForm) → asked_frame plan facts picture found ≡ asked_frame plan facts picture lists
    frame_is picture = λ i. record {
      title = unwrap_or picture.title (default_title plan.files);
      unit = common_unit (units_with_weight (sources_are i));
      is_root_below = picture.is_root_below;
      is_share = picture.is_share;
    }

    told_is : told_in plan facts found ≡ told_in plan facts lists
    told_is = λ i. record {
      whole = told_whole plan facts;
      type_name = common_unit (types_with_weight (sources_are i));
      unit = common_unit (units_with_weight (sources_are i));
    }

    -- ---- all forms

    form_alike : (shown : Form) (every : Option ℕ) (order other : List ℕ) → is_summed_view plan.view every ≡ true → text_in shown plan facts found order every ≡ text_in shown plan facts lists other every
    form_alike form.Text every order other summed = ap (λ told. told_text told plan.view found order every) told_is ∙ view_alike (told_in plan facts lists) plan.view every order other summed
    form_alike (form.Page page) every order other summed =
        ap (λ heading. headed_text heading plan.view found order every) (heading_is page) ∙ headed_alike (asked_heading plan facts page lists) plan.view every order other summed
    form_alike (form.Picture picture) every order other summed =
        ap (λ frame. framed_text frame plan.view found) (frame_is picture) ∙ framed_alike (asked_frame plan facts picture lists) plan.view every summed
    form_alike form.Types every order other summed = ap (λ told. told_text told plan.view found order every) told_is ∙ view_alike (told_in plan facts lists) plan.view every order other summed
    form_alike form.Live every order other summed = ap (λ told. told_text told plan.view found order every) told_is ∙ view_alike (told_in plan facts lists) plan.view every order other summed
    form_alike (form.Callers table) every order other summed = λ i. calls_is (all_samples found) (all_samples lists) all (told_is i) Callers table i
    form_alike (form.Callees table) every order other summed = λ i. calls_is (all_samples found) (all_samples lists) all (told_is i) Callees table i
    form_alike (form.Peek table) every order other summed = λ i. peek_is (all_samples found) (all_samples lists) all (told_is i) table i

  pub alike_text : (plan : Plan) (facts : RunFacts) (order other : List ℕ) → is_summed plan ≡ true → shown_text plan facts found order plan.options.every ≡ shown_text plan facts lists other plan.options.every
  alike_text plan facts order other summed =
      form_alike plan facts plan.form plan.options.every order other (and_parts (not plan.is_strict) (is_summed_view plan.view plan.options.every) summed).1
