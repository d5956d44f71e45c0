-- What a page says beside its drawings, and which pages have an order in them.
use Rattle.std.proofs.Common.{◌≡◌, ◌<◌, ◌+◌, ◌++◌, ◌∙◌, ◌∷◌, [], ℕ, List, map, length, codes, refl, ap, sym, arith}
use Rattle.std.specs.Prelude.{Option, None, slice_get}
use Rattle.std.specs.List.{flat_map, join_by, range_with_len}
use Rattle.std.proofs.lemmas.List.{map_push}
use Rattle.std.proofs.lemmas.List.FromFn.{map-range_with_len_more}
use Rattle.sample_tables.specs.declared.samples.Sample.{Sample}
use Rattle.stack_core.specs.Interleaving.{list_of}
use Rattle.merged_stacks.specs.Timeline.{total_weight}
use Rattle.page_texts.specs.Drawn.{source_of}
use Rattle.page_texts.specs.declared.pages.Source.{Source}
use Rattle.profile_messages.specs.declared.types.SampleType.{SampleType}
use Rattle.source_lists.specs.Types.{type_or_none}
use Rattle.command_line.specs.declared.plans.View.{View}
use Rattle.command_line.specs.declared.plans.View.TheVariants.{Fold, Graph, Chart, Pairs, PairBoxes, Top, Diff}
use Rattle.page_texts.specs.Document.{document_text}
use Rattle.source_views.specs.Pages.{PageHeading, snapshots_page}
use Rattle.source_views.specs.Texts.{IsOrderless}
use Rattle.flame_tool.specs.Pages.{default_title, headed_text, source_at, unit_or}
use Rattle.command_line.specs.declared.units.WeightUnit.{WeightUnit}
use Rattle.source_views.specs.Names.{source_name}

-- texts joined are their bytes joined
joined_later : {A : Type 0} (bytes : A → List ℕ) (separator : List ℕ) (texts : List A)
    → flat_map (λ text. separator ++ bytes text) texts ≡ flat_map (λ text. separator ++ text) (map bytes texts)
joined_later bytes separator [] = refl
joined_later bytes separator (text ∷ texts) = ap (λ later. (separator ++ bytes text) ++ later) (joined_later bytes separator texts)

pub joined_title : {A : Type 0} (bytes : A → List ℕ) (files : List A) → 0 < length files → join_by bytes (codes ", ") files ≡ default_title (map bytes files)
joined_title bytes [] some = absurd (omega arith)
joined_title bytes (file ∷ files) some = ap (λ later. bytes file ++ later) (joined_later bytes (codes ", ") files)

-- a source that is told by its parts
pub told_source : (source : Source) (asked : Option WeightUnit) (files : List (List ℕ)) (types : List SampleType) (lists : List (List Sample)) (at : ℕ)
    → source.name.now ≡ source_name files at → source.type_name.now ≡ (type_or_none (slice_get types at)).name → source.unit.now ≡ unit_or asked (type_or_none (slice_get types at)).unit → source.weight ≡ total_weight (list_of lists at)
    → source_of source ≡ source_at asked files types lists at
told_source source asked files types lists at named typed counted weighed = λ i. record {
  name = named i;
  type_name = typed i;
  unit = counted i;
  weight = weighed i;
}

pub told_more : (asked : Option WeightUnit) (files : List (List ℕ)) (types : List SampleType) (lists : List (List Sample)) (at : ℕ) (told more : List Source) (source : Source) → more ≡ told ++ source ∷ []
    → map source_of told ≡ map (source_at asked files types lists) (range_with_len 0 at) → source_of source ≡ source_at asked files types lists at
    → map source_of more ≡ map (source_at asked files types lists) (range_with_len 0 (at + 1))
told_more asked files types lists at told more source pushed so_far here =
    ap (map source_of) pushed ∙ map_push source_of told source ∙ (λ i. so_far i ++ here i ∷ []) ∙ sym (map-range_with_len_more (source_at asked files types lists) 0 at at (omega arith))

-- a page without snapshots is the same in whatever order the samples come
pub orderless_page : (heading : PageHeading) (view : View) (lists : List (List Sample)) (order : List ℕ) (every : Option ℕ) → IsOrderless view every → headed_text heading view lists [] None ≡ headed_text heading view lists order every
orderless_page heading Fold lists order every orderless = refl
orderless_page heading (Graph width) lists order every orderless = ap (λ moments. document_text (snapshots_page heading lists order moments)) (sym orderless)
orderless_page heading (Chart width) lists order every orderless = refl
orderless_page heading Pairs lists order every orderless = refl
orderless_page heading (PairBoxes width) lists order every orderless = refl
orderless_page heading (Top top) lists order every orderless = refl
orderless_page heading (Diff table) lists order every orderless = refl
