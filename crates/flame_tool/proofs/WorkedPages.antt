-- Worked examples of what a page says beside its drawings, computed on the definitions.
use Rattle.std.proofs.Common.{◌≡◌, ℕ, List, [], ◌∷◌, codes, false, refl, Some, None}
use Rattle.sample_tables.specs.declared.samples.Sample.{Sample}
use Rattle.command_line.specs.Plans.{default_plan}
use Rattle.page_texts.specs.Page.{PageSource}
use Rattle.profile_messages.specs.declared.types.SampleType.{SampleType}
use Rattle.command_line.specs.declared.plans.View.TheVariants.{Graph}
use Rattle.page_texts.specs.Document.{document_text}
use Rattle.source_views.specs.Pages.{PageHeading, graph_page}
use Rattle.flame_tool.specs.Pages.{asked_heading, default_title, headed_text, sources_of}

title_of_the_input : default_title [] ≡ codes "standard input"
title_of_the_input = refl

title_of_one_file : default_title (codes "a.pb" ∷ []) ≡ codes "a.pb"
title_of_one_file = refl

title_of_two_files : default_title (codes "a.pb" ∷ codes "b, c" ∷ []) ≡ codes "a.pb, b, c"
title_of_two_files = refl

abbrev weighing : ℕ → Sample
weighing weight = record { stack = codes "a" ∷ []; weight = weight }

abbrev named : List ℕ → ℕ → PageSource
named name weight = record { name = name; type_name = []; unit = []; weight = weight }

abbrev counting : SampleType
counting = record { name = codes "cpu"; unit = codes "ns" }

-- a source without a type has neither name nor unit
sources_of_two_files : sources_of None (codes "x" ∷ codes "y" ∷ []) (counting ∷ []) ((weighing 2 ∷ weighing 3 ∷ []) ∷ [] ∷ []) ≡ record { name = codes "x"; type_name = codes "cpu"; unit = codes "ns"; weight = 5 } ∷ named (codes "y") 0 ∷ []
sources_of_two_files = refl

source_of_the_input : sources_of None [] [] ((weighing 2 ∷ []) ∷ []) ≡ named (codes "-") 2 ∷ []
source_of_the_input = refl

-- a title that the words set is taken as it is
asked_title : (asked_heading default_plan (record { whole = 0; types = [] }) (record { title = Some (codes "t"); least = None; is_root_below = false; is_share = false }) []).title ≡ codes "t"
asked_title = refl

-- without snapshots a graph has the page of the graph alone, whatever the order
page_without_snapshots : (heading : PageHeading) (width : ℕ) (lists : List (List Sample)) (order : List ℕ) → headed_text heading (Graph width) lists order None ≡ document_text (graph_page heading lists)
page_without_snapshots heading width lists order = refl
