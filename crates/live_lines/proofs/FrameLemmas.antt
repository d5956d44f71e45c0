-- Frames of the functions of samples, and pages.
use Rattle.std.proofs.Common.{◌≡◌, ℕ, List, true, ap, arith, length, refl, sym}
use Rattle.std.proofs.lemmas.List.{take_all}
use Rattle.sample_tables.specs.declared.samples.Sample.{Sample}
use Rattle.function_sums.specs.FunctionList.{functions_of}
use Rattle.function_sums.specs.FunctionSums.{AreFunctionSums}
use Rattle.function_sums.specs.declared.sums.FunctionSum.{FunctionSum}
use Rattle.function_sums.proofs.FunctionList.{listed_alone}
use Rattle.run_options.specs.declared.orders.FunctionOrder.TheVariants.{Own}
use Rattle.page_texts.specs.Document.{document_text}
use Rattle.source_views.specs.Pages.{growing_page}
use Rattle.merging.specs.Snapshots.{first_samples, samples_of_pairs}
use Rattle.live_lines.specs.Lines.{line_now}
use Rattle.live_lines.specs.checked.Merges.{has_more}
use Rattle.live_lines.specs.declared.form.LiveForm.TheVariants.{Pages}
use Rattle.live_lines.specs.declared.merge.LiveLine.{LiveLine}
use Rattle.live_lines.specs.declared.merge.LiveLine.TheVariants.{Graph, Snapshot}

-- there are as many functions
pub as_many : (samples : List Sample) (sums : List FunctionSum) → AreFunctionSums Own samples sums → length sums ≡ length (functions_of Own samples)
as_many samples sums are = ap length (listed_alone Own samples sums are)

-- the first of all are all
pub all_first : (pairs : List (ℕ × Sample)) → first_samples pairs (length pairs) ≡ samples_of_pairs pairs
all_first pairs = ap samples_of_pairs (take_all (length pairs) pairs (omega arith))

-- the page of all, as of a moment or as of the end
pub page_now : (line : LiveLine) (sources width : ℕ) (pairs : List (ℕ × Sample)) → document_text (growing_page (has_more line) (samples_of_pairs pairs)) ≡ line_now Pages line sources width pairs
page_now Snapshot sources width pairs = ap (λ samples. document_text (growing_page true samples)) (sym (all_first pairs))
page_now Graph sources width pairs = refl
