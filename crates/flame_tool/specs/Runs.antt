-- What a run leaves on its output, and what that says of its sources.
use Rattle.std.specs.Prelude.{◌≡◌, ◌≢◌, ℕ, List, [], Option, take, map, All, Any}
use Rattle.std.specs.Io.KnownBytes.{Appends, Keeps}
use Rattle.byte_io.specs.Pieces.{AppendsFront}
use Rattle.stack_core.specs.Interleaving.{IsInterleaving}
use Rattle.stack_core.specs.Reading.{Rest}
use Rattle.sample_tables.specs.declared.samples.Sample.{Sample}
use Rattle.stack_core.specs.declared.endings.SourceEnd.{SourceEnd}
use Rattle.stack_core.specs.declared.endings.SourceEnd.TheVariants as ends
use Rattle.folded_lines.specs.Reading.{read_folded}
use Rattle.command_line.specs.declared.plans.Form.{Form}
use Rattle.command_line.specs.declared.plans.Form.TheVariants as form
use Rattle.command_line.specs.declared.plans.Plan.{Plan}
use Rattle.command_line.specs.declared.plans.View.{View}
use Rattle.command_line.specs.declared.plans.View.TheVariants.{Fold, Graph, Chart, Pairs, PairBoxes, Top, Diff}
use Rattle.view_texts.specs.Fold.{fold_text}
use Rattle.flame_tool.specs.Pages.{shown_text}
use Rattle.source_views.specs.Texts.{grown_names}
use Rattle.run_options.specs.declared.formats.Format.{Format}
use Rattle.flame_tool.specs.KnownFacts.{facts_of, wanted_rests}

-- all of the source was read
abbrev pub IsClean : SourceEnd → Type 0
IsClean (ends.Clean ignored) = Unit {0}
IsClean (ends.Fault fault) = ⊥
IsClean (ends.Stopped after) = ⊥

-- the source was read up to a fault
abbrev pub IsFault : SourceEnd → Type 0
IsFault (ends.Clean ignored) = ⊥
IsFault (ends.Fault fault) = Unit {0}
IsFault (ends.Stopped after) = ⊥

-- the fold text of the samples of folded bytes
abbrev pub text_of : List ℕ → List ℕ
text_of bytes = fold_text (read_folded bytes).samples

-- the output gained a part of the fold text from its front, or nothing
abbrev pub GainsFront : List ℕ → Option (List ℕ) → Option (List ℕ) → Type 0
GainsFront bytes old new = (count : ℕ) × Appends old new (take count (text_of bytes))

-- the samples of sources
abbrev pub lists_of : List Rest → List (List Sample)
lists_of rests = map (λ rest. rest.samples) rests

abbrev pub wanted_lists : Plan → List (Format × List ℕ) → List (List Sample)
wanted_lists plan sources = lists_of (wanted_rests plan sources)

-- samples are shown, and not what a profile says of them
abbrev pub ShowsSamples : Form → Type 0
ShowsSamples form.Text = Unit {0}
ShowsSamples (form.Page page) = Unit {0}
ShowsSamples (form.Picture picture) = Unit {0}
ShowsSamples form.Types = ⊥
ShowsSamples form.Live = Unit {0}
ShowsSamples (form.Callers table) = Unit {0}
ShowsSamples (form.Callees table) = Unit {0}
ShowsSamples (form.Peek table) = Unit {0}

-- a text that the plan asks for of its sources: all of each was read, and it is the view of their samples, its page or its picture, in
-- an order in which they may come
pub record IsTextOf (plan : Plan) (sources : List (Format × List ℕ)) (text : List ℕ) : Type 0 where
  pub clean : All (λ rest. IsClean rest.ending) (wanted_rests plan sources)
  pub order : List ℕ
  pub ordered : IsInterleaving order (wanted_lists plan sources)
  pub text_is : text ≡ shown_text plan (facts_of plan.options sources) (wanted_lists plan sources) order plan.options.every

-- the output gained what the plan asks for, if that shows samples
abbrev pub Shows : Plan → Option (List ℕ) → Option (List ℕ) → List (Format × List ℕ) → Type 0
Shows plan old new sources = ShowsSamples plan.form → (text : List ℕ) × IsTextOf plan sources text × Appends old new text

-- the output gained a part of that from its front, or nothing
abbrev pub ShowsFront : Plan → Option (List ℕ) → Option (List ℕ) → List (Format × List ℕ) → Type 0
ShowsFront plan old new sources = ShowsSamples plan.form → (text : List ℕ) × IsTextOf plan sources text × AppendsFront text old new

-- there are functions whose share grew by more than the plan's limit, or there are none
abbrev pub HasGrown : Plan → List (Format × List ℕ) → Type 0
HasGrown plan sources = grown_names plan.view (wanted_lists plan sources) ≢ []

abbrev pub HasNotGrown : Plan → List (Format × List ℕ) → Type 0
HasNotGrown plan sources = ShowsSamples plan.form → grown_names plan.view (wanted_lists plan sources) ≡ []

-- the text of the view says nothing but what the samples are
abbrev pub IsOfSamples : View → Type 0
IsOfSamples Fold = Unit {0}
IsOfSamples (Graph width) = Unit {0}
IsOfSamples (Chart width) = Unit {0}
IsOfSamples Pairs = Unit {0}
IsOfSamples (PairBoxes width) = Unit {0}
IsOfSamples (Top top) = ⊥
IsOfSamples (Diff table) = ⊥

-- a source was read up to a fault
abbrev pub HasFault : List Rest → Type 0
HasFault rests = Any (λ rest. IsFault rest.ending) rests

-- the run failed and left the output alone: nothing was written, and no call of it failed
abbrev pub FailsUntouched : ℕ → Option (List ℕ) → Option (List ℕ) → ℕ → ℕ → Type 0
FailsUntouched status old new before after = (status ≢ 0) × Keeps old new × (after ≡ before)
