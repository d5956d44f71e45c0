-- What a live run leaves on its output, and what that says of its streams.
use Rattle.std.specs.Prelude.{◌≡◌, ℕ, Bool, true, false, if◌then◌else◌, All, List, [], ◌∷◌, Option, None, Some, is_some, length, map, option_map, slice_get}
use Rattle.std.specs.List.{list_any}
use Rattle.std.specs.Io.KnownBytes.{Appends}
use Rattle.byte_io.specs.Pieces.{AppendsFront}
use Rattle.sample_tables.specs.declared.samples.Sample.{Sample}
use Rattle.stack_core.specs.Interleaving.{IsInterleaving, interleaved, list_of}
use Rattle.stack_core.specs.Prefixes.{IsPrefixOf}
use Rattle.stack_core.specs.Reading.{Rest}
use Rattle.folded_lines.specs.Reading.{read_folded}
use Rattle.folded_lines.specs.StrictReading.{strict_fault}
use Rattle.folded_lines.specs.StrictStreams.{read_strictly}
use Rattle.command_line.specs.declared.plans.Plan.{Plan}
use Rattle.source_lists.specs.Sources.{all_found}
use Rattle.source_views.specs.Texts.{view_text}
use Rattle.live_lines.specs.Frames.{frames_text}
use Rattle.live_lines.specs.Pages.{pages_text}
use Rattle.flame_tool.specs.Runs.{HasFault, IsClean, lists_of}

-- the bytes of the streams of paths, in order, or of the input where there is no path
abbrev pub known_texts : List (List ℕ) → Option (List ℕ) → (List ℕ → Option (List ℕ)) → Option (List (List ℕ))
known_texts [] input files = option_map (λ text. text ∷ []) input
known_texts (path ∷ paths) input files = all_found files (path ∷ paths)

-- the samples and the ending of a text, of which the first ignored line ends it where it is read strictly
abbrev pub read_text : Bool → List ℕ → Rest
read_text is_strict text = if is_strict then read_strictly text else read_folded text

abbrev pub read_texts : Bool → List (List ℕ) → List Rest
read_texts is_strict texts = map (read_text is_strict) texts

-- a text has a line that is ignored, no sample, or a fault
abbrev pub has_strict_text : List (List ℕ) → Bool
has_strict_text texts = list_any (λ text. is_some (strict_fault text)) texts

-- none of the texts has a fault, as they are read
abbrev pub AreFaultless : Bool → List (List ℕ) → Type 0
AreFaultless false texts = All (λ rest. IsClean rest.ending) (read_texts false texts)
AreFaultless true texts = has_strict_text texts ≡ false

-- one of them has
abbrev pub HasTextFault : Bool → List (List ℕ) → Type 0
HasTextFault false texts = HasFault (read_texts false texts)
HasTextFault true texts = has_strict_text texts ≡ true

-- the lines of the plan's snapshots and then that of the graph, of samples that come in an order
abbrev pub lines_of : Plan → List (List Sample) → List ℕ → List ℕ
lines_of plan lists order = view_text plan.view lists order plan.options.every

-- in their place a frame of a table for each snapshot, and the last table, of samples that come in an order
abbrev pub frames_of : Plan → List (List Sample) → List ℕ → List ℕ
frames_of plan lists order =
    elim plan.options.every [ None ↦ [] | Some every ↦ frames_text every (length lists) (interleaved order lists) ]

-- or pages, one for each snapshot, and that of all
abbrev pub pages_of : Plan → List (List Sample) → List ℕ → List ℕ
pages_of plan lists order =
    elim plan.options.every [ None ↦ [] | Some every ↦ pages_text every (interleaved order lists) ]

-- what is written: pages where the plan has a file for them, else lines, or a table on a terminal
abbrev pub live_texts : Bool → Plan → List (List Sample) → List ℕ → List ℕ
live_texts is_terminal plan = if is_some plan.pages then pages_of plan else (if is_terminal then frames_of plan else lines_of plan)

-- the output gained the text of all samples of the sources, in an order in which they may come
pub record ShowsAllOf (text : List (List Sample) → List ℕ → List ℕ) (old new : Option (List ℕ)) (rests : List Rest) : Type 0 where
  pub order : List ℕ
  pub ordered : IsInterleaving order (lists_of rests)
  pub gained : Appends old new (text (lists_of rests) order)

-- a list of each source, with the first of its samples
pub record AreFirst (rests : List Rest) (lists : List (List Sample)) : Type 0 where
  pub count : length lists ≡ length rests
  pub first : (source : ℕ) (rest : Rest) → slice_get rests source ≡ Some rest → IsPrefixOf (list_of lists source) rest.samples

-- the output gained a part from the front, or all, of the text of the first samples of each source
pub record ShowsFirstOf (text : List (List Sample) → List ℕ → List ℕ) (old new : Option (List ℕ)) (rests : List Rest) : Type 0 where
  pub lists : List (List Sample)
  pub are_first : AreFirst rests lists
  pub order : List ℕ
  pub ordered : IsInterleaving order lists
  pub gained : AppendsFront (text lists order) old new

-- the same of some samples of so many sources
pub record ShowsSomeOf (text : List (List Sample) → List ℕ → List ℕ) (old new : Option (List ℕ)) (count : ℕ) : Type 0 where
  pub lists : List (List Sample)
  pub as_many : length lists ≡ count
  pub order : List ℕ
  pub ordered : IsInterleaving order lists
  pub gained : AppendsFront (text lists order) old new
