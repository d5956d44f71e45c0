-- The frames of all locations as the code has them.
use Rattle.std.specs.Prelude.{◌≡◌, ℕ, List, [], ◌∷◌, ◌++◌, map, reverse, Option, Some, None, option_map, unwrap_or, is_some, string_bytes, ◌==◌, if◌then◌else◌}
use Rattle.std.specs.Option.{option_and_then}
use Rattle.std.specs.List.{slice_get}
use Rattle.std.specs.Borrow.{Bor}
use Rattle.run_options.specs.declared.choices.Naming.{Naming}
use Rattle.profile_messages.specs.declared.ids.Index.{Index}
use Rattle.profile_tables.specs.declared.functions.FunctionNames.{FunctionNames}
use Rattle.profile_tables.specs.declared.frames.Frame.{Frame}
use Rattle.profile_tables.specs.declared.frames.Frame.TheVariants.{Address, Function}
use Rattle.profile_messages.specs.declared.messages.Span.{Span}
use Rattle.profile_messages.specs.declared.messages.Line.{Line}
use Rattle.profile_tables.specs.declared.frames.Frames.{Frames}
use Rattle.profile_messages.specs.Records.{Location}
use Rattle.profile_messages.specs.Tables.{location_at}
use Rattle.profile_tables.specs.Naming.{address_frame, line_suffix}
use Rattle.profile_messages.specs.SeenIndex.{place_in}
use Rattle.profile_messages.specs.SeenProfile.{items_in}

-- ---- what the code keeps

-- the text of a frame, with these names
abbrev pub text_of : List (List ℕ) → Naming → Frame → List ℕ
text_of names naming (Address address) = address_frame address
text_of names naming (Function place line) = unwrap_or (slice_get names place) [] ++ line_suffix naming line

abbrev pub text_in : Frames → Frame → List ℕ
text_in frames frame = text_of (map string_bytes frames.names.items) frames.naming frame

-- the name at a place
abbrev pub name_in_place : Frames → ℕ → List ℕ
name_in_place frames place = unwrap_or (slice_get (map string_bytes frames.names.items) place) []

-- the frames at a span, leaf first
abbrev pub texts_in : Frames → Span → Option (List (List ℕ))
texts_in frames span = items_in (map (text_in frames) frames.all.items) span

-- the frames of a location id, root first
abbrev pub frames_at : Frames → ℕ → Option (List (List ℕ))
frames_at frames id =
    option_map reverse (option_and_then (texts_in frames) (option_and_then (slice_get frames.spans.items) (place_in frames.locations id)))

-- the frames of each location, root first
abbrev pub stacks_of : Frames → List (List (List ℕ))
stacks_of frames = map (λ span. reverse (unwrap_or (texts_in frames span) [])) frames.spans.items

-- the frames that are lent, leaf first
abbrev pub LendsFrames : Frames → ℕ → Option (Bor (List Frame)) → Type 0
LendsFrames frames id None = frames_at frames id ≡ None
LendsFrames frames id (Some lent) = frames_at frames id ≡ Some (reverse (map (text_in frames) lent.now))

-- each id that has a place has frames
pub record IsWhole (frames : Frames) : Type 0 where
  pub each : (id : ℕ) → is_some (place_in frames.locations id) ≡ is_some (frames_at frames id)

-- ---- what that stands for, where functions have these names

abbrev pub named_line : Naming → ℕ → ℕ → Option (List ℕ) → List ℕ
named_line naming address line None = address_frame address
named_line naming address line (Some name) = name ++ line_suffix naming line

abbrev pub frame_named : (ℕ → Option (List ℕ)) → Naming → ℕ → Line → List ℕ
frame_named name_at naming address line =
    named_line naming address line.line (if line.function_id == 0 then None else name_at line.function_id)

abbrev pub or_address : ℕ → List (List ℕ) → List (List ℕ)
or_address address [] = address_frame address ∷ []
or_address address (name ∷ names) = name ∷ names

-- the frames of lines at an address, leaf first
abbrev pub lines_named : (ℕ → Option (List ℕ)) → Naming → ℕ → List Line → List (List ℕ)
lines_named name_at naming address lines = or_address address (map (frame_named name_at naming address) lines)

-- the frames of a location, leaf first
abbrev pub location_named : (ℕ → Option (List ℕ)) → Naming → Location → List (List ℕ)
location_named name_at naming location = lines_named name_at naming location.address location.lines

-- the name of a function id, where functions have these places, and their names these
abbrev pub name_in : Index → List ℕ → List (List ℕ) → ℕ → Option (List ℕ)
name_in functions places names id =
    option_map (λ place. unwrap_or (slice_get names place) []) (option_and_then (slice_get places) (place_in functions id))

abbrev pub named_in : Index → FunctionNames → ℕ → Option (List ℕ)
named_in functions named id = name_in functions named.places.items (map string_bytes named.names.items) id

-- the frames of each location id
pub record AreFramesOf (name_at : ℕ → Option (List ℕ)) (naming : Naming) (locations : List Location) (frames : Frames) : Type 0 where
  pub each : (id : ℕ) → frames_at frames id ≡ option_map (λ location. reverse (location_named name_at naming location)) (location_at locations id)
