-- The first fault of a file, stage by stage, and the tables of one without.
use Rattle.std.proofs.Common.{◌≡◌, [], ◌∷◌, ℕ, List, length, Option, Some, None, Bool, true, false, cond, refl, sym, ◌∙◌, ap, subst, map, reverse}
use Rattle.std.specs.Prelude.{option_map, unwrap_or, string_bytes, ◌==◌}
use Rattle.std.specs.Option.{option_and_then}
use Rattle.std.specs.List.{slice_get}
use Rattle.std.proofs.lemmas.Option.{slice_get-map}
use Rattle.run_options.specs.declared.choices.Pick.{Pick}
use Rattle.run_options.specs.declared.choices.Naming.{Naming}
use Rattle.profile_messages.specs.declared.ids.Index.{Index}
use Rattle.profile_messages.specs.declared.messages.Function.{Function}
use Rattle.profile_messages.specs.declared.messages.Line.{Line}
use Rattle.profile_messages.specs.declared.profile.Profile.{Profile}
use Rattle.profile_messages.specs.Message.{Content}
use Rattle.profile_messages.specs.Records.{Location, function_id}
use Rattle.profile_messages.specs.Tables.{function_at, location_at, functions_of, strings_of, sample_types_of}
use Rattle.profile_messages.specs.Choosing.{chosen_value}
use Rattle.profile_messages.specs.SeenProfile.{texts_of, seen_locations, IsProfileOf}
use Rattle.profile_messages.specs.SeenIndex.{place_in, entry_at, IsIndexOf}
use Rattle.profile_messages.proofs.ItemLemmas.{referred-or}
use Rattle.profile_tables.specs.declared.frames.Frames.{Frames}
use Rattle.profile_tables.specs.declared.functions.FunctionNames.{FunctionNames}
use Rattle.profile_tables.specs.Naming.{function_name, name_of_line, frame_name, frames_of_lines, frames_of_location, frames_of}
use Rattle.profile_tables.specs.Samples.{SampleTables, tables_of}
use Rattle.profile_tables.specs.checked.Frames.{frames_at, named_line, frame_named, or_address, location_named, named_in, AreFramesOf}

-- ---- the names of frames

named-at : (strings names : List (List ℕ)) (places : List ℕ) (table : List Function) (o : Option ℕ) → map (slice_get names) places ≡ map (λ function. Some (function_name strings function)) table → option_map (λ place. unwrap_or (slice_get names place) []) (option_and_then (slice_get places) o) ≡ option_map (function_name strings) (entry_at table o)
named-at strings names places table None same = refl
named-at strings names places table (Some k) same =
    sym (slice_get-map (λ place. unwrap_or (slice_get names place) []) places k)
    ∙ ap (λ (list : List (List ℕ)). slice_get list k) (referred-or (slice_get names) (function_name strings) [] places table same)
    ∙ slice_get-map (function_name strings) table k

-- each function id has its function's name
named-is : (strings : List (List ℕ)) (table : List Function) (index : Index) (named : FunctionNames) → IsIndexOf function_id table index → map (slice_get (map string_bytes named.names.items)) named.places.items ≡ map (λ function. Some (function_name strings function)) table → named_in index named ≡ (λ id. option_map (function_name strings) (function_at table id))
named-is strings table index named is same = λ i id.
    (named-at strings (map string_bytes named.names.items) named.places.items table (place_in index id) same
    ∙ ap (option_map (function_name strings)) (is.each id)) i

named-line : (strings : List (List ℕ)) (naming : Naming) (address line : ℕ) (b : Bool) (o : Option Function) → named_line naming address line (cond b None (option_map (function_name strings) o)) ≡ name_of_line strings naming address line (cond b None o)
named-line strings naming address line true o = refl
named-line strings naming address line false None = refl
named-line strings naming address line false (Some function) = refl

named-frame : (strings : List (List ℕ)) (known : ℕ → Option Function) (naming : Naming) (address : ℕ) → frame_named (λ id. option_map (function_name strings) (known id)) naming address ≡ frame_name strings known naming address
named-frame strings known naming address = λ i line.
    named-line strings naming address line.line (line.function_id == 0) (known line.function_id) i

named-lines : (strings : List (List ℕ)) (known : ℕ → Option Function) (naming : Naming) (address : ℕ) (lines : List Line) → reverse (or_address address (map (frame_named (λ id. option_map (function_name strings) (known id)) naming address) lines)) ≡ frames_of_lines strings known naming address lines
named-lines strings known naming address [] = refl
named-lines strings known naming address (line ∷ lines) =
    ap (λ (name : Line → List ℕ). reverse (map name (line ∷ lines))) (named-frame strings known naming address)

named-location : (strings : List (List ℕ)) (known : ℕ → Option Function) (naming : Naming) → (λ (location : Location). reverse (location_named (λ id. option_map (function_name strings) (known id)) naming location)) ≡ frames_of_location strings known naming
named-location strings known naming = λ i location. named-lines strings known naming location.address location.lines i

pub frames_are : (file : List ℕ) (naming : Naming) (profile : Profile) (strings : List (List ℕ)) (functions : List Function) (index : Index) (named : FunctionNames) (frames : Frames) → IsProfileOf file profile → strings ≡ texts_of profile.strings.items → functions ≡ profile.functions.items → IsIndexOf function_id profile.functions.items index → map (slice_get (map string_bytes named.names.items)) named.places.items ≡ map (λ function. Some (function_name strings function)) functions → AreFramesOf (named_in index named) naming (seen_locations profile) frames → (id : ℕ) → frames_at frames id ≡ frames_of file naming id
frames_are file naming profile strings functions index named frames profile_is strings_are functions_are indexed named_are are id =
    let here : IsIndexOf function_id functions index = subst (λ (table : List Function). IsIndexOf function_id table index) (sym functions_are) indexed in
    are.each id
    ∙ ap (λ (name_at : ℕ → Option (List ℕ)). option_map (λ location. reverse (location_named name_at naming location)) (location_at (seen_locations profile) id)) (named-is strings functions index named here named_are)
    ∙ ap (λ (frames_at' : Location → List (List ℕ)). option_map frames_at' (location_at (seen_locations profile) id)) (named-location strings (function_at functions) naming)
    ∙ ap (λ texts. option_map (frames_of_location texts (function_at functions) naming) (location_at (seen_locations profile) id))
    (strings_are ∙ ap (λ (texts : List Content). map (λ (text : Content). text.bytes) texts) profile_is.strings)
    ∙ ap (λ table. option_map (frames_of_location (strings_of file) (function_at table) naming) (location_at (seen_locations profile) id)) (functions_are ∙ profile_is.functions)
    ∙ ap (λ table. option_map (frames_of_location (strings_of file) (function_at (functions_of file)) naming) (location_at table id)) profile_is.locations

pub tables_are : (file : List ℕ) (pick : Pick) (naming : Naming) (n : ℕ) (chosen : Option ℕ) (frames : ℕ → Option (List (List ℕ))) → n ≡ length (sample_types_of file) → chosen ≡ chosen_value file pick → ((id : ℕ) → frames id ≡ frames_of file naming id) → (let tables : SampleTables = record { sample_types = n; chosen = chosen; frames = frames } in tables) ≡ tables_of file pick naming
tables_are file pick naming n chosen frames n_is chosen_is frames_are = λ i. record { sample_types = n_is i; chosen = chosen_is i; frames = λ id. frames_are id i }
