-- The first fault of a file, from what is found of its parts.
use Rattle.std.proofs.Common.{◌≡◌, [], ◌∷◌, ◌++◌, ℕ, List, None, false, cond, refl, sym, ◌∙◌, ap, subst, map, append_assoc}
use Rattle.std.specs.Prelude.{is_some, flat_map}
use Rattle.stack_core.specs.declared.endings.ReadFault.{ReadFault}
use Rattle.stack_core.specs.declared.endings.ReadKind.TheVariants.{Compressed}
use Rattle.run_options.specs.declared.choices.Pick.{Pick}
use Rattle.profile_messages.specs.declared.faults.TableFault.{TableFault}
use Rattle.profile_messages.specs.declared.faults.TableFault.TheVariants.{Read, OutOfMemory}
use Rattle.profile_messages.specs.declared.ids.Index.{Index}
use Rattle.profile_messages.specs.declared.messages.PlacedNumber.{PlacedNumber}
use Rattle.profile_messages.specs.declared.messages.Function.{Function}
use Rattle.profile_messages.specs.declared.messages.Line.{Line}
use Rattle.profile_messages.specs.declared.messages.Location.{Location as CodeLocation}
use Rattle.profile_messages.specs.declared.profile.Profile.{Profile}
use Rattle.profile_messages.specs.Message.{contents, first}
use Rattle.profile_messages.specs.Records.{Location, function_id, location_id}
use Rattle.profile_messages.specs.Shapes.{fault_at, field_faults}
use Rattle.profile_messages.specs.Tables.{function_at, is_function, id_faults, string_zero_faults, string_faults, location_faults, functions_of, locations_of}
use Rattle.profile_messages.specs.Choosing.{type_faults}
use Rattle.profile_messages.specs.FileFaults.{is_gzip, early_faults, table_faults, file_faults}
use Rattle.profile_messages.specs.Faults.{IsFirstOf}
use Rattle.profile_messages.specs.SeenProfile.{seen_location, seen_locations, IsProfileOf}
use Rattle.profile_messages.specs.SeenIndex.{code_location_id, is_in, IsIndexOf}
use Rattle.profile_messages.specs.checked.Checks.{string_zero_and_function_faults, faults_behind_ids}
use Rattle.profile_messages.proofs.FirstLemmas.{first-append_none, first-append_some}

first_behind : (xs ys : List ReadFault) (fault : TableFault) → first xs ≡ None → IsFirstOf ys fault → IsFirstOf (xs ++ ys) fault
first_behind xs ys (Read fault) none is = first-append_none xs ys none ∙ is
first_behind xs ys OutOfMemory none is = tt

first_before : (xs ys : List ReadFault) (fault : TableFault) → IsFirstOf xs fault → IsFirstOf (xs ++ ys) fault
first_before xs ys (Read fault) is = first-append_some xs ys fault is
first_before xs ys OutOfMemory is = tt

none_of_two : (xs ys : List ReadFault) → first xs ≡ None → first ys ≡ None → first (xs ++ ys) ≡ None
none_of_two xs ys none none' = first-append_none xs ys none ∙ none'

-- ---- compressed bytes, and the fields

pub plain_early : (file : List ℕ) → is_gzip file ≡ false → early_faults file ≡ field_faults file
plain_early file plain = ap (λ b. cond b (fault_at 0 Compressed ∷ []) [] ++ field_faults file) plain

-- ---- the lines of locations

-- a function is known by its place
is_in-function : (file : List ℕ) (profile : Profile) (index : Index) → IsProfileOf file profile → IsIndexOf function_id profile.functions.items index → (id : ℕ) → is_in index id ≡ is_function (functions_of file) id
is_in-function file profile index are is id = is.known id ∙ ap (λ (table : List Function). is_some (function_at table id)) are.functions

lines-are : (file : List ℕ) (profile : Profile) (functions : Index) → IsProfileOf file profile → IsIndexOf function_id profile.functions.items functions → flat_map (location_faults (is_in functions)) (seen_locations profile) ≡ flat_map (location_faults (is_function (functions_of file))) (locations_of file)
lines-are file profile functions are is =
    λ i. flat_map (location_faults (λ id. is_in-function file profile functions are is id i)) (are.locations i)

-- ---- the ids

first_ids-are : (file : List ℕ) (profile : Profile) → IsProfileOf file profile → string_zero_and_function_faults profile ≡ string_zero_faults (contents 6 file) ++ id_faults [] (map function_id (functions_of file))
first_ids-are file profile are =
    λ i. string_zero_faults (are.strings i) ++ id_faults [] (map function_id (are.functions i))

same-ids : (lines : List Line) (table : List CodeLocation) → map location_id (map (seen_location lines) table) ≡ map code_location_id table
same-ids lines [] = refl
same-ids lines (location ∷ table) = ap (λ (ids : List PlacedNumber). code_location_id location ∷ ids) (same-ids lines table)

-- the ids of a file's locations
location-ids-are : (file : List ℕ) (profile : Profile) → IsProfileOf file profile → id_faults [] (map code_location_id profile.locations.items) ≡ id_faults [] (map location_id (locations_of file))
location-ids-are file profile are =
    ap (id_faults []) (sym (same-ids profile.lines.items profile.locations.items) ∙ ap (λ (table : List Location). map location_id table) are.locations)

-- ---- the file's faults by the parts in which the code looks for them

pub early_first : (file : List ℕ) (pick : Pick) (fault : TableFault) → IsFirstOf (early_faults file) fault → IsFirstOf (file_faults file pick) fault
early_first file pick fault is = first_before _ _ fault is

pub tables_first : (file : List ℕ) (pick : Pick) (fault : TableFault) → first (early_faults file) ≡ None → IsFirstOf (table_faults file pick) fault → IsFirstOf (file_faults file pick) fault
tables_first file pick fault early is = first_behind _ _ fault early is

pub functions_first : (file : List ℕ) (profile : Profile) (pick : Pick) (fault : TableFault) → IsProfileOf file profile → IsFirstOf (string_zero_and_function_faults profile) fault → IsFirstOf (table_faults file pick) fault
functions_first file profile pick fault are is =
    first_before _ _ fault (first_before _ _ fault (first_before _ _ fault (first_before _ _ fault
    (subst (λ (faults : List ReadFault). IsFirstOf faults fault) (first_ids-are file profile are) is))))

pub locations_first : (file : List ℕ) (profile : Profile) (pick : Pick) (fault : TableFault) → IsProfileOf file profile → first (string_zero_and_function_faults profile) ≡ None → IsFirstOf (id_faults [] (map code_location_id profile.locations.items)) fault → IsFirstOf (table_faults file pick) fault
locations_first file profile pick fault are functions is =
    first_before _ _ fault (first_before _ _ fault (first_before _ _ fault
    (first_behind _ _ fault (ap (λ (faults : List ReadFault). first faults) (sym (first_ids-are file profile are)) ∙ functions)
    (subst (λ (faults : List ReadFault). IsFirstOf faults fault) (location-ids-are file profile are) is))))

-- the faults of ids, and those behind them
by-parts : (file : List ℕ) (profile : Profile) (functions : Index) (pick : Pick) → IsProfileOf file profile → IsIndexOf function_id profile.functions.items functions → table_faults file pick ≡ (string_zero_and_function_faults profile ++ id_faults [] (map code_location_id profile.locations.items)) ++ faults_behind_ids file profile functions pick
by-parts file profile functions pick are is =
    let ids : List ReadFault = string_zero_and_function_faults profile ++ id_faults [] (map code_location_id profile.locations.items) in
    let lines : List ReadFault = flat_map (location_faults (is_in functions)) (seen_locations profile) in
    (λ i. (((sym (first_ids-are file profile are) i ++ sym (location-ids-are file profile are) i) ++ string_faults file) ++ sym (lines-are file profile functions are is) i) ++ type_faults file pick)
    ∙ ap (λ (faults : List ReadFault). faults ++ type_faults file pick) (append_assoc ids (string_faults file) lines)
    ∙ append_assoc ids (string_faults file ++ lines) (type_faults file pick)

pub later_first : (file : List ℕ) (profile : Profile) (functions : Index) (pick : Pick) (fault : TableFault) → IsProfileOf file profile → IsIndexOf function_id profile.functions.items functions → first (string_zero_and_function_faults profile) ≡ None → first (id_faults [] (map code_location_id profile.locations.items)) ≡ None → IsFirstOf (faults_behind_ids file profile functions pick) fault → IsFirstOf (table_faults file pick) fault
later_first file profile functions pick fault are places first_ids locations is =
    subst (λ (faults : List ReadFault). IsFirstOf faults fault) (sym (by-parts file profile functions pick are places))
    (first_behind _ _ fault (none_of_two _ _ first_ids locations) is)

pub no_first : (file : List ℕ) (profile : Profile) (functions : Index) (pick : Pick) → IsProfileOf file profile → IsIndexOf function_id profile.functions.items functions → first (string_zero_and_function_faults profile) ≡ None → first (id_faults [] (map code_location_id profile.locations.items)) ≡ None → first (faults_behind_ids file profile functions pick) ≡ None → first (table_faults file pick) ≡ None
no_first file profile functions pick are places first_ids locations later =
    ap (λ (faults : List ReadFault). first faults) (by-parts file profile functions pick are places)
    ∙ none_of_two _ _ (none_of_two _ _ first_ids locations) later
