-- The messages of a file, field by field.
use Rattle.std.proofs.Common.{◌≡◌, [], ◌∷◌, ◌++◌, ℕ, List, length, Option, Some, None, refl, sym, ◌∙◌, ap, map, option_map, append_assoc}
use Rattle.std.specs.Prelude.{filter_map, flat_map, option_to_list, unwrap_or}
use Rattle.std.specs.List.{cons_option}
use Rattle.stack_core.specs.declared.endings.ReadKind.{ReadKind}
use Rattle.stack_core.specs.declared.endings.ReadFault.{ReadFault}
use Rattle.wire_fields.specs.Field.{WireField, delimited_bytes}
use Rattle.wire_fields.specs.Reading.{fields_of}
use Rattle.profile_messages.specs.declared.message.Content.{Content as CodeContent}
use Rattle.profile_messages.specs.declared.messages.ValueType.{ValueType}
use Rattle.profile_messages.specs.declared.messages.Function.{Function}
use Rattle.profile_messages.specs.declared.messages.PlacedNumber.{PlacedNumber}
use Rattle.profile_messages.specs.declared.messages.Line.{Line}
use Rattle.profile_messages.specs.declared.messages.Location.{Location as CodeLocation}
use Rattle.profile_messages.specs.declared.profile.Profile.{Profile}
use Rattle.profile_messages.specs.Message.{first, content_of, contents, last_or}
use Rattle.profile_messages.specs.Shapes.{profile_shape, fault_at, faults_of_field, faults_of_top_field}
use Rattle.profile_messages.specs.Records.{Location, value_type_of, function_of, location_of, location_in, lines_in}
use Rattle.profile_messages.specs.Tables.{sample_types_of, samples_of, locations_of, functions_of, default_from, default_of}
use Rattle.profile_messages.specs.SeenProfile.{seen_table, items_in, with_lines, seen_location, IsProfileOf}
use Rattle.profile_messages.specs.checked.Decoding.{IsLocationOf}
use Rattle.profile_messages.specs.Offsets.{offset_of}
use Rattle.profile_messages.specs.checked.Fields.{whole_location, GainsField, IsFieldAdded}
use Rattle.profile_messages.proofs.FirstLemmas.{first-append_none}
use Rattle.profile_messages.proofs.ItemLemmas.{map-push, referred-kept}
use Rattle.profile_messages.proofs.SpanLemmas.{items_in-kept, items_in-last}

-- ---- before these fields, which are left of the file's

pub record AreLocationsBefore (file : List ℕ) (left : List WireField) (profile : Profile) : Type 0 where
  pub before : List Location
  pub whole : map (whole_location profile.lines.items) profile.locations.items ≡ map (λ location. Some location) before
  pub all : before ++ map location_of (filter_map (content_of 4) left) ≡ locations_of file

pub record IsProfileBefore (file : List ℕ) (left : List WireField) (profile : Profile) : Type 0 where
  pub sample_types : profile.sample_types.items ++ map value_type_of (filter_map (content_of 1) left) ≡ sample_types_of file
  pub samples : profile.samples.items ++ map offset_of (filter_map (content_of 2) left) ≡ map offset_of (samples_of file)
  pub locations : AreLocationsBefore file left profile
  pub functions : profile.functions.items ++ map function_of (filter_map (content_of 5) left) ≡ functions_of file
  pub strings : seen_table profile.strings.items ++ filter_map (content_of 6) left ≡ contents 6 file
  pub default : last_or profile.default (filter_map default_from left) ≡ default_of file

gained : {A B : Type 0} (g : B → A) (o : Option B) (rest : List B) (old new all : List A) → new ≡ old ++ map g (option_to_list o) → old ++ map g (cons_option o rest) ≡ all → new ++ map g rest ≡ all
gained g None rest old new all more is = ap (λ list. list ++ map g rest) more ∙ append_assoc old [] (map g rest) ∙ is
gained g (Some x) rest old new all more is = ap (λ list. list ++ map g rest) more ∙ append_assoc old (g x ∷ []) (map g rest) ∙ is

gained_strings : {A : Type 0} (o : Option A) (rest old new all : List A) → new ≡ old ++ option_to_list o → old ++ cons_option o rest ≡ all → new ++ rest ≡ all
gained_strings None rest old new all more is = ap (λ list. list ++ rest) more ∙ append_assoc old [] rest ∙ is
gained_strings (Some x) rest old new all more is = ap (λ list. list ++ rest) more ∙ append_assoc old (x ∷ []) rest ∙ is

gained_default : (o : Option PlacedNumber) (rest : List PlacedNumber) (old new all : PlacedNumber) → new ≡ unwrap_or o old → last_or old (cons_option o rest) ≡ all → last_or new rest ≡ all
gained_default None rest old new all is same = ap (λ (d : PlacedNumber). last_or d rest) is ∙ same
gained_default (Some x) rest old new all is same = ap (λ (d : PlacedNumber). last_or d rest) is ∙ same

-- one field more
pub before-step : (file : List ℕ) (field : WireField) (left : List WireField) (old new : Profile) → GainsField field old new → IsProfileBefore file (field ∷ left) old → IsProfileBefore file left new
before-step file field left old new gains is = record {
  sample_types = gained value_type_of (content_of 1 field) (filter_map (content_of 1) left) _ _ _ gains.sample_types is.sample_types;
  samples = gained offset_of (content_of 2 field) (filter_map (content_of 2) left) _ _ _ gains.samples is.samples;
  locations = record {
    before = is.locations.before ++ map location_of (option_to_list (content_of 4 field));
    whole = gains.locations is.locations.before is.locations.whole;
    all = gained location_of (content_of 4 field) (filter_map (content_of 4) left) is.locations.before _ _ refl is.locations.all;
  };
  functions = gained function_of (content_of 5 field) (filter_map (content_of 5) left) _ _ _ gains.functions is.functions;
  strings = gained_strings (content_of 6 field) (filter_map (content_of 6) left) _ _ _ gains.strings is.strings;
  default = gained_default (default_from field) (filter_map default_from left) _ _ _ gains.default is.default;
}

-- ---- behind all fields

seen-by : (location : CodeLocation) (o : Option (List Line)) (found : Location) → option_map (with_lines location) o ≡ Some found → with_lines location (unwrap_or o []) ≡ found
seen-by location None found is = cc
seen-by location (Some lines) found is = cc

seen-whole : (lines : List Line) (table : List CodeLocation) (found : List Location) → map (whole_location lines) table ≡ map (λ location. Some location) found → map (seen_location lines) table ≡ found
seen-whole lines [] [] is = refl
seen-whole lines [] (x ∷ found) is = cc
seen-whole lines (location ∷ table) [] is = cc
seen-whole lines (location ∷ table) (x ∷ found) is =
    let here : whole_location lines location ≡ Some x = cc in
    let behind : map (whole_location lines) table ≡ map (λ other. Some other) found = cc in
    let a : seen_location lines location ≡ x = seen-by location (items_in lines location.lines) x here in
    let b : map (seen_location lines) table ≡ found = seen-whole lines table found behind in cc

unended : {A : Type 0} (xs ys : List A) → xs ++ [] ≡ ys → xs ≡ ys
unended [] ys is = is
unended (x ∷ xs) [] is = cc
unended (x ∷ xs) (y ∷ ys) is =
    let here : x ≡ y = cc in
    let behind : xs ≡ ys = unended xs ys cc in cc

pub profile-whole : (file : List ℕ) (profile : Profile) → IsProfileBefore file [] profile → IsProfileOf file profile
profile-whole file profile is = record {
  sample_types = unended _ _ is.sample_types;
  samples = unended _ _ is.samples;
  locations = seen-whole profile.lines.items profile.locations.items is.locations.before is.locations.whole ∙ unended _ _ is.locations.all;
  functions = unended _ _ is.functions;
  strings = unended _ _ is.strings;
  default = is.default;
}

-- ---- one location more

kept-by : (f : List Line → Location) (o o' : Option (List Line)) (found : Location) → ((lines : List Line) → o ≡ Some lines → o' ≡ Some lines) → option_map f o ≡ Some found → option_map f o' ≡ Some found
kept-by f None o' found kept is = cc
kept-by f (Some lines) o' found kept is = ap (option_map f) (kept lines refl) ∙ is

whole-kept : (lines more : List Line) (location : CodeLocation) (found : Location) → whole_location lines location ≡ Some found → whole_location (lines ++ more) location ≡ Some found
whole-kept lines more location found is =
    kept-by (with_lines location) (items_in lines location.lines) (items_in (lines ++ more) location.lines) found (items_in-kept lines more location.lines) is

location-is : (at : ℕ) (message : List ℕ) (old new : List Line) (location : CodeLocation) → IsLocationOf at message old new location → whole_location (old ++ lines_in message) location ≡ Some (location_in at message)
location-is at message old new location is =
    ap (option_map (with_lines location)) (items_in-last old (lines_in message) location.lines is.start (is.past ∙ ap (λ (list : List Line). length list) is.lines))
    ∙ (λ i. Some (let found : Location = record { at = is.at i; id = is.id i; address = is.address i; lines = lines_in message } in found))

pub location-gained : (at : ℕ) (message : List ℕ) (old new : List Line) (table table' : List CodeLocation) (location : CodeLocation) (before : List Location) → IsLocationOf at message old new location → table' ≡ table ++ location ∷ [] → map (whole_location old) table ≡ map (λ other. Some other) before → map (whole_location new) table' ≡ map (λ other. Some other) (before ++ location_in at message ∷ [])
location-gained at message old new table table' location before is more same =
    let lines : List Line = old ++ lines_in message in
    ap (λ (list : List Line). map (whole_location list) table') is.lines
    ∙ ap (map (whole_location lines)) more
    ∙ map-push (whole_location lines) table location
    ∙ ap (λ last. map (whole_location lines) table ++ last ∷ []) (location-is at message old new location is)
    ∙ ap (λ list. list ++ Some (location_in at message) ∷ []) (referred-kept (whole_location old) (whole_location lines) (λ other. other) table before (whole-kept old (lines_in message)) same)
    ∙ sym (map-push (λ other. Some other) before (location_in at message))

behind_all : {A : Type 0} (xs : List A) → xs ≡ xs ++ []
behind_all {A} [] = refl
behind_all {A} (x ∷ xs) = ap (λ (ys : List A). x ∷ ys) (behind_all xs)

abbrev pub location_field : ℕ → List ℕ → WireField
location_field at message = record { number = 4; at = at; value = delimited_bytes message }

-- a field that holds a location
pub location_added : (at : ℕ) (message : List ℕ) (old new : Profile) (location : CodeLocation) → IsLocationOf at message old.lines.items new.lines.items location → new.locations.items ≡ old.locations.items ++ location ∷ [] → new.sample_types.items ≡ old.sample_types.items → new.samples.items ≡ old.samples.items → new.functions.items ≡ old.functions.items → seen_table new.strings.items ≡ seen_table old.strings.items → new.default ≡ old.default → IsFieldAdded (location_field at message) old new None
location_added at message old new location is more types samples functions strings default = (
  is.faultless,
  record {
    sample_types = types ∙ behind_all old.sample_types.items;
    samples = samples ∙ behind_all old.samples.items;
    locations = λ before same. location-gained at message old.lines.items new.lines.items old.locations.items new.locations.items location before is more same;
    functions = functions ∙ behind_all old.functions.items;
    strings = strings ∙ behind_all (seen_table old.strings.items);
    default = default;
  },
)

-- ---- the loop over the fields

-- before all fields
pub before-none : (file : List ℕ) (profile : Profile) (fields : List WireField) → fields ≡ (fields_of file).items → profile.sample_types.items ≡ [] → profile.samples.items ≡ [] → profile.locations.items ≡ [] → profile.functions.items ≡ [] → profile.strings.items ≡ [] → profile.default ≡ (let zero : PlacedNumber = record { at = 0; number = 0 } in zero) → IsProfileBefore file fields profile
before-none file profile fields are types samples locations functions strings default = record {
  sample_types = ap (λ (list : List ValueType). list ++ map value_type_of (filter_map (content_of 1) fields)) types ∙ ap (λ (list : List WireField). map value_type_of (filter_map (content_of 1) list)) are;
  samples = ap (λ (list : List ℕ). list ++ map offset_of (filter_map (content_of 2) fields)) samples ∙ ap (λ (list : List WireField). map offset_of (filter_map (content_of 2) list)) are;
  locations = record {
    before = [];
    whole = ap (map (whole_location profile.lines.items)) locations;
    all = ap (λ (list : List WireField). map location_of (filter_map (content_of 4) list)) are;
  };
  functions = ap (λ (list : List Function). list ++ map function_of (filter_map (content_of 5) fields)) functions ∙ ap (λ (list : List WireField). map function_of (filter_map (content_of 5) list)) are;
  strings = ap (λ (list : List CodeContent). seen_table list ++ filter_map (content_of 6) fields) strings ∙ ap (filter_map (content_of 6)) are;
  default = ap (λ (d : PlacedNumber). last_or d (filter_map default_from fields)) default ∙ ap (λ (list : List WireField). last_or (let zero : PlacedNumber = record { at = 0; number = 0 } in zero) (filter_map default_from list)) are;
}

none-mapped : (at : ℕ) (kinds : List ReadKind) → first kinds ≡ None → first (map (fault_at at) kinds) ≡ None
none-mapped at [] none = refl
none-mapped at (kind ∷ kinds) none = cc

-- a field without a fault
pub faults-step : (field : WireField) (fields : List WireField) (behind : List ReadFault) (all : Option ReadFault) → first (faults_of_field profile_shape field) ≡ None → first (flat_map faults_of_top_field (field ∷ fields) ++ behind) ≡ all → first (flat_map faults_of_top_field fields ++ behind) ≡ all
faults-step field fields behind all none is =
    sym (first-append_none (faults_of_top_field field) (flat_map faults_of_top_field fields ++ behind) (none-mapped field.at (faults_of_field profile_shape field) none))
    ∙ ap first (sym (append_assoc (faults_of_top_field field) (flat_map faults_of_top_field fields) behind)) ∙ is
