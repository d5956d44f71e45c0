-- The place of a sample type by its name.
use Rattle.std.proofs.Common.{◌≡◌, [], ◌∷◌, ℕ, suc, List, ◌<◌, ◌≤◌, length, Bool, Some, None, true, false, refl, sym, ◌∙◌, ap, get_or, map, arith}
use Rattle.std.specs.Prelude.{bytes_eq, nat_lt, ◌==◌, if◌then◌else◌}
use Rattle.std.specs.List.{position_or_len}
use Rattle.std.proofs.lemmas.List.{get_or-map, get_or_past, length-map}
use Rattle.std.proofs.lemmas.List.Sums.{position_or_len_is}
use Rattle.std.proofs.lemmas.Grind.{common_steps}
use Rattle.run_options.specs.declared.choices.Pick.{Pick}
use Rattle.profile_messages.specs.declared.profile.Profile.{Profile}
use Rattle.profile_messages.specs.declared.messages.PlacedNumber.{PlacedNumber}
use Rattle.profile_messages.specs.declared.messages.ValueType.{ValueType}
use Rattle.profile_messages.specs.Message.{Content}
use Rattle.profile_messages.specs.Tables.{string_at, strings_of, samples_of, sample_types_of, default_of}
use Rattle.profile_messages.specs.Choosing.{type_names, position_of, place_picked, picked_type, chosen_value}
use Rattle.profile_messages.specs.SeenProfile.{texts_of, IsProfileOf}
use Rattle.profile_messages.specs.checked.Choosing.{names_of_types, picked_of, chosen_of}
use Rattle.profile_messages.specs.Offsets.{offset_of}

pub place-found : (name : List ℕ) (names : List (List ℕ)) (i : ℕ) → i < length names → ((k : ℕ) → k < i → bytes_eq (get_or names k []) name ≡ false) → bytes_eq (get_or names i []) name ≡ true → position_of name names ≡ Some i
place-found name names i lt before here =
    let at : position_or_len (λ other. bytes_eq other name) names ≡ i =
    position_or_len_is (λ other. bytes_eq other name) names i [] (omega arith) before (λ _. here) in
    let below : nat_lt i (length names) ≡ true = grind (arith, common_steps) in
    rw (at, below) refl

pub place-none : (name : List ℕ) (names : List (List ℕ)) → ((k : ℕ) → k < length names → bytes_eq (get_or names k []) name ≡ false) → position_of name names ≡ None
place-none name names before =
    let at : position_or_len (λ other. bytes_eq other name) names ≡ length names =
    position_or_len_is (λ other. bytes_eq other name) names (length names) [] (omega arith) before (λ lt. absurd (omega arith)) in
    let below : nat_lt (length names) (length names) ≡ false = grind (arith, common_steps) in
    rw (at, below) refl

-- what no sample type has
abbrev pub no_type : ValueType
no_type = record { at = 0; type_ = 0; unit = 0 }

pub length-names_of_types : (profile : Profile) → length (names_of_types profile) ≡ length profile.sample_types.items
length-names_of_types profile =
    length-map profile.sample_types.items (λ (value_type : ValueType). string_at (texts_of profile.strings.items) value_type.type_)

-- the name at a place, as the loop has it
pub name_here : (profile : Profile) (k n : ℕ) (types : List ValueType) (strings : List (List ℕ)) → types ≡ profile.sample_types.items → strings ≡ texts_of profile.strings.items → k < length types → n ≡ (get_or types k no_type).type_ → get_or (names_of_types profile) k [] ≡ string_at strings n
name_here profile k n types strings types_are strings_are lt n_is =
    let name : ValueType → List ℕ = λ value_type. string_at (texts_of profile.strings.items) value_type.type_ in
    ap (λ (table : List ValueType). get_or (map name table) k []) (sym types_are)
    ∙ get_or-map name types k no_type [] lt
    ∙ ap (string_at (texts_of profile.strings.items)) (sym n_is)
    ∙ ap (λ (texts : List (List ℕ)). string_at texts n) (sym strings_are)

-- the names of a file's sample types
pub names-are : (file : List ℕ) (profile : Profile) → IsProfileOf file profile → names_of_types profile ≡ type_names file
names-are file profile is =
    ap (λ (table : List ValueType). map (λ (value_type : ValueType). string_at (texts_of profile.strings.items) value_type.type_) table) is.sample_types
    ∙ ap (λ (texts : List Content). map (λ (value_type : ValueType). string_at (map (λ (text : Content). text.bytes) texts) value_type.type_) (sample_types_of file)) is.strings

-- the place of a file's picked type
pub picked-is : (file : List ℕ) (profile : Profile) (pick : Pick) → IsProfileOf file profile → picked_of profile pick ≡ picked_type file pick
picked-is file profile pick is =
    let types : length profile.sample_types.items ≡ length (sample_types_of file) = ap (λ (list : List ValueType). length list) is.sample_types in
    let default : string_at (texts_of profile.strings.items) profile.default.number ≡ string_at (strings_of file) (default_of file).number =
    ap (λ (texts : List Content). string_at (map (λ (text : Content). text.bytes) texts) profile.default.number) is.strings ∙ ap (λ (n : PlacedNumber). string_at (strings_of file) n.number) is.default in
    ap (λ n. if n == 0 then None else place_picked pick (string_at (texts_of profile.strings.items) profile.default.number) (names_of_types profile)) types
    ∙ ap (λ name. if length (sample_types_of file) == 0 then None else place_picked pick name (names_of_types profile)) default
    ∙ ap (λ names. if length (sample_types_of file) == 0 then None else place_picked pick (string_at (strings_of file) (default_of file).number) names) (names-are file profile is)

-- the place of a file's chosen value
pub chosen-is : (file : List ℕ) (profile : Profile) (pick : Pick) → IsProfileOf file profile → chosen_of profile pick ≡ chosen_value file pick
chosen-is file profile pick is =
    let samples : length profile.samples.items ≡ length (samples_of file) = ap (λ (list : List ℕ). length list) is.samples ∙ length-map (samples_of file) offset_of in
    ap (λ n. if n == 0 then None else picked_of profile pick) samples
    ∙ ap (λ place. if length (samples_of file) == 0 then None else place) (picked-is file profile pick is)

-- ---- the strings that are the name

not_zero : (n : ℕ) → false ≡ (suc n == 0)
not_zero n = grind (arith, common_steps)

empty-is : (name : List ℕ) → bytes_eq [] name ≡ (length name == 0)
empty-is [] = refl
empty-is (x ∷ name) = not_zero (length name)

pub match-at : (name : List ℕ) (strings : List (List ℕ)) (matches : List Bool) (index : ℕ) (b : Bool) → index < length matches → b ≡ get_or matches index true → matches ≡ map (λ string. bytes_eq string name) strings → b ≡ bytes_eq (string_at strings index) name
match-at name strings matches index b lt is matches_are =
    is ∙ ap (λ list. get_or list index true) matches_are
    ∙ get_or-map (λ string. bytes_eq string name) strings index [] true (let e = ap (λ (list : List Bool). length list) matches_are in let f = length-map strings (λ string. bytes_eq string name) in omega (arith, e, f))

pub match-past : (name : List ℕ) (strings : List (List ℕ)) (matches : List Bool) (index : ℕ) (b : Bool) → length matches ≤ index → b ≡ (length name == 0) → matches ≡ map (λ string. bytes_eq string name) strings → b ≡ bytes_eq (string_at strings index) name
match-past name strings matches index b past is matches_are =
    is ∙ sym (empty-is name)
    ∙ ap (λ string. bytes_eq string name) (sym (get_or_past strings index [] (let e = ap (λ (list : List Bool). length list) matches_are in let f = length-map strings (λ string. bytes_eq string name) in omega (arith, e, f))))
