-- The sample types of a file, from its messages.
use Rattle.std.proofs.Common.{◌≡◌, ℕ, List, Option, Some, None, refl, sym, ◌∙◌, ap, map}
use Rattle.std.specs.Prelude.{option_map}
use Rattle.std.specs.Option.{option_and_then}
use Rattle.std.specs.List.{slice_get}
use Rattle.std.proofs.lemmas.Option.{slice_get-map}
use Rattle.run_options.specs.declared.choices.Pick.{Pick}
use Rattle.run_options.specs.declared.choices.Pick.TheVariants.{Preferred}
use Rattle.profile_messages.specs.declared.messages.ValueType.{ValueType}
use Rattle.profile_messages.specs.declared.profile.Profile.{Profile}
use Rattle.profile_messages.specs.declared.types.SampleType.{SampleType}
use Rattle.profile_messages.specs.declared.types.SampleTypes.{SampleTypes}
use Rattle.profile_messages.specs.Message.{Content}
use Rattle.profile_messages.specs.Tables.{sample_types_of}
use Rattle.profile_messages.specs.Choosing.{picked_type, chosen_value}
use Rattle.profile_messages.specs.SampleTypes.{type_of, types_of, chosen_type, all_types}
use Rattle.profile_messages.specs.SeenProfile.{texts_of, IsProfileOf}

types-are : (file : List ℕ) (profile : Profile) → IsProfileOf file profile → map (type_of (texts_of profile.strings.items)) profile.sample_types.items ≡ types_of file
types-are file profile is =
    ap (λ (table : List ValueType). map (type_of (texts_of profile.strings.items)) table) is.sample_types
    ∙ ap (λ (texts : List Content). map (type_of (map (λ (text : Content). text.bytes) texts)) (sample_types_of file)) is.strings

at-place : {A B : Type 0} (f : A → B) (items : List A) (place : Option ℕ) → option_map f (option_and_then (slice_get items) place) ≡ option_and_then (slice_get (map f items)) place
at-place f items None = refl
at-place f items (Some k) = sym (slice_get-map f items k)

-- the type of the chosen value
pub chosen-type : (file : List ℕ) (pick : Pick) (profile : Profile) (chosen : Option ℕ) (found : Option SampleType) → IsProfileOf file profile → chosen ≡ chosen_value file pick → found ≡ option_map (type_of (texts_of profile.strings.items)) (option_and_then (slice_get profile.sample_types.items) chosen) → found ≡ chosen_type file pick
chosen-type file pick profile chosen found is chosen_is found_is =
    found_is
    ∙ at-place (type_of (texts_of profile.strings.items)) profile.sample_types.items chosen
    ∙ ap (λ (types : List SampleType). option_and_then (slice_get types) chosen) (types-are file profile is)
    ∙ ap (option_and_then (slice_get (types_of file))) chosen_is

-- all types, and the default one
pub all-types : (file : List ℕ) (profile : Profile) (types : List SampleType) (default : Option ℕ) → IsProfileOf file profile → types ≡ map (type_of (texts_of profile.strings.items)) profile.sample_types.items → default ≡ picked_type file Preferred → (let all : SampleTypes = record { types = types; default = default } in all) ≡ all_types file
all-types file profile types default is types_are default_is =
    let same : types ≡ types_of file = types_are ∙ types-are file profile is in
    λ i. record { types = same i; default = default_is i }
