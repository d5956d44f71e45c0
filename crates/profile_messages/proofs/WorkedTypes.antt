-- Worked examples of sample types, computed on the definitions: of the types `n` and `cpu`, each its own unit.
use Rattle.std.specs.Prelude.{◌≡◌, ℕ, List, [], ◌∷◌, ◌++◌, Some, None, refl, codes}
use Rattle.std.specs.Fmt.{digits}
use Rattle.bstr.proofs.Computing.{computing}
use Rattle.wire_fields.specs.Varint.{varint_within}
use Rattle.wire_fields.specs.Reading.{value_at, field_at, left_at, fields_of}
use Rattle.run_options.specs.declared.choices.Pick.TheVariants.{Preferred}
use Rattle.profile_messages.specs.declared.types.SampleType.{SampleType}
use Rattle.profile_messages.specs.Choosing.{chosen_value}
use Rattle.profile_messages.specs.SampleTypes.{all_types}

-- the tables, without a sample and without a default
abbrev tables : List ℕ
tables = 10 ∷ 4 ∷ 8 ∷ 1 ∷ 16 ∷ 1 ∷ 10 ∷ 4 ∷ 8 ∷ 2 ∷ 16 ∷ 2 ∷ 50 ∷ 0 ∷ 50 ∷ 1 ∷ 110 ∷ 50 ∷ 3 ∷ 99 ∷ 112 ∷ 117 ∷ []

abbrev both : List SampleType
both = record { name = codes "n"; unit = codes "n" } ∷ record { name = codes "cpu"; unit = codes "cpu" } ∷ []

-- without samples the last one is the default too
last_without_samples : all_types tables ≡ record { types = both; default = Some 1 }
unfolding fields_of left_at field_at value_at varint_within digits computing
last_without_samples = refl

named_without_samples : all_types (tables ++ 112 ∷ 1 ∷ []) ≡ record { types = both; default = Some 0 }
unfolding fields_of left_at field_at value_at varint_within digits computing
named_without_samples = refl

-- a default that is no type's name
unmatched_without_samples : all_types (tables ++ 50 ∷ 1 ∷ 102 ∷ 112 ∷ 3 ∷ []) ≡ record { types = both; default = Some 1 }
unfolding fields_of left_at field_at value_at varint_within digits computing
unmatched_without_samples = refl

-- with a sample the default is the chosen value, and without one no value is chosen
named_with_a_sample : all_types (18 ∷ 0 ∷ tables ++ 112 ∷ 1 ∷ []) ≡ record { types = both; default = Some 0 }
unfolding fields_of left_at field_at value_at varint_within digits computing
named_with_a_sample = refl

chosen_with_a_sample : chosen_value (18 ∷ 0 ∷ tables ++ 112 ∷ 1 ∷ []) Preferred ≡ Some 0
unfolding fields_of left_at field_at value_at varint_within digits computing
chosen_with_a_sample = refl

chosen_without_samples : chosen_value (tables ++ 112 ∷ 1 ∷ []) Preferred ≡ None
unfolding fields_of left_at field_at value_at varint_within digits computing
chosen_without_samples = refl

nothing : all_types [] ≡ record { types = []; default = None }
unfolding fields_of left_at field_at value_at varint_within digits computing
nothing = refl
