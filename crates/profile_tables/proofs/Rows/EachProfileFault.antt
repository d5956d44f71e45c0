-- The faults of a field behind a profile, and of whole files.
use Rattle.std.specs.Prelude.{◌≡◌, [], ◌∷◌, refl, codes}
use Rattle.std.specs.Fmt.{digits}
use Rattle.bstr.proofs.Computing.{computing}
use Rattle.stack_core.specs.declared.endings.ReadKind.TheVariants as kind
use Rattle.stack_core.specs.declared.endings.SourceEnd.TheVariants.{Fault}
use Rattle.wire_fields.specs.Varint.{varint_within}
use Rattle.wire_fields.specs.Reading.{value_at, field_at, left_at, fields_of, numbers_of}
use Rattle.run_options.specs.declared.choices.Pick.TheVariants.{Preferred}
use Rattle.run_options.specs.declared.choices.Naming.TheVariants.{Plain}
use Rattle.profile_tables.specs.Samples.{read_pprof}

pub each_profile_fault-truncated : read_pprof (10 ∷ 4 ∷ 8 ∷ 1 ∷ 16 ∷ 1 ∷ 10 ∷ 4 ∷ 8 ∷ 2 ∷ 16 ∷ 2 ∷ 18 ∷ 7 ∷ 10 ∷ 1 ∷ 1 ∷ 18 ∷ 2 ∷ 5 ∷ 9 ∷ 34 ∷ 6 ∷ 8 ∷ 1 ∷ 34 ∷ 2 ∷ 8 ∷ 1 ∷ 42 ∷ 4 ∷ 8 ∷ 1 ∷ 16 ∷ 3 ∷ 50 ∷ 0 ∷ 50 ∷ 1 ∷ 110 ∷ 50 ∷ 3 ∷ 99 ∷ 112 ∷ 117 ∷ 50 ∷ 1 ∷ 102 ∷ 18 ∷ 2 ∷ 10 ∷ 5 ∷ []) Preferred Plain ≡
    record { samples = record { stack = codes "f" ∷ []; weight = 9 } ∷ []; ending = Fault (record { kind = kind.Truncated; at = 48 }) }
unfolding fields_of left_at field_at value_at varint_within numbers_of digits computing
each_profile_fault-truncated = refl

pub each_profile_fault-value_count : read_pprof (10 ∷ 4 ∷ 8 ∷ 1 ∷ 16 ∷ 1 ∷ 10 ∷ 4 ∷ 8 ∷ 2 ∷ 16 ∷ 2 ∷ 18 ∷ 7 ∷ 10 ∷ 1 ∷ 1 ∷ 18 ∷ 2 ∷ 5 ∷ 9 ∷ 34 ∷ 6 ∷ 8 ∷ 1 ∷ 34 ∷ 2 ∷ 8 ∷ 1 ∷ 42 ∷ 4 ∷ 8 ∷ 1 ∷ 16 ∷ 3 ∷ 50 ∷ 0 ∷ 50 ∷ 1 ∷ 110 ∷ 50 ∷ 3 ∷ 99 ∷ 112 ∷ 117 ∷ 50 ∷ 1 ∷ 102 ∷ 18 ∷ 6 ∷ 10 ∷ 1 ∷ 1 ∷ 18 ∷ 1 ∷ 7 ∷ []) Preferred Plain ≡
    record { samples = record { stack = codes "f" ∷ []; weight = 9 } ∷ []; ending = Fault (record { kind = kind.ValueCount; at = 48 }) }
unfolding fields_of left_at field_at value_at varint_within numbers_of digits computing
each_profile_fault-value_count = refl

pub each_profile_fault-unknown_location : read_pprof (10 ∷ 4 ∷ 8 ∷ 1 ∷ 16 ∷ 1 ∷ 10 ∷ 4 ∷ 8 ∷ 2 ∷ 16 ∷ 2 ∷ 18 ∷ 7 ∷ 10 ∷ 1 ∷ 1 ∷ 18 ∷ 2 ∷ 5 ∷ 9 ∷ 34 ∷ 6 ∷ 8 ∷ 1 ∷ 34 ∷ 2 ∷ 8 ∷ 1 ∷ 42 ∷ 4 ∷ 8 ∷ 1 ∷ 16 ∷ 3 ∷ 50 ∷ 0 ∷ 50 ∷ 1 ∷ 110 ∷ 50 ∷ 3 ∷ 99 ∷ 112 ∷ 117 ∷ 50 ∷ 1 ∷ 102 ∷ 18 ∷ 7 ∷ 10 ∷ 1 ∷ 2 ∷ 18 ∷ 2 ∷ 5 ∷ 9 ∷ []) Preferred Plain ≡
    record { samples = record { stack = codes "f" ∷ []; weight = 9 } ∷ []; ending = Fault (record { kind = kind.UnknownLocation; at = 48 }) }
unfolding fields_of left_at field_at value_at varint_within numbers_of digits computing
each_profile_fault-unknown_location = refl

pub each_profile_fault-bad_varint : read_pprof (10 ∷ 4 ∷ 8 ∷ 1 ∷ 16 ∷ 1 ∷ 10 ∷ 4 ∷ 8 ∷ 2 ∷ 16 ∷ 2 ∷ 18 ∷ 7 ∷ 10 ∷ 1 ∷ 1 ∷ 18 ∷ 2 ∷ 5 ∷ 9 ∷ 34 ∷ 6 ∷ 8 ∷ 1 ∷ 34 ∷ 2 ∷ 8 ∷ 1 ∷ 42 ∷ 4 ∷ 8 ∷ 1 ∷ 16 ∷ 3 ∷ 50 ∷ 0 ∷ 50 ∷ 1 ∷ 110 ∷ 50 ∷ 3 ∷ 99 ∷ 112 ∷ 117 ∷ 50 ∷ 1 ∷ 102 ∷ 128 ∷ 128 ∷ 128 ∷ 128 ∷ 128 ∷ 128 ∷ 128 ∷ 128 ∷ 128 ∷ 2 ∷ []) Preferred Plain ≡
    record { samples = []; ending = Fault (record { kind = kind.BadVarint; at = 48 }) }
unfolding fields_of left_at field_at value_at varint_within numbers_of digits computing
each_profile_fault-bad_varint = refl

pub each_profile_fault-bad_field_number : read_pprof (10 ∷ 4 ∷ 8 ∷ 1 ∷ 16 ∷ 1 ∷ 10 ∷ 4 ∷ 8 ∷ 2 ∷ 16 ∷ 2 ∷ 18 ∷ 7 ∷ 10 ∷ 1 ∷ 1 ∷ 18 ∷ 2 ∷ 5 ∷ 9 ∷ 34 ∷ 6 ∷ 8 ∷ 1 ∷ 34 ∷ 2 ∷ 8 ∷ 1 ∷ 42 ∷ 4 ∷ 8 ∷ 1 ∷ 16 ∷ 3 ∷ 50 ∷ 0 ∷ 50 ∷ 1 ∷ 110 ∷ 50 ∷ 3 ∷ 99 ∷ 112 ∷ 117 ∷ 50 ∷ 1 ∷ 102 ∷ 0 ∷ []) Preferred Plain ≡
    record { samples = []; ending = Fault (record { kind = kind.BadFieldNumber; at = 48 }) }
unfolding fields_of left_at field_at value_at varint_within numbers_of digits computing
each_profile_fault-bad_field_number = refl

pub each_profile_fault-bad_wire_type : read_pprof (10 ∷ 4 ∷ 8 ∷ 1 ∷ 16 ∷ 1 ∷ 10 ∷ 4 ∷ 8 ∷ 2 ∷ 16 ∷ 2 ∷ 18 ∷ 7 ∷ 10 ∷ 1 ∷ 1 ∷ 18 ∷ 2 ∷ 5 ∷ 9 ∷ 34 ∷ 6 ∷ 8 ∷ 1 ∷ 34 ∷ 2 ∷ 8 ∷ 1 ∷ 42 ∷ 4 ∷ 8 ∷ 1 ∷ 16 ∷ 3 ∷ 50 ∷ 0 ∷ 50 ∷ 1 ∷ 110 ∷ 50 ∷ 3 ∷ 99 ∷ 112 ∷ 117 ∷ 50 ∷ 1 ∷ 102 ∷ 11 ∷ []) Preferred Plain ≡
    record { samples = []; ending = Fault (record { kind = kind.BadWireType; at = 48 }) }
unfolding fields_of left_at field_at value_at varint_within numbers_of digits computing
each_profile_fault-bad_wire_type = refl

pub each_profile_fault-wrong_kind : read_pprof (10 ∷ 4 ∷ 8 ∷ 1 ∷ 16 ∷ 1 ∷ 10 ∷ 4 ∷ 8 ∷ 2 ∷ 16 ∷ 2 ∷ 18 ∷ 7 ∷ 10 ∷ 1 ∷ 1 ∷ 18 ∷ 2 ∷ 5 ∷ 9 ∷ 34 ∷ 6 ∷ 8 ∷ 1 ∷ 34 ∷ 2 ∷ 8 ∷ 1 ∷ 42 ∷ 4 ∷ 8 ∷ 1 ∷ 16 ∷ 3 ∷ 50 ∷ 0 ∷ 50 ∷ 1 ∷ 110 ∷ 50 ∷ 3 ∷ 99 ∷ 112 ∷ 117 ∷ 50 ∷ 1 ∷ 102 ∷ 114 ∷ 0 ∷ []) Preferred Plain ≡
    record { samples = []; ending = Fault (record { kind = kind.WrongKind; at = 48 }) }
unfolding fields_of left_at field_at value_at varint_within numbers_of digits computing
each_profile_fault-wrong_kind = refl

pub each_profile_fault-zero_id : read_pprof (10 ∷ 4 ∷ 8 ∷ 1 ∷ 16 ∷ 1 ∷ 10 ∷ 4 ∷ 8 ∷ 2 ∷ 16 ∷ 2 ∷ 18 ∷ 7 ∷ 10 ∷ 1 ∷ 1 ∷ 18 ∷ 2 ∷ 5 ∷ 9 ∷ 34 ∷ 6 ∷ 8 ∷ 1 ∷ 34 ∷ 2 ∷ 8 ∷ 1 ∷ 42 ∷ 4 ∷ 8 ∷ 1 ∷ 16 ∷ 3 ∷ 50 ∷ 0 ∷ 50 ∷ 1 ∷ 110 ∷ 50 ∷ 3 ∷ 99 ∷ 112 ∷ 117 ∷ 50 ∷ 1 ∷ 102 ∷ 34 ∷ 0 ∷ []) Preferred Plain ≡
    record { samples = []; ending = Fault (record { kind = kind.ZeroId; at = 48 }) }
unfolding fields_of left_at field_at value_at varint_within numbers_of digits computing
each_profile_fault-zero_id = refl

pub each_profile_fault-duplicate_id : read_pprof (10 ∷ 4 ∷ 8 ∷ 1 ∷ 16 ∷ 1 ∷ 10 ∷ 4 ∷ 8 ∷ 2 ∷ 16 ∷ 2 ∷ 18 ∷ 7 ∷ 10 ∷ 1 ∷ 1 ∷ 18 ∷ 2 ∷ 5 ∷ 9 ∷ 34 ∷ 6 ∷ 8 ∷ 1 ∷ 34 ∷ 2 ∷ 8 ∷ 1 ∷ 42 ∷ 4 ∷ 8 ∷ 1 ∷ 16 ∷ 3 ∷ 50 ∷ 0 ∷ 50 ∷ 1 ∷ 110 ∷ 50 ∷ 3 ∷ 99 ∷ 112 ∷ 117 ∷ 50 ∷ 1 ∷ 102 ∷ 42 ∷ 4 ∷ 8 ∷ 1 ∷ 16 ∷ 3 ∷ []) Preferred Plain ≡
    record { samples = []; ending = Fault (record { kind = kind.DuplicateId; at = 48 }) }
unfolding fields_of left_at field_at value_at varint_within numbers_of digits computing
each_profile_fault-duplicate_id = refl

pub each_profile_fault-unknown_function : read_pprof (10 ∷ 4 ∷ 8 ∷ 1 ∷ 16 ∷ 1 ∷ 10 ∷ 4 ∷ 8 ∷ 2 ∷ 16 ∷ 2 ∷ 18 ∷ 7 ∷ 10 ∷ 1 ∷ 1 ∷ 18 ∷ 2 ∷ 5 ∷ 9 ∷ 34 ∷ 6 ∷ 8 ∷ 1 ∷ 34 ∷ 2 ∷ 8 ∷ 1 ∷ 42 ∷ 4 ∷ 8 ∷ 1 ∷ 16 ∷ 3 ∷ 50 ∷ 0 ∷ 50 ∷ 1 ∷ 110 ∷ 50 ∷ 3 ∷ 99 ∷ 112 ∷ 117 ∷ 50 ∷ 1 ∷ 102 ∷ 34 ∷ 6 ∷ 8 ∷ 2 ∷ 34 ∷ 2 ∷ 8 ∷ 7 ∷ []) Preferred Plain ≡
    record { samples = []; ending = Fault (record { kind = kind.UnknownFunction; at = 48 }) }
unfolding fields_of left_at field_at value_at varint_within numbers_of digits computing
each_profile_fault-unknown_function = refl

pub each_profile_fault-bad_string : read_pprof (10 ∷ 4 ∷ 8 ∷ 1 ∷ 16 ∷ 1 ∷ 10 ∷ 4 ∷ 8 ∷ 2 ∷ 16 ∷ 2 ∷ 18 ∷ 7 ∷ 10 ∷ 1 ∷ 1 ∷ 18 ∷ 2 ∷ 5 ∷ 9 ∷ 34 ∷ 6 ∷ 8 ∷ 1 ∷ 34 ∷ 2 ∷ 8 ∷ 1 ∷ 42 ∷ 4 ∷ 8 ∷ 1 ∷ 16 ∷ 3 ∷ 50 ∷ 0 ∷ 50 ∷ 1 ∷ 110 ∷ 50 ∷ 3 ∷ 99 ∷ 112 ∷ 117 ∷ 50 ∷ 1 ∷ 102 ∷ 112 ∷ 4 ∷ []) Preferred Plain ≡
    record { samples = []; ending = Fault (record { kind = kind.BadString; at = 48 }) }
unfolding fields_of left_at field_at value_at varint_within numbers_of digits computing
each_profile_fault-bad_string = refl

pub each_profile_fault-bad_string_zero : read_pprof (50 ∷ 1 ∷ 97 ∷ []) Preferred Plain ≡
    record { samples = []; ending = Fault (record { kind = kind.BadStringZero; at = 0 }) }
unfolding fields_of left_at field_at value_at varint_within numbers_of digits computing
each_profile_fault-bad_string_zero = refl

pub each_profile_fault-no_sample_type : read_pprof (18 ∷ 0 ∷ []) Preferred Plain ≡
    record { samples = []; ending = Fault (record { kind = kind.NoSampleType; at = 2 }) }
unfolding fields_of left_at field_at value_at varint_within numbers_of digits computing
each_profile_fault-no_sample_type = refl
