-- What a frame is named by: a name, a system name, neither, or an address.
use Rattle.std.specs.Prelude.{◌≡◌, [], ◌∷◌, refl, codes}
use Rattle.std.specs.Fmt.{digits}
use Rattle.bstr.proofs.Computing.{computing}
use Rattle.stack_core.specs.declared.endings.SourceEnd.TheVariants.{Clean}
use Rattle.wire_fields.specs.Varint.{varint_within}
use Rattle.wire_fields.specs.Reading.{value_at, field_at, left_at, fields_of, numbers_of}
use Rattle.run_options.specs.declared.choices.Pick.TheVariants.{Preferred}
use Rattle.run_options.specs.declared.choices.Naming.TheVariants.{Plain, Lines}
use Rattle.profile_tables.specs.Samples.{read_pprof}

pub names_and_addresses-nameless : read_pprof (10 ∷ 4 ∷ 8 ∷ 1 ∷ 16 ∷ 2 ∷ 18 ∷ 6 ∷ 10 ∷ 1 ∷ 1 ∷ 18 ∷ 1 ∷ 7 ∷ 34 ∷ 8 ∷ 8 ∷ 1 ∷ 34 ∷ 4 ∷ 8 ∷ 1 ∷ 16 ∷ 3 ∷ 42 ∷ 2 ∷ 8 ∷ 1 ∷ 50 ∷ 0 ∷ 50 ∷ 3 ∷ 99 ∷ 112 ∷ 117 ∷ 50 ∷ 2 ∷ 110 ∷ 115 ∷ []) Preferred Plain ≡
    record { samples = record { stack = codes "[unknown]" ∷ []; weight = 7 } ∷ []; ending = Clean 0 }
unfolding fields_of left_at field_at value_at varint_within numbers_of digits computing
names_and_addresses-nameless = refl

pub names_and_addresses-nameless_by_lines : read_pprof (10 ∷ 4 ∷ 8 ∷ 1 ∷ 16 ∷ 2 ∷ 18 ∷ 6 ∷ 10 ∷ 1 ∷ 1 ∷ 18 ∷ 1 ∷ 7 ∷ 34 ∷ 8 ∷ 8 ∷ 1 ∷ 34 ∷ 4 ∷ 8 ∷ 1 ∷ 16 ∷ 3 ∷ 42 ∷ 2 ∷ 8 ∷ 1 ∷ 50 ∷ 0 ∷ 50 ∷ 3 ∷ 99 ∷ 112 ∷ 117 ∷ 50 ∷ 2 ∷ 110 ∷ 115 ∷ []) Preferred Lines ≡
    record { samples = record { stack = codes "[unknown]:3" ∷ []; weight = 7 } ∷ []; ending = Clean 0 }
unfolding fields_of left_at field_at value_at varint_within numbers_of digits computing
names_and_addresses-nameless_by_lines = refl

pub names_and_addresses-system_name : read_pprof (10 ∷ 4 ∷ 8 ∷ 1 ∷ 16 ∷ 2 ∷ 18 ∷ 6 ∷ 10 ∷ 1 ∷ 1 ∷ 18 ∷ 1 ∷ 7 ∷ 34 ∷ 6 ∷ 8 ∷ 1 ∷ 34 ∷ 2 ∷ 8 ∷ 1 ∷ 42 ∷ 4 ∷ 8 ∷ 1 ∷ 24 ∷ 3 ∷ 50 ∷ 0 ∷ 50 ∷ 3 ∷ 99 ∷ 112 ∷ 117 ∷ 50 ∷ 2 ∷ 110 ∷ 115 ∷ 50 ∷ 2 ∷ 95 ∷ 109 ∷ []) Preferred Plain ≡
    record { samples = record { stack = codes "_m" ∷ []; weight = 7 } ∷ []; ending = Clean 0 }
unfolding fields_of left_at field_at value_at varint_within numbers_of digits computing
names_and_addresses-system_name = refl

pub names_and_addresses-no_address : read_pprof (10 ∷ 4 ∷ 8 ∷ 1 ∷ 16 ∷ 2 ∷ 18 ∷ 6 ∷ 10 ∷ 1 ∷ 1 ∷ 18 ∷ 1 ∷ 7 ∷ 34 ∷ 2 ∷ 8 ∷ 1 ∷ 50 ∷ 0 ∷ 50 ∷ 3 ∷ 99 ∷ 112 ∷ 117 ∷ 50 ∷ 2 ∷ 110 ∷ 115 ∷ []) Preferred Plain ≡
    record { samples = record { stack = codes "0x0" ∷ []; weight = 7 } ∷ []; ending = Clean 0 }
unfolding fields_of left_at field_at value_at varint_within numbers_of digits computing
names_and_addresses-no_address = refl

pub names_and_addresses-no_function : read_pprof (10 ∷ 4 ∷ 8 ∷ 1 ∷ 16 ∷ 2 ∷ 18 ∷ 6 ∷ 10 ∷ 1 ∷ 1 ∷ 18 ∷ 1 ∷ 7 ∷ 34 ∷ 9 ∷ 8 ∷ 1 ∷ 24 ∷ 240 ∷ 3 ∷ 34 ∷ 2 ∷ 16 ∷ 3 ∷ 50 ∷ 0 ∷ 50 ∷ 3 ∷ 99 ∷ 112 ∷ 117 ∷ 50 ∷ 2 ∷ 110 ∷ 115 ∷ []) Preferred Plain ≡
    record { samples = record { stack = codes "0x1f0" ∷ []; weight = 7 } ∷ []; ending = Clean 0 }
unfolding fields_of left_at field_at value_at varint_within numbers_of digits computing
names_and_addresses-no_function = refl

pub names_and_addresses-no_function_by_lines : read_pprof (10 ∷ 4 ∷ 8 ∷ 1 ∷ 16 ∷ 2 ∷ 18 ∷ 6 ∷ 10 ∷ 1 ∷ 1 ∷ 18 ∷ 1 ∷ 7 ∷ 34 ∷ 9 ∷ 8 ∷ 1 ∷ 24 ∷ 240 ∷ 3 ∷ 34 ∷ 2 ∷ 16 ∷ 3 ∷ 50 ∷ 0 ∷ 50 ∷ 3 ∷ 99 ∷ 112 ∷ 117 ∷ 50 ∷ 2 ∷ 110 ∷ 115 ∷ []) Preferred Lines ≡
    record { samples = record { stack = codes "0x1f0" ∷ []; weight = 7 } ∷ []; ending = Clean 0 }
unfolding fields_of left_at field_at value_at varint_within numbers_of digits computing
names_and_addresses-no_function_by_lines = refl

pub names_and_addresses-negative_line : read_pprof (10 ∷ 4 ∷ 8 ∷ 1 ∷ 16 ∷ 2 ∷ 18 ∷ 6 ∷ 10 ∷ 1 ∷ 1 ∷ 18 ∷ 1 ∷ 7 ∷ 34 ∷ 17 ∷ 8 ∷ 1 ∷ 34 ∷ 13 ∷ 8 ∷ 1 ∷ 16 ∷ 255 ∷ 255 ∷ 255 ∷ 255 ∷ 255 ∷ 255 ∷ 255 ∷ 255 ∷ 255 ∷ 1 ∷ 42 ∷ 4 ∷ 8 ∷ 1 ∷ 16 ∷ 3 ∷ 50 ∷ 0 ∷ 50 ∷ 3 ∷ 99 ∷ 112 ∷ 117 ∷ 50 ∷ 2 ∷ 110 ∷ 115 ∷ 50 ∷ 4 ∷ 109 ∷ 97 ∷ 105 ∷ 110 ∷ []) Preferred Lines ≡
    record { samples = record { stack = codes "main" ∷ []; weight = 7 } ∷ []; ending = Clean 0 }
unfolding fields_of left_at field_at value_at varint_within numbers_of digits computing
names_and_addresses-negative_line = refl
