-- Two lines of one function are two frames by line, and one by function.
use Rattle.std.specs.Prelude.{◌≡◌, [], ◌∷◌, refl, codes}
use Rattle.std.specs.Fmt.{digits}
use Rattle.bstr.proofs.Computing.{computing}
use Rattle.stack_core.specs.declared.endings.SourceEnd.TheVariants.{Clean}
use Rattle.wire_fields.specs.Varint.{varint_within}
use Rattle.wire_fields.specs.Reading.{value_at, field_at, left_at, fields_of, numbers_of}
use Rattle.run_options.specs.declared.choices.Pick.TheVariants.{Preferred}
use Rattle.run_options.specs.declared.choices.Naming.TheVariants.{Plain, Lines}
use Rattle.profile_tables.specs.Samples.{read_pprof}

pub one_function_two_lines-plain : read_pprof (10 ∷ 4 ∷ 8 ∷ 1 ∷ 16 ∷ 1 ∷ 18 ∷ 4 ∷ 8 ∷ 1 ∷ 16 ∷ 1 ∷ 18 ∷ 4 ∷ 8 ∷ 2 ∷ 16 ∷ 1 ∷ 34 ∷ 8 ∷ 8 ∷ 1 ∷ 34 ∷ 4 ∷ 8 ∷ 1 ∷ 16 ∷ 1 ∷ 34 ∷ 8 ∷ 8 ∷ 2 ∷ 34 ∷ 4 ∷ 8 ∷ 1 ∷ 16 ∷ 2 ∷ 42 ∷ 4 ∷ 8 ∷ 1 ∷ 16 ∷ 2 ∷ 50 ∷ 0 ∷ 50 ∷ 1 ∷ 110 ∷ 50 ∷ 1 ∷ 102 ∷ []) Preferred Plain ≡
    record { samples = record { stack = codes "f" ∷ []; weight = 1 } ∷ record { stack = codes "f" ∷ []; weight = 1 } ∷ []; ending = Clean 0 }
unfolding fields_of left_at field_at value_at varint_within numbers_of digits computing
one_function_two_lines-plain = refl

pub one_function_two_lines-lines : read_pprof (10 ∷ 4 ∷ 8 ∷ 1 ∷ 16 ∷ 1 ∷ 18 ∷ 4 ∷ 8 ∷ 1 ∷ 16 ∷ 1 ∷ 18 ∷ 4 ∷ 8 ∷ 2 ∷ 16 ∷ 1 ∷ 34 ∷ 8 ∷ 8 ∷ 1 ∷ 34 ∷ 4 ∷ 8 ∷ 1 ∷ 16 ∷ 1 ∷ 34 ∷ 8 ∷ 8 ∷ 2 ∷ 34 ∷ 4 ∷ 8 ∷ 1 ∷ 16 ∷ 2 ∷ 42 ∷ 4 ∷ 8 ∷ 1 ∷ 16 ∷ 2 ∷ 50 ∷ 0 ∷ 50 ∷ 1 ∷ 110 ∷ 50 ∷ 1 ∷ 102 ∷ []) Preferred Lines ≡
    record { samples = record { stack = codes "f:1" ∷ []; weight = 1 } ∷ record { stack = codes "f:2" ∷ []; weight = 1 } ∷ []; ending = Clean 0 }
unfolding fields_of left_at field_at value_at varint_within numbers_of digits computing
one_function_two_lines-lines = refl
