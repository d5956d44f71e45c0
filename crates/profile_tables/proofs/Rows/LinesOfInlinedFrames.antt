-- Frames by line.
use Rattle.std.specs.Prelude.{◌≡◌, [], ◌∷◌, refl, codes}
use Rattle.std.specs.Fmt.{digits}
use Rattle.bstr.proofs.Computing.{computing}
use Rattle.stack_core.specs.declared.endings.SourceEnd.TheVariants.{Clean}
use Rattle.wire_fields.specs.Varint.{varint_within}
use Rattle.wire_fields.specs.Reading.{value_at, field_at, left_at, fields_of, numbers_of}
use Rattle.run_options.specs.declared.choices.Pick.TheVariants.{Preferred}
use Rattle.run_options.specs.declared.choices.Naming.TheVariants.{Plain, Lines}
use Rattle.profile_tables.specs.Samples.{read_pprof}

pub lines_of_inlined_frames-plain : read_pprof (10 ∷ 4 ∷ 8 ∷ 1 ∷ 16 ∷ 2 ∷ 18 ∷ 6 ∷ 10 ∷ 1 ∷ 1 ∷ 18 ∷ 1 ∷ 7 ∷ 34 ∷ 14 ∷ 8 ∷ 1 ∷ 34 ∷ 4 ∷ 8 ∷ 1 ∷ 16 ∷ 12 ∷ 34 ∷ 4 ∷ 8 ∷ 2 ∷ 16 ∷ 40 ∷ 42 ∷ 4 ∷ 8 ∷ 1 ∷ 16 ∷ 3 ∷ 42 ∷ 4 ∷ 8 ∷ 2 ∷ 16 ∷ 4 ∷ 50 ∷ 0 ∷ 50 ∷ 3 ∷ 99 ∷ 112 ∷ 117 ∷ 50 ∷ 2 ∷ 110 ∷ 115 ∷ 50 ∷ 6 ∷ 109 ∷ 101 ∷ 109 ∷ 99 ∷ 112 ∷ 121 ∷ 50 ∷ 6 ∷ 112 ∷ 114 ∷ 105 ∷ 110 ∷ 116 ∷ 102 ∷ []) Preferred Plain ≡
    record { samples = record { stack = codes "printf" ∷ codes "memcpy" ∷ []; weight = 7 } ∷ []; ending = Clean 0 }
unfolding fields_of left_at field_at value_at varint_within numbers_of digits computing
lines_of_inlined_frames-plain = refl

pub lines_of_inlined_frames-lines : read_pprof (10 ∷ 4 ∷ 8 ∷ 1 ∷ 16 ∷ 2 ∷ 18 ∷ 6 ∷ 10 ∷ 1 ∷ 1 ∷ 18 ∷ 1 ∷ 7 ∷ 34 ∷ 14 ∷ 8 ∷ 1 ∷ 34 ∷ 4 ∷ 8 ∷ 1 ∷ 16 ∷ 12 ∷ 34 ∷ 4 ∷ 8 ∷ 2 ∷ 16 ∷ 40 ∷ 42 ∷ 4 ∷ 8 ∷ 1 ∷ 16 ∷ 3 ∷ 42 ∷ 4 ∷ 8 ∷ 2 ∷ 16 ∷ 4 ∷ 50 ∷ 0 ∷ 50 ∷ 3 ∷ 99 ∷ 112 ∷ 117 ∷ 50 ∷ 2 ∷ 110 ∷ 115 ∷ 50 ∷ 6 ∷ 109 ∷ 101 ∷ 109 ∷ 99 ∷ 112 ∷ 121 ∷ 50 ∷ 6 ∷ 112 ∷ 114 ∷ 105 ∷ 110 ∷ 116 ∷ 102 ∷ []) Preferred Lines ≡
    record { samples = record { stack = codes "printf:40" ∷ codes "memcpy:12" ∷ []; weight = 7 } ∷ []; ending = Clean 0 }
unfolding fields_of left_at field_at value_at varint_within numbers_of digits computing
lines_of_inlined_frames-lines = refl
