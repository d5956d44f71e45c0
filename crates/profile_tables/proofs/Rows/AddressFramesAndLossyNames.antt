-- Frames without a function, and names that are not text.
use Rattle.std.specs.Prelude.{◌≡◌, [], ◌∷◌, refl, codes}
use Rattle.std.specs.Fmt.{digits}
use Rattle.bstr.proofs.Computing.{computing}
use Rattle.stack_core.specs.declared.endings.SourceEnd.TheVariants.{Clean}
use Rattle.wire_fields.specs.Varint.{varint_within}
use Rattle.wire_fields.specs.Reading.{value_at, field_at, left_at, fields_of, numbers_of}
use Rattle.run_options.specs.declared.choices.Pick.TheVariants.{Preferred}
use Rattle.run_options.specs.declared.choices.Naming.TheVariants.{Plain, Lines}
use Rattle.profile_tables.specs.Samples.{read_pprof}

pub address_frames_and_lossy_names-address : read_pprof (10 ∷ 4 ∷ 8 ∷ 1 ∷ 16 ∷ 2 ∷ 18 ∷ 6 ∷ 10 ∷ 1 ∷ 1 ∷ 18 ∷ 1 ∷ 7 ∷ 34 ∷ 5 ∷ 8 ∷ 1 ∷ 24 ∷ 240 ∷ 3 ∷ 50 ∷ 0 ∷ 50 ∷ 3 ∷ 99 ∷ 112 ∷ 117 ∷ 50 ∷ 2 ∷ 110 ∷ 115 ∷ []) Preferred Plain ≡
    record { samples = record { stack = codes "0x1f0" ∷ []; weight = 7 } ∷ []; ending = Clean 0 }
unfolding fields_of left_at field_at value_at varint_within numbers_of digits computing
address_frames_and_lossy_names-address = refl

pub address_frames_and_lossy_names-address_by_lines : read_pprof (10 ∷ 4 ∷ 8 ∷ 1 ∷ 16 ∷ 2 ∷ 18 ∷ 6 ∷ 10 ∷ 1 ∷ 1 ∷ 18 ∷ 1 ∷ 7 ∷ 34 ∷ 5 ∷ 8 ∷ 1 ∷ 24 ∷ 240 ∷ 3 ∷ 50 ∷ 0 ∷ 50 ∷ 3 ∷ 99 ∷ 112 ∷ 117 ∷ 50 ∷ 2 ∷ 110 ∷ 115 ∷ []) Preferred Lines ≡
    record { samples = record { stack = codes "0x1f0" ∷ []; weight = 7 } ∷ []; ending = Clean 0 }
unfolding fields_of left_at field_at value_at varint_within numbers_of digits computing
address_frames_and_lossy_names-address_by_lines = refl

pub address_frames_and_lossy_names-empty_stack : read_pprof (10 ∷ 4 ∷ 8 ∷ 1 ∷ 16 ∷ 2 ∷ 18 ∷ 3 ∷ 18 ∷ 1 ∷ 7 ∷ 34 ∷ 5 ∷ 8 ∷ 1 ∷ 24 ∷ 240 ∷ 3 ∷ 50 ∷ 0 ∷ 50 ∷ 3 ∷ 99 ∷ 112 ∷ 117 ∷ 50 ∷ 2 ∷ 110 ∷ 115 ∷ []) Preferred Plain ≡
    record { samples = record { stack = []; weight = 7 } ∷ []; ending = Clean 0 }
unfolding fields_of left_at field_at value_at varint_within numbers_of digits computing
address_frames_and_lossy_names-empty_stack = refl

pub address_frames_and_lossy_names-separators : read_pprof (10 ∷ 4 ∷ 8 ∷ 1 ∷ 16 ∷ 2 ∷ 18 ∷ 6 ∷ 10 ∷ 1 ∷ 1 ∷ 18 ∷ 1 ∷ 7 ∷ 34 ∷ 6 ∷ 8 ∷ 1 ∷ 34 ∷ 2 ∷ 8 ∷ 1 ∷ 42 ∷ 4 ∷ 8 ∷ 1 ∷ 16 ∷ 3 ∷ 50 ∷ 0 ∷ 50 ∷ 3 ∷ 99 ∷ 112 ∷ 117 ∷ 50 ∷ 2 ∷ 110 ∷ 115 ∷ 50 ∷ 4 ∷ 97 ∷ 59 ∷ 255 ∷ 10 ∷ []) Preferred Plain ≡
    record { samples = record { stack = (97 ∷ 58 ∷ 239 ∷ 191 ∷ 189 ∷ 32 ∷ []) ∷ []; weight = 7 } ∷ []; ending = Clean 0 }
unfolding fields_of left_at field_at value_at varint_within numbers_of digits computing
address_frames_and_lossy_names-separators = refl

pub address_frames_and_lossy_names-cut_character : read_pprof (10 ∷ 4 ∷ 8 ∷ 1 ∷ 16 ∷ 2 ∷ 18 ∷ 6 ∷ 10 ∷ 1 ∷ 1 ∷ 18 ∷ 1 ∷ 7 ∷ 34 ∷ 6 ∷ 8 ∷ 1 ∷ 34 ∷ 2 ∷ 8 ∷ 1 ∷ 42 ∷ 4 ∷ 8 ∷ 1 ∷ 16 ∷ 3 ∷ 50 ∷ 0 ∷ 50 ∷ 3 ∷ 99 ∷ 112 ∷ 117 ∷ 50 ∷ 2 ∷ 110 ∷ 115 ∷ 50 ∷ 4 ∷ 226 ∷ 130 ∷ 65 ∷ 192 ∷ []) Preferred Plain ≡
    record { samples = record { stack = (239 ∷ 191 ∷ 189 ∷ 65 ∷ 239 ∷ 191 ∷ 189 ∷ []) ∷ []; weight = 7 } ∷ []; ending = Clean 0 }
unfolding fields_of left_at field_at value_at varint_within numbers_of digits computing
address_frames_and_lossy_names-cut_character = refl
