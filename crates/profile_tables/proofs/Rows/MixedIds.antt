-- A sample whose location ids stand singly and packed, each in its place.
use Rattle.std.specs.Prelude.{◌≡◌, [], ◌∷◌, refl, codes}
use Rattle.std.specs.Fmt.{digits}
use Rattle.bstr.proofs.Computing.{computing}
use Rattle.stack_core.specs.declared.endings.SourceEnd.TheVariants.{Clean}
use Rattle.wire_fields.specs.Varint.{varint_within}
use Rattle.wire_fields.specs.Reading.{value_at, field_at, left_at, fields_of, numbers_of}
use Rattle.run_options.specs.declared.choices.Pick.TheVariants.{Preferred}
use Rattle.run_options.specs.declared.choices.Naming.TheVariants.{Plain}
use Rattle.profile_tables.specs.Samples.{read_pprof}

pub mixed_ids : read_pprof (10 ∷ 4 ∷ 8 ∷ 1 ∷ 16 ∷ 2 ∷ 18 ∷ 10 ∷ 8 ∷ 1 ∷ 10 ∷ 2 ∷ 2 ∷ 1 ∷ 8 ∷ 2 ∷ 16 ∷ 7 ∷ 34 ∷ 6 ∷ 8 ∷ 1 ∷ 34 ∷ 2 ∷ 8 ∷ 1 ∷ 34 ∷ 6 ∷ 8 ∷ 2 ∷ 34 ∷ 2 ∷ 8 ∷ 2 ∷ 42 ∷ 4 ∷ 8 ∷ 1 ∷ 16 ∷ 3 ∷ 42 ∷ 4 ∷ 8 ∷ 2 ∷ 16 ∷ 4 ∷ 50 ∷ 0 ∷ 50 ∷ 3 ∷ 99 ∷ 112 ∷ 117 ∷ 50 ∷ 2 ∷ 110 ∷ 115 ∷ 50 ∷ 1 ∷ 97 ∷ 50 ∷ 1 ∷ 98 ∷ []) Preferred Plain ≡
    record { samples = record { stack = codes "b" ∷ codes "a" ∷ codes "b" ∷ codes "a" ∷ []; weight = 7 } ∷ []; ending = Clean 0 }
unfolding fields_of left_at field_at value_at varint_within numbers_of digits computing
mixed_ids = refl
