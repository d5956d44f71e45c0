-- Two sample types named `n`, with the values 5 and 9: the first of them is the one that is named.
use Rattle.std.specs.Prelude.{◌≡◌, [], ◌∷◌, refl, codes}
use Rattle.std.specs.Fmt.{digits}
use Rattle.bstr.proofs.Computing.{computing}
use Rattle.stack_core.specs.declared.endings.SourceEnd.TheVariants.{Clean}
use Rattle.wire_fields.specs.Varint.{varint_within}
use Rattle.wire_fields.specs.Reading.{value_at, field_at, left_at, fields_of, numbers_of}
use Rattle.run_options.specs.declared.choices.Pick.TheVariants.{Preferred, Named}
use Rattle.run_options.specs.declared.choices.Naming.TheVariants.{Plain}
use Rattle.profile_tables.specs.Samples.{read_pprof}

pub types_of_one_name-named : read_pprof (10 ∷ 4 ∷ 8 ∷ 1 ∷ 16 ∷ 1 ∷ 10 ∷ 4 ∷ 8 ∷ 1 ∷ 16 ∷ 2 ∷ 18 ∷ 7 ∷ 10 ∷ 1 ∷ 1 ∷ 18 ∷ 2 ∷ 5 ∷ 9 ∷ 34 ∷ 6 ∷ 8 ∷ 1 ∷ 34 ∷ 2 ∷ 8 ∷ 1 ∷ 42 ∷ 4 ∷ 8 ∷ 1 ∷ 16 ∷ 3 ∷ 50 ∷ 0 ∷ 50 ∷ 1 ∷ 110 ∷ 50 ∷ 3 ∷ 99 ∷ 112 ∷ 117 ∷ 50 ∷ 1 ∷ 102 ∷ []) (Named (codes "n")) Plain ≡
    record { samples = record { stack = codes "f" ∷ []; weight = 5 } ∷ []; ending = Clean 0 }
unfolding fields_of left_at field_at value_at varint_within numbers_of digits computing
types_of_one_name-named = refl

pub types_of_one_name-default : read_pprof (10 ∷ 4 ∷ 8 ∷ 1 ∷ 16 ∷ 1 ∷ 10 ∷ 4 ∷ 8 ∷ 1 ∷ 16 ∷ 2 ∷ 18 ∷ 7 ∷ 10 ∷ 1 ∷ 1 ∷ 18 ∷ 2 ∷ 5 ∷ 9 ∷ 34 ∷ 6 ∷ 8 ∷ 1 ∷ 34 ∷ 2 ∷ 8 ∷ 1 ∷ 42 ∷ 4 ∷ 8 ∷ 1 ∷ 16 ∷ 3 ∷ 50 ∷ 0 ∷ 50 ∷ 1 ∷ 110 ∷ 50 ∷ 3 ∷ 99 ∷ 112 ∷ 117 ∷ 50 ∷ 1 ∷ 102 ∷ 112 ∷ 1 ∷ []) Preferred Plain ≡
    record { samples = record { stack = codes "f" ∷ []; weight = 5 } ∷ []; ending = Clean 0 }
unfolding fields_of left_at field_at value_at varint_within numbers_of digits computing
types_of_one_name-default = refl

pub types_of_one_name-last : read_pprof (10 ∷ 4 ∷ 8 ∷ 1 ∷ 16 ∷ 1 ∷ 10 ∷ 4 ∷ 8 ∷ 1 ∷ 16 ∷ 2 ∷ 18 ∷ 7 ∷ 10 ∷ 1 ∷ 1 ∷ 18 ∷ 2 ∷ 5 ∷ 9 ∷ 34 ∷ 6 ∷ 8 ∷ 1 ∷ 34 ∷ 2 ∷ 8 ∷ 1 ∷ 42 ∷ 4 ∷ 8 ∷ 1 ∷ 16 ∷ 3 ∷ 50 ∷ 0 ∷ 50 ∷ 1 ∷ 110 ∷ 50 ∷ 3 ∷ 99 ∷ 112 ∷ 117 ∷ 50 ∷ 1 ∷ 102 ∷ []) Preferred Plain ≡
    record { samples = record { stack = codes "f" ∷ []; weight = 9 } ∷ []; ending = Clean 0 }
unfolding fields_of left_at field_at value_at varint_within numbers_of digits computing
types_of_one_name-last = refl
