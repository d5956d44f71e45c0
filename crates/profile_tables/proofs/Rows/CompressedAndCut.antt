-- gzip, and the smallest profile cut short at each byte.
use Rattle.std.specs.Prelude.{◌≡◌, [], ◌∷◌, refl}
use Rattle.std.specs.Fmt.{digits}
use Rattle.bstr.proofs.Computing.{computing}
use Rattle.stack_core.specs.declared.endings.ReadKind.TheVariants as kind
use Rattle.stack_core.specs.declared.endings.SourceEnd.TheVariants.{Clean, Fault}
use Rattle.wire_fields.specs.Varint.{varint_within}
use Rattle.wire_fields.specs.Reading.{value_at, field_at, left_at, fields_of, numbers_of}
use Rattle.run_options.specs.declared.choices.Pick.TheVariants.{Preferred}
use Rattle.run_options.specs.declared.choices.Naming.TheVariants.{Plain}
use Rattle.profile_tables.specs.Samples.{read_pprof}

pub compressed_and_cut-gzip : read_pprof (31 ∷ 139 ∷ 8 ∷ []) Preferred Plain ≡
    record { samples = []; ending = Fault (record { kind = kind.Compressed; at = 0 }) }
unfolding fields_of left_at field_at value_at varint_within numbers_of digits computing
compressed_and_cut-gzip = refl

pub compressed_and_cut-gzip_alone : read_pprof (31 ∷ 139 ∷ []) Preferred Plain ≡
    record { samples = []; ending = Fault (record { kind = kind.Compressed; at = 0 }) }
unfolding fields_of left_at field_at value_at varint_within numbers_of digits computing
compressed_and_cut-gzip_alone = refl

pub compressed_and_cut-0 : read_pprof ([]) Preferred Plain ≡
    record { samples = []; ending = Clean 0 }
unfolding fields_of left_at field_at value_at varint_within numbers_of digits computing
compressed_and_cut-0 = refl

pub compressed_and_cut-1 : read_pprof (10 ∷ []) Preferred Plain ≡
    record { samples = []; ending = Fault (record { kind = kind.Truncated; at = 0 }) }
unfolding fields_of left_at field_at value_at varint_within numbers_of digits computing
compressed_and_cut-1 = refl

pub compressed_and_cut-2 : read_pprof (10 ∷ 4 ∷ []) Preferred Plain ≡
    record { samples = []; ending = Fault (record { kind = kind.Truncated; at = 0 }) }
unfolding fields_of left_at field_at value_at varint_within numbers_of digits computing
compressed_and_cut-2 = refl

pub compressed_and_cut-3 : read_pprof (10 ∷ 4 ∷ 8 ∷ []) Preferred Plain ≡
    record { samples = []; ending = Fault (record { kind = kind.Truncated; at = 0 }) }
unfolding fields_of left_at field_at value_at varint_within numbers_of digits computing
compressed_and_cut-3 = refl

pub compressed_and_cut-4 : read_pprof (10 ∷ 4 ∷ 8 ∷ 1 ∷ []) Preferred Plain ≡
    record { samples = []; ending = Fault (record { kind = kind.Truncated; at = 0 }) }
unfolding fields_of left_at field_at value_at varint_within numbers_of digits computing
compressed_and_cut-4 = refl

pub compressed_and_cut-5 : read_pprof (10 ∷ 4 ∷ 8 ∷ 1 ∷ 16 ∷ []) Preferred Plain ≡
    record { samples = []; ending = Fault (record { kind = kind.Truncated; at = 0 }) }
unfolding fields_of left_at field_at value_at varint_within numbers_of digits computing
compressed_and_cut-5 = refl

pub compressed_and_cut-6 : read_pprof (10 ∷ 4 ∷ 8 ∷ 1 ∷ 16 ∷ 2 ∷ []) Preferred Plain ≡
    record { samples = []; ending = Fault (record { kind = kind.BadString; at = 0 }) }
unfolding fields_of left_at field_at value_at varint_within numbers_of digits computing
compressed_and_cut-6 = refl

pub compressed_and_cut-7 : read_pprof (10 ∷ 4 ∷ 8 ∷ 1 ∷ 16 ∷ 2 ∷ 18 ∷ []) Preferred Plain ≡
    record { samples = []; ending = Fault (record { kind = kind.Truncated; at = 6 }) }
unfolding fields_of left_at field_at value_at varint_within numbers_of digits computing
compressed_and_cut-7 = refl

pub compressed_and_cut-8 : read_pprof (10 ∷ 4 ∷ 8 ∷ 1 ∷ 16 ∷ 2 ∷ 18 ∷ 6 ∷ []) Preferred Plain ≡
    record { samples = []; ending = Fault (record { kind = kind.Truncated; at = 6 }) }
unfolding fields_of left_at field_at value_at varint_within numbers_of digits computing
compressed_and_cut-8 = refl

pub compressed_and_cut-9 : read_pprof (10 ∷ 4 ∷ 8 ∷ 1 ∷ 16 ∷ 2 ∷ 18 ∷ 6 ∷ 10 ∷ []) Preferred Plain ≡
    record { samples = []; ending = Fault (record { kind = kind.Truncated; at = 6 }) }
unfolding fields_of left_at field_at value_at varint_within numbers_of digits computing
compressed_and_cut-9 = refl

pub compressed_and_cut-10 : read_pprof (10 ∷ 4 ∷ 8 ∷ 1 ∷ 16 ∷ 2 ∷ 18 ∷ 6 ∷ 10 ∷ 1 ∷ []) Preferred Plain ≡
    record { samples = []; ending = Fault (record { kind = kind.Truncated; at = 6 }) }
unfolding fields_of left_at field_at value_at varint_within numbers_of digits computing
compressed_and_cut-10 = refl

pub compressed_and_cut-11 : read_pprof (10 ∷ 4 ∷ 8 ∷ 1 ∷ 16 ∷ 2 ∷ 18 ∷ 6 ∷ 10 ∷ 1 ∷ 1 ∷ []) Preferred Plain ≡
    record { samples = []; ending = Fault (record { kind = kind.Truncated; at = 6 }) }
unfolding fields_of left_at field_at value_at varint_within numbers_of digits computing
compressed_and_cut-11 = refl

pub compressed_and_cut-12 : read_pprof (10 ∷ 4 ∷ 8 ∷ 1 ∷ 16 ∷ 2 ∷ 18 ∷ 6 ∷ 10 ∷ 1 ∷ 1 ∷ 18 ∷ []) Preferred Plain ≡
    record { samples = []; ending = Fault (record { kind = kind.Truncated; at = 6 }) }
unfolding fields_of left_at field_at value_at varint_within numbers_of digits computing
compressed_and_cut-12 = refl

pub compressed_and_cut-13 : read_pprof (10 ∷ 4 ∷ 8 ∷ 1 ∷ 16 ∷ 2 ∷ 18 ∷ 6 ∷ 10 ∷ 1 ∷ 1 ∷ 18 ∷ 1 ∷ []) Preferred Plain ≡
    record { samples = []; ending = Fault (record { kind = kind.Truncated; at = 6 }) }
unfolding fields_of left_at field_at value_at varint_within numbers_of digits computing
compressed_and_cut-13 = refl

pub compressed_and_cut-14 : read_pprof (10 ∷ 4 ∷ 8 ∷ 1 ∷ 16 ∷ 2 ∷ 18 ∷ 6 ∷ 10 ∷ 1 ∷ 1 ∷ 18 ∷ 1 ∷ 7 ∷ []) Preferred Plain ≡
    record { samples = []; ending = Fault (record { kind = kind.BadString; at = 0 }) }
unfolding fields_of left_at field_at value_at varint_within numbers_of digits computing
compressed_and_cut-14 = refl

pub compressed_and_cut-15 : read_pprof (10 ∷ 4 ∷ 8 ∷ 1 ∷ 16 ∷ 2 ∷ 18 ∷ 6 ∷ 10 ∷ 1 ∷ 1 ∷ 18 ∷ 1 ∷ 7 ∷ 34 ∷ []) Preferred Plain ≡
    record { samples = []; ending = Fault (record { kind = kind.Truncated; at = 14 }) }
unfolding fields_of left_at field_at value_at varint_within numbers_of digits computing
compressed_and_cut-15 = refl

pub compressed_and_cut-16 : read_pprof (10 ∷ 4 ∷ 8 ∷ 1 ∷ 16 ∷ 2 ∷ 18 ∷ 6 ∷ 10 ∷ 1 ∷ 1 ∷ 18 ∷ 1 ∷ 7 ∷ 34 ∷ 6 ∷ []) Preferred Plain ≡
    record { samples = []; ending = Fault (record { kind = kind.Truncated; at = 14 }) }
unfolding fields_of left_at field_at value_at varint_within numbers_of digits computing
compressed_and_cut-16 = refl

pub compressed_and_cut-17 : read_pprof (10 ∷ 4 ∷ 8 ∷ 1 ∷ 16 ∷ 2 ∷ 18 ∷ 6 ∷ 10 ∷ 1 ∷ 1 ∷ 18 ∷ 1 ∷ 7 ∷ 34 ∷ 6 ∷ 8 ∷ []) Preferred Plain ≡
    record { samples = []; ending = Fault (record { kind = kind.Truncated; at = 14 }) }
unfolding fields_of left_at field_at value_at varint_within numbers_of digits computing
compressed_and_cut-17 = refl

pub compressed_and_cut-18 : read_pprof (10 ∷ 4 ∷ 8 ∷ 1 ∷ 16 ∷ 2 ∷ 18 ∷ 6 ∷ 10 ∷ 1 ∷ 1 ∷ 18 ∷ 1 ∷ 7 ∷ 34 ∷ 6 ∷ 8 ∷ 1 ∷ []) Preferred Plain ≡
    record { samples = []; ending = Fault (record { kind = kind.Truncated; at = 14 }) }
unfolding fields_of left_at field_at value_at varint_within numbers_of digits computing
compressed_and_cut-18 = refl

pub compressed_and_cut-19 : read_pprof (10 ∷ 4 ∷ 8 ∷ 1 ∷ 16 ∷ 2 ∷ 18 ∷ 6 ∷ 10 ∷ 1 ∷ 1 ∷ 18 ∷ 1 ∷ 7 ∷ 34 ∷ 6 ∷ 8 ∷ 1 ∷ 34 ∷ []) Preferred Plain ≡
    record { samples = []; ending = Fault (record { kind = kind.Truncated; at = 14 }) }
unfolding fields_of left_at field_at value_at varint_within numbers_of digits computing
compressed_and_cut-19 = refl

pub compressed_and_cut-20 : read_pprof (10 ∷ 4 ∷ 8 ∷ 1 ∷ 16 ∷ 2 ∷ 18 ∷ 6 ∷ 10 ∷ 1 ∷ 1 ∷ 18 ∷ 1 ∷ 7 ∷ 34 ∷ 6 ∷ 8 ∷ 1 ∷ 34 ∷ 2 ∷ []) Preferred Plain ≡
    record { samples = []; ending = Fault (record { kind = kind.Truncated; at = 14 }) }
unfolding fields_of left_at field_at value_at varint_within numbers_of digits computing
compressed_and_cut-20 = refl

pub compressed_and_cut-21 : read_pprof (10 ∷ 4 ∷ 8 ∷ 1 ∷ 16 ∷ 2 ∷ 18 ∷ 6 ∷ 10 ∷ 1 ∷ 1 ∷ 18 ∷ 1 ∷ 7 ∷ 34 ∷ 6 ∷ 8 ∷ 1 ∷ 34 ∷ 2 ∷ 8 ∷ []) Preferred Plain ≡
    record { samples = []; ending = Fault (record { kind = kind.Truncated; at = 14 }) }
unfolding fields_of left_at field_at value_at varint_within numbers_of digits computing
compressed_and_cut-21 = refl

pub compressed_and_cut-22 : read_pprof (10 ∷ 4 ∷ 8 ∷ 1 ∷ 16 ∷ 2 ∷ 18 ∷ 6 ∷ 10 ∷ 1 ∷ 1 ∷ 18 ∷ 1 ∷ 7 ∷ 34 ∷ 6 ∷ 8 ∷ 1 ∷ 34 ∷ 2 ∷ 8 ∷ 1 ∷ []) Preferred Plain ≡
    record { samples = []; ending = Fault (record { kind = kind.BadString; at = 0 }) }
unfolding fields_of left_at field_at value_at varint_within numbers_of digits computing
compressed_and_cut-22 = refl

pub compressed_and_cut-23 : read_pprof (10 ∷ 4 ∷ 8 ∷ 1 ∷ 16 ∷ 2 ∷ 18 ∷ 6 ∷ 10 ∷ 1 ∷ 1 ∷ 18 ∷ 1 ∷ 7 ∷ 34 ∷ 6 ∷ 8 ∷ 1 ∷ 34 ∷ 2 ∷ 8 ∷ 1 ∷ 42 ∷ []) Preferred Plain ≡
    record { samples = []; ending = Fault (record { kind = kind.Truncated; at = 22 }) }
unfolding fields_of left_at field_at value_at varint_within numbers_of digits computing
compressed_and_cut-23 = refl

pub compressed_and_cut-24 : read_pprof (10 ∷ 4 ∷ 8 ∷ 1 ∷ 16 ∷ 2 ∷ 18 ∷ 6 ∷ 10 ∷ 1 ∷ 1 ∷ 18 ∷ 1 ∷ 7 ∷ 34 ∷ 6 ∷ 8 ∷ 1 ∷ 34 ∷ 2 ∷ 8 ∷ 1 ∷ 42 ∷ 4 ∷ []) Preferred Plain ≡
    record { samples = []; ending = Fault (record { kind = kind.Truncated; at = 22 }) }
unfolding fields_of left_at field_at value_at varint_within numbers_of digits computing
compressed_and_cut-24 = refl

pub compressed_and_cut-25 : read_pprof (10 ∷ 4 ∷ 8 ∷ 1 ∷ 16 ∷ 2 ∷ 18 ∷ 6 ∷ 10 ∷ 1 ∷ 1 ∷ 18 ∷ 1 ∷ 7 ∷ 34 ∷ 6 ∷ 8 ∷ 1 ∷ 34 ∷ 2 ∷ 8 ∷ 1 ∷ 42 ∷ 4 ∷ 8 ∷ []) Preferred Plain ≡
    record { samples = []; ending = Fault (record { kind = kind.Truncated; at = 22 }) }
unfolding fields_of left_at field_at value_at varint_within numbers_of digits computing
compressed_and_cut-25 = refl

pub compressed_and_cut-26 : read_pprof (10 ∷ 4 ∷ 8 ∷ 1 ∷ 16 ∷ 2 ∷ 18 ∷ 6 ∷ 10 ∷ 1 ∷ 1 ∷ 18 ∷ 1 ∷ 7 ∷ 34 ∷ 6 ∷ 8 ∷ 1 ∷ 34 ∷ 2 ∷ 8 ∷ 1 ∷ 42 ∷ 4 ∷ 8 ∷ 1 ∷ []) Preferred Plain ≡
    record { samples = []; ending = Fault (record { kind = kind.Truncated; at = 22 }) }
unfolding fields_of left_at field_at value_at varint_within numbers_of digits computing
compressed_and_cut-26 = refl

pub compressed_and_cut-27 : read_pprof (10 ∷ 4 ∷ 8 ∷ 1 ∷ 16 ∷ 2 ∷ 18 ∷ 6 ∷ 10 ∷ 1 ∷ 1 ∷ 18 ∷ 1 ∷ 7 ∷ 34 ∷ 6 ∷ 8 ∷ 1 ∷ 34 ∷ 2 ∷ 8 ∷ 1 ∷ 42 ∷ 4 ∷ 8 ∷ 1 ∷ 16 ∷ []) Preferred Plain ≡
    record { samples = []; ending = Fault (record { kind = kind.Truncated; at = 22 }) }
unfolding fields_of left_at field_at value_at varint_within numbers_of digits computing
compressed_and_cut-27 = refl

pub compressed_and_cut-28 : read_pprof (10 ∷ 4 ∷ 8 ∷ 1 ∷ 16 ∷ 2 ∷ 18 ∷ 6 ∷ 10 ∷ 1 ∷ 1 ∷ 18 ∷ 1 ∷ 7 ∷ 34 ∷ 6 ∷ 8 ∷ 1 ∷ 34 ∷ 2 ∷ 8 ∷ 1 ∷ 42 ∷ 4 ∷ 8 ∷ 1 ∷ 16 ∷ 3 ∷ []) Preferred Plain ≡
    record { samples = []; ending = Fault (record { kind = kind.BadString; at = 0 }) }
unfolding fields_of left_at field_at value_at varint_within numbers_of digits computing
compressed_and_cut-28 = refl

pub compressed_and_cut-29 : read_pprof (10 ∷ 4 ∷ 8 ∷ 1 ∷ 16 ∷ 2 ∷ 18 ∷ 6 ∷ 10 ∷ 1 ∷ 1 ∷ 18 ∷ 1 ∷ 7 ∷ 34 ∷ 6 ∷ 8 ∷ 1 ∷ 34 ∷ 2 ∷ 8 ∷ 1 ∷ 42 ∷ 4 ∷ 8 ∷ 1 ∷ 16 ∷ 3 ∷ 50 ∷ []) Preferred Plain ≡
    record { samples = []; ending = Fault (record { kind = kind.Truncated; at = 28 }) }
unfolding fields_of left_at field_at value_at varint_within numbers_of digits computing
compressed_and_cut-29 = refl

pub compressed_and_cut-30 : read_pprof (10 ∷ 4 ∷ 8 ∷ 1 ∷ 16 ∷ 2 ∷ 18 ∷ 6 ∷ 10 ∷ 1 ∷ 1 ∷ 18 ∷ 1 ∷ 7 ∷ 34 ∷ 6 ∷ 8 ∷ 1 ∷ 34 ∷ 2 ∷ 8 ∷ 1 ∷ 42 ∷ 4 ∷ 8 ∷ 1 ∷ 16 ∷ 3 ∷ 50 ∷ 0 ∷ []) Preferred Plain ≡
    record { samples = []; ending = Fault (record { kind = kind.BadString; at = 0 }) }
unfolding fields_of left_at field_at value_at varint_within numbers_of digits computing
compressed_and_cut-30 = refl

pub compressed_and_cut-31 : read_pprof (10 ∷ 4 ∷ 8 ∷ 1 ∷ 16 ∷ 2 ∷ 18 ∷ 6 ∷ 10 ∷ 1 ∷ 1 ∷ 18 ∷ 1 ∷ 7 ∷ 34 ∷ 6 ∷ 8 ∷ 1 ∷ 34 ∷ 2 ∷ 8 ∷ 1 ∷ 42 ∷ 4 ∷ 8 ∷ 1 ∷ 16 ∷ 3 ∷ 50 ∷ 0 ∷ 50 ∷ []) Preferred Plain ≡
    record { samples = []; ending = Fault (record { kind = kind.Truncated; at = 30 }) }
unfolding fields_of left_at field_at value_at varint_within numbers_of digits computing
compressed_and_cut-31 = refl

pub compressed_and_cut-32 : read_pprof (10 ∷ 4 ∷ 8 ∷ 1 ∷ 16 ∷ 2 ∷ 18 ∷ 6 ∷ 10 ∷ 1 ∷ 1 ∷ 18 ∷ 1 ∷ 7 ∷ 34 ∷ 6 ∷ 8 ∷ 1 ∷ 34 ∷ 2 ∷ 8 ∷ 1 ∷ 42 ∷ 4 ∷ 8 ∷ 1 ∷ 16 ∷ 3 ∷ 50 ∷ 0 ∷ 50 ∷ 3 ∷ []) Preferred Plain ≡
    record { samples = []; ending = Fault (record { kind = kind.Truncated; at = 30 }) }
unfolding fields_of left_at field_at value_at varint_within numbers_of digits computing
compressed_and_cut-32 = refl

pub compressed_and_cut-33 : read_pprof (10 ∷ 4 ∷ 8 ∷ 1 ∷ 16 ∷ 2 ∷ 18 ∷ 6 ∷ 10 ∷ 1 ∷ 1 ∷ 18 ∷ 1 ∷ 7 ∷ 34 ∷ 6 ∷ 8 ∷ 1 ∷ 34 ∷ 2 ∷ 8 ∷ 1 ∷ 42 ∷ 4 ∷ 8 ∷ 1 ∷ 16 ∷ 3 ∷ 50 ∷ 0 ∷ 50 ∷ 3 ∷ 99 ∷ []) Preferred Plain ≡
    record { samples = []; ending = Fault (record { kind = kind.Truncated; at = 30 }) }
unfolding fields_of left_at field_at value_at varint_within numbers_of digits computing
compressed_and_cut-33 = refl

pub compressed_and_cut-34 : read_pprof (10 ∷ 4 ∷ 8 ∷ 1 ∷ 16 ∷ 2 ∷ 18 ∷ 6 ∷ 10 ∷ 1 ∷ 1 ∷ 18 ∷ 1 ∷ 7 ∷ 34 ∷ 6 ∷ 8 ∷ 1 ∷ 34 ∷ 2 ∷ 8 ∷ 1 ∷ 42 ∷ 4 ∷ 8 ∷ 1 ∷ 16 ∷ 3 ∷ 50 ∷ 0 ∷ 50 ∷ 3 ∷ 99 ∷ 112 ∷ []) Preferred Plain ≡
    record { samples = []; ending = Fault (record { kind = kind.Truncated; at = 30 }) }
unfolding fields_of left_at field_at value_at varint_within numbers_of digits computing
compressed_and_cut-34 = refl

pub compressed_and_cut-35 : read_pprof (10 ∷ 4 ∷ 8 ∷ 1 ∷ 16 ∷ 2 ∷ 18 ∷ 6 ∷ 10 ∷ 1 ∷ 1 ∷ 18 ∷ 1 ∷ 7 ∷ 34 ∷ 6 ∷ 8 ∷ 1 ∷ 34 ∷ 2 ∷ 8 ∷ 1 ∷ 42 ∷ 4 ∷ 8 ∷ 1 ∷ 16 ∷ 3 ∷ 50 ∷ 0 ∷ 50 ∷ 3 ∷ 99 ∷ 112 ∷ 117 ∷ []) Preferred Plain ≡
    record { samples = []; ending = Fault (record { kind = kind.BadString; at = 0 }) }
unfolding fields_of left_at field_at value_at varint_within numbers_of digits computing
compressed_and_cut-35 = refl

pub compressed_and_cut-36 : read_pprof (10 ∷ 4 ∷ 8 ∷ 1 ∷ 16 ∷ 2 ∷ 18 ∷ 6 ∷ 10 ∷ 1 ∷ 1 ∷ 18 ∷ 1 ∷ 7 ∷ 34 ∷ 6 ∷ 8 ∷ 1 ∷ 34 ∷ 2 ∷ 8 ∷ 1 ∷ 42 ∷ 4 ∷ 8 ∷ 1 ∷ 16 ∷ 3 ∷ 50 ∷ 0 ∷ 50 ∷ 3 ∷ 99 ∷ 112 ∷ 117 ∷ 50 ∷ []) Preferred Plain ≡
    record { samples = []; ending = Fault (record { kind = kind.Truncated; at = 35 }) }
unfolding fields_of left_at field_at value_at varint_within numbers_of digits computing
compressed_and_cut-36 = refl

pub compressed_and_cut-37 : read_pprof (10 ∷ 4 ∷ 8 ∷ 1 ∷ 16 ∷ 2 ∷ 18 ∷ 6 ∷ 10 ∷ 1 ∷ 1 ∷ 18 ∷ 1 ∷ 7 ∷ 34 ∷ 6 ∷ 8 ∷ 1 ∷ 34 ∷ 2 ∷ 8 ∷ 1 ∷ 42 ∷ 4 ∷ 8 ∷ 1 ∷ 16 ∷ 3 ∷ 50 ∷ 0 ∷ 50 ∷ 3 ∷ 99 ∷ 112 ∷ 117 ∷ 50 ∷ 2 ∷ []) Preferred Plain ≡
    record { samples = []; ending = Fault (record { kind = kind.Truncated; at = 35 }) }
unfolding fields_of left_at field_at value_at varint_within numbers_of digits computing
compressed_and_cut-37 = refl

pub compressed_and_cut-38 : read_pprof (10 ∷ 4 ∷ 8 ∷ 1 ∷ 16 ∷ 2 ∷ 18 ∷ 6 ∷ 10 ∷ 1 ∷ 1 ∷ 18 ∷ 1 ∷ 7 ∷ 34 ∷ 6 ∷ 8 ∷ 1 ∷ 34 ∷ 2 ∷ 8 ∷ 1 ∷ 42 ∷ 4 ∷ 8 ∷ 1 ∷ 16 ∷ 3 ∷ 50 ∷ 0 ∷ 50 ∷ 3 ∷ 99 ∷ 112 ∷ 117 ∷ 50 ∷ 2 ∷ 110 ∷ []) Preferred Plain ≡
    record { samples = []; ending = Fault (record { kind = kind.Truncated; at = 35 }) }
unfolding fields_of left_at field_at value_at varint_within numbers_of digits computing
compressed_and_cut-38 = refl

pub compressed_and_cut-39 : read_pprof (10 ∷ 4 ∷ 8 ∷ 1 ∷ 16 ∷ 2 ∷ 18 ∷ 6 ∷ 10 ∷ 1 ∷ 1 ∷ 18 ∷ 1 ∷ 7 ∷ 34 ∷ 6 ∷ 8 ∷ 1 ∷ 34 ∷ 2 ∷ 8 ∷ 1 ∷ 42 ∷ 4 ∷ 8 ∷ 1 ∷ 16 ∷ 3 ∷ 50 ∷ 0 ∷ 50 ∷ 3 ∷ 99 ∷ 112 ∷ 117 ∷ 50 ∷ 2 ∷ 110 ∷ 115 ∷ []) Preferred Plain ≡
    record { samples = []; ending = Fault (record { kind = kind.BadString; at = 22 }) }
unfolding fields_of left_at field_at value_at varint_within numbers_of digits computing
compressed_and_cut-39 = refl

pub compressed_and_cut-40 : read_pprof (10 ∷ 4 ∷ 8 ∷ 1 ∷ 16 ∷ 2 ∷ 18 ∷ 6 ∷ 10 ∷ 1 ∷ 1 ∷ 18 ∷ 1 ∷ 7 ∷ 34 ∷ 6 ∷ 8 ∷ 1 ∷ 34 ∷ 2 ∷ 8 ∷ 1 ∷ 42 ∷ 4 ∷ 8 ∷ 1 ∷ 16 ∷ 3 ∷ 50 ∷ 0 ∷ 50 ∷ 3 ∷ 99 ∷ 112 ∷ 117 ∷ 50 ∷ 2 ∷ 110 ∷ 115 ∷ 50 ∷ []) Preferred Plain ≡
    record { samples = []; ending = Fault (record { kind = kind.Truncated; at = 39 }) }
unfolding fields_of left_at field_at value_at varint_within numbers_of digits computing
compressed_and_cut-40 = refl

pub compressed_and_cut-41 : read_pprof (10 ∷ 4 ∷ 8 ∷ 1 ∷ 16 ∷ 2 ∷ 18 ∷ 6 ∷ 10 ∷ 1 ∷ 1 ∷ 18 ∷ 1 ∷ 7 ∷ 34 ∷ 6 ∷ 8 ∷ 1 ∷ 34 ∷ 2 ∷ 8 ∷ 1 ∷ 42 ∷ 4 ∷ 8 ∷ 1 ∷ 16 ∷ 3 ∷ 50 ∷ 0 ∷ 50 ∷ 3 ∷ 99 ∷ 112 ∷ 117 ∷ 50 ∷ 2 ∷ 110 ∷ 115 ∷ 50 ∷ 4 ∷ []) Preferred Plain ≡
    record { samples = []; ending = Fault (record { kind = kind.Truncated; at = 39 }) }
unfolding fields_of left_at field_at value_at varint_within numbers_of digits computing
compressed_and_cut-41 = refl

pub compressed_and_cut-42 : read_pprof (10 ∷ 4 ∷ 8 ∷ 1 ∷ 16 ∷ 2 ∷ 18 ∷ 6 ∷ 10 ∷ 1 ∷ 1 ∷ 18 ∷ 1 ∷ 7 ∷ 34 ∷ 6 ∷ 8 ∷ 1 ∷ 34 ∷ 2 ∷ 8 ∷ 1 ∷ 42 ∷ 4 ∷ 8 ∷ 1 ∷ 16 ∷ 3 ∷ 50 ∷ 0 ∷ 50 ∷ 3 ∷ 99 ∷ 112 ∷ 117 ∷ 50 ∷ 2 ∷ 110 ∷ 115 ∷ 50 ∷ 4 ∷ 109 ∷ []) Preferred Plain ≡
    record { samples = []; ending = Fault (record { kind = kind.Truncated; at = 39 }) }
unfolding fields_of left_at field_at value_at varint_within numbers_of digits computing
compressed_and_cut-42 = refl

pub compressed_and_cut-43 : read_pprof (10 ∷ 4 ∷ 8 ∷ 1 ∷ 16 ∷ 2 ∷ 18 ∷ 6 ∷ 10 ∷ 1 ∷ 1 ∷ 18 ∷ 1 ∷ 7 ∷ 34 ∷ 6 ∷ 8 ∷ 1 ∷ 34 ∷ 2 ∷ 8 ∷ 1 ∷ 42 ∷ 4 ∷ 8 ∷ 1 ∷ 16 ∷ 3 ∷ 50 ∷ 0 ∷ 50 ∷ 3 ∷ 99 ∷ 112 ∷ 117 ∷ 50 ∷ 2 ∷ 110 ∷ 115 ∷ 50 ∷ 4 ∷ 109 ∷ 97 ∷ []) Preferred Plain ≡
    record { samples = []; ending = Fault (record { kind = kind.Truncated; at = 39 }) }
unfolding fields_of left_at field_at value_at varint_within numbers_of digits computing
compressed_and_cut-43 = refl

pub compressed_and_cut-44 : read_pprof (10 ∷ 4 ∷ 8 ∷ 1 ∷ 16 ∷ 2 ∷ 18 ∷ 6 ∷ 10 ∷ 1 ∷ 1 ∷ 18 ∷ 1 ∷ 7 ∷ 34 ∷ 6 ∷ 8 ∷ 1 ∷ 34 ∷ 2 ∷ 8 ∷ 1 ∷ 42 ∷ 4 ∷ 8 ∷ 1 ∷ 16 ∷ 3 ∷ 50 ∷ 0 ∷ 50 ∷ 3 ∷ 99 ∷ 112 ∷ 117 ∷ 50 ∷ 2 ∷ 110 ∷ 115 ∷ 50 ∷ 4 ∷ 109 ∷ 97 ∷ 105 ∷ []) Preferred Plain ≡
    record { samples = []; ending = Fault (record { kind = kind.Truncated; at = 39 }) }
unfolding fields_of left_at field_at value_at varint_within numbers_of digits computing
compressed_and_cut-44 = refl
