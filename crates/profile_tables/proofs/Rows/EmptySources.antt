-- Empty bytes: no samples.
use Rattle.std.specs.Prelude.{◌≡◌, [], refl}
use Rattle.std.specs.Fmt.{digits}
use Rattle.bstr.proofs.Computing.{computing}
use Rattle.stack_core.specs.declared.endings.SourceEnd.TheVariants.{Clean}
use Rattle.wire_fields.specs.Varint.{varint_within}
use Rattle.wire_fields.specs.Reading.{value_at, field_at, left_at, fields_of, numbers_of}
use Rattle.run_options.specs.declared.choices.Pick.TheVariants.{Preferred}
use Rattle.run_options.specs.declared.choices.Naming.TheVariants.{Plain}
use Rattle.profile_tables.specs.Samples.{read_pprof}

pub empty_sources : read_pprof ([]) Preferred Plain ≡
    record { samples = []; ending = Clean 0 }
unfolding fields_of left_at field_at value_at varint_within numbers_of digits computing
empty_sources = refl
