-- worked examples of the text of sample types
use Rattle.std.proofs.Common.{◌≡◌, List, [], ◌∷◌, Some, None, codes, refl}
use Rattle.profile_messages.specs.declared.types.SampleType.{SampleType}
use Rattle.view_texts.specs.Types.{types_text}

abbrev both : List SampleType
both = record { name = codes "samples"; unit = codes "count" } ∷ record { name = codes "cpu"; unit = codes "nanoseconds" } ∷ []

the_last_is_default : types_text (record { types = both; default = Some 1 })
    ≡ codes "samples\tcount\ncpu\tnanoseconds\tdefault\n"
the_last_is_default = refl

none_is_default : types_text (record { types = both; default = None }) ≡ codes "samples\tcount\ncpu\tnanoseconds\n"
none_is_default = refl

no_types : types_text (record { types = []; default = None }) ≡ []
no_types = refl
