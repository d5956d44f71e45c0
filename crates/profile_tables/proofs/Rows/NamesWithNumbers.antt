-- Names that end in a space and a number, and what stands behind them with lines.
use Rattle.std.specs.Prelude.{◌≡◌, ◌++◌, refl, codes}
use Rattle.std.specs.Fmt.{digits}
use Rattle.bstr.proofs.Computing.{computing}
use Rattle.run_options.specs.declared.choices.Naming.TheVariants.{Plain, Lines}
use Rattle.profile_tables.specs.Naming.{plain_text, line_suffix}

pub names_with_numbers-plain : plain_text (codes "a;b\n12") ++ line_suffix Plain 7 ≡ codes "a:b 12"
unfolding digits computing
names_with_numbers-plain = refl

pub names_with_numbers-with_lines : plain_text (codes "a;b\n12") ++ line_suffix Lines 7 ≡ codes "a:b 12:7"
unfolding digits computing
names_with_numbers-with_lines = refl
