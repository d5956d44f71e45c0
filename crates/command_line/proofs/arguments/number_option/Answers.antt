use Rattle.std.proofs.Common.{◌≡◌, ◌∙◌, ◌<◌, ◌^◌, ℕ, ap, ap₂, arith, Option, Some, pos, ℤ}
use mir.Syntax.{w64}
use mir.Val.{of_z, to_z}
use Rattle.std.specs.Int.{int_min}
use Rattle.std.proofs.lemmas.Int.{ints}
use Rattle.clap.specs.Values.{NarrowsTo, signed_between}
use Rattle.clap.specs.Walk.{Rule, rule_of}
use Rattle.clap.specs.declared.builder.value_parser.ValueParser.{ValueParser}
use Rattle.clap.specs.declared.builder.value_parser.ValueParser.TheVariants.{Signed}
use Rattle.command_line.proofs.arguments.number_option.Goals as goal

-- the greatest number of 32 bits bounds none from above
least : (most : ℕ) → most < 2 ^ 32 → int_min (pos 4294967295) (pos most) ≡ pos most
least most fits = grind (arith, ints)

kept : (most : ℕ) → most < 2 ^ 32 → to_z w64 (of_z w64 (pos most)) ≡ pos most
kept most fits = grind (arith, ints)

narrowed : (whole range : ValueParser) (first last : ℤ) (most : ℕ) → most < 2 ^ 32 → whole ≡ Signed (pos 0) (pos 4294967295)
    → first ≡ pos 1 → last ≡ to_z w64 (of_z w64 (pos most)) → NarrowsTo whole (Some first) (Some last) range
    → range ≡ Signed (pos 1) (pos most)
narrowed whole range first last most fits is starts ends narrows =
    let last_is : last ≡ pos most = ends ∙ kept most fits in
    let by : range ≡ signed_between (pos 1) (int_min (pos 4294967295) (pos most)) = rw (is, starts, last_is) at narrows in
    by ∙ ap (signed_between (pos 1)) (least most fits)

pub returns : goal.returns
returns c =
    let ends = c.new.ensures.end ∙ ap (λ (z : ℤ). to_z w64 (of_z w64 z)) c.from.ensures in
    let range = narrowed _ _ _ _ c.args.most c.ranges.most.fits c.value_parser.ensures c.new.ensures.start ends c.range.ensures in
    let given = c.value_parser-2.ensures.given in
    let parser = given.1 ∙ ap (λ (p : ValueParser). Some p) (given.2 ∙ range) in
    ap rule_of c.value_parser-2.ensures.others
    ∙ ap₂ (λ (r : Rule) (parser : Option ValueParser). record r { parser = parser }) c.text_option.ensures parser
