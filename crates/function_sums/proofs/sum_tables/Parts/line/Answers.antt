use Rattle.std.proofs.Common.{◌≡◌, ◌∙◌, ◌∷◌, [], ℕ, Option, None, Some, ap, option_map, refl, sym}
use Rattle.std.specs.Prelude.{option_and_then}
use Rattle.function_sums.specs.FunctionTable.{part_text}
use Rattle.function_sums.specs.Told.{said}
use Rattle.function_sums.proofs.sum_tables.Parts.line.Goals as goal

of_all : (weight : ℕ) (all : Option ℕ) → option_and_then (λ whole. Some (part_text whole weight)) all ≡ option_map (λ whole. part_text whole weight) all
of_all weight None = refl
of_all weight (Some all) = refl

pub returns : goal.returns
returns c is_exact told same =
    let sum = c.args.sum.now in
    let last = c.part_of-4.ensures is_exact told.unit ∙ of_all sum.total c.args.self.now.all ∙ ap (option_map (λ all. part_text all sum.total)) (sym same) in
    λ i. record {
      entries = Some (said is_exact told.unit sum.own) ∷ c.part_of.ensures is_exact told.unit i ∷ c.part_of-2.ensures is_exact told.unit i
          ∷ Some (said is_exact told.unit sum.total) ∷ c.part_of-3.ensures is_exact told.unit i ∷ last i ∷ [];
      name = c.get.ensures i;
    }
