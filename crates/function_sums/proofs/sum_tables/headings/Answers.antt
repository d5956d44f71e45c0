use Rattle.std.proofs.Common.{◌≡◌, ◌∙◌, ◌∷◌, [], ℕ, List, Option, None, Some, ap, codes, cond, is_some, option_map, refl}
use Rattle.function_sums.proofs.sum_tables.headings.Goals as goal

of_all : (text : List ℕ) (all : Option ℕ) → cond (is_some all) (Some text) None ≡ option_map (λ _. text) all
of_all text None = refl
of_all text (Some all) = refl

pub returns : goal.returns
returns c is_exact unit =
    let last = c.heading_if-2.ensures is_exact unit ∙ ap (λ b. cond b (Some (codes "whole%")) None) c.is_some.ensures ∙ of_all (codes "whole%") c.args.all in
    λ i. record {
      entries = Some (codes "own") ∷ Some (codes "own%") ∷ c.heading_if.ensures is_exact unit i ∷ Some (codes "total") ∷ Some (codes "total%") ∷ last i ∷ [];
      name = codes "name";
    }
