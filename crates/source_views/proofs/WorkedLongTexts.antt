-- Worked examples of a text that is one of two, computed on the definition.
use Rattle.std.proofs.Common.{◌≡◌, ℕ, List, [], ◌∷◌, codes, refl}
use Rattle.source_views.specs.LongTexts.{pieces_of_one}
use Rattle.source_views.specs.declared.long_texts.OneOf.TheVariants.{First, Second}

first_text : pieces_of_one {A = List ℕ} {B = List ℕ} (λ bytes. bytes ∷ []) (λ bytes. bytes ∷ bytes ∷ []) (First (codes "a")) ≡ codes "a" ∷ []
first_text = refl

second_text : pieces_of_one {A = List ℕ} {B = List ℕ} (λ bytes. bytes ∷ []) (λ bytes. bytes ∷ bytes ∷ []) (Second (codes "a")) ≡ codes "a" ∷ codes "a" ∷ []
second_text = refl
