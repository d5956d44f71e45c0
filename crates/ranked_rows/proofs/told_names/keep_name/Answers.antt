use Rattle.std.proofs.Common.{◌≡◌, ◌∙◌, ◌++◌, ◌∷◌, [], ℕ, List, ap, subst, sym}
use Rattle.ranked_rows.specs.checked.Names.{AreKept}
use Rattle.ranked_rows.proofs.KeptNames.{told_one}
use Rattle.ranked_rows.proofs.told_names.keep_name.Goals as goal

pub returns : goal.returns
returns c front h =
    let name = c.args.name.now in
    let kept = c.place_of.new.kept.items in
    let places = c.args.told.now.places.items in
    let place = c.in_ok-place.place in
    let grown : places ++ place ∷ [] ≡ c.push.new.self.items = ap (λ (place : ℕ). places ++ place ∷ []) (sym c.in_ok-narrowed.ensures) ∙ sym {A = List ℕ} c.in_ok-push.ensures.items in
    subst (λ (places : List ℕ). AreKept (front ++ name ∷ []) kept places) grown (told_one front name c.args.told.now.kept.items kept places place c.in_ok-place.ensures.keeps c.in_ok-place.ensures.found h)
