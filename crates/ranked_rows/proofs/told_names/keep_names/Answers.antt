use Rattle.std.proofs.Common.{◌≡◌, ◌∙◌, ◌<◌, ◌+◌, ◌++◌, ◌∷◌, [], ℕ, List, append_assoc, ap, arith, length, subst, sym, take}
use Rattle.std.proofs.lemmas.List.{take_more}
use Rattle.ranked_rows.specs.checked.Names.{AreKept}
use Rattle.ranked_rows.proofs.told_names.keep_names.Goals as goal

pub loop-number-preserved : goal.loop-number-preserved
loop-number-preserved c front h =
    let names = c.args.list.now.told in
    let number = c.loop-number.number in
    let within : number < length names = omega (arith, c.told-number-end.ensures) in
    let more : (front ++ take number names) ++ c.told_name.result.now ∷ [] ≡ front ++ take (number + 1) names =
    append_assoc front (take number names) (c.told_name.result.now ∷ [])
    ∙ ap (λ (names : List (List ℕ)). front ++ names) (ap (λ (name : List ℕ). take number names ++ name ∷ []) c.told_name.ensures ∙ sym (take_more names number [] within)) in
    subst (λ (names : List (List ℕ)). AreKept names c.keep_name.new.told.kept.items c.keep_name.new.told.places.items) more
    (c.in_ok-keep_name.ensures (front ++ take number names) (c.loop-number.invariant front h))
