use Rattle.std.proofs.Common.{◌≡◌, ℕ, List, take, drop, ◌∙◌, ap, sym, subst, length-drop}
use Rattle.std.proofs.Math.Seq.{take-length}
use Rattle.profile_tables.specs.checked.Fronts.{bytes_at, IsFirstHeld, AreValuesIn}
use Rattle.profile_tables.specs.checked.SeenOutline.{seen_outline}
use Rattle.profile_tables.proofs.FrontLemmas.{front-is}
use Rattle.profile_tables.proofs.fronts.front_of.Goals as goal

pub returns : goal.returns
returns c =
    let file = c.args.file.now in
    let at = c.args.at in
    let outer = c.in_ok-start.field-0.place in
    let behind : c.in_ok-behind.behind.now ≡ drop at file =
    c.in_ok-behind.ensures.lookup.0.2 ∙ ap (λ n. take n (drop at file)) (sym (length-drop at file)) ∙ take-length (drop at file) in
    let held : IsFirstHeld (drop at file) c.in_ok-start.field-0.number outer c.in_ok-start.field-0.behind =
    subst (λ (bytes : List ℕ). IsFirstHeld bytes c.in_ok-start.field-0.number outer c.in_ok-start.field-0.behind) behind c.in_ok-start.ensures in
    let ids : IsFirstHeld (bytes_at (drop at file) outer) c.in_ok-ids.ids.number c.in_ok-ids.ids.place c.in_ok-ids.ids.behind =
    subst (λ (bytes : List ℕ). IsFirstHeld (bytes_at bytes outer) c.in_ok-ids.ids.number c.in_ok-ids.ids.place c.in_ok-ids.ids.behind) behind c.in_ok-ids.ensures in
    front-is file at c.in_ok-start.field-0.number (seen_outline c.args.outline.now) outer c.in_ok-ids.ids.place c.in_ok-start.field-0.behind c.in_ok-ids.ids.behind c.in_ok-values.values
    c.in_ok-behind.ensures.lookup.0.0 held
    (subst (λ (number : ℕ). IsFirstHeld (bytes_at (drop at file) outer) number c.in_ok-ids.ids.place c.in_ok-ids.ids.behind) c.if-ids-ne1.false ids)
    (subst (λ (chosen : ℕ). AreValuesIn chosen c.in_ok-ids.ids.behind c.in_ok-values.values) c.unwrap_or.ensures c.in_ok-values.ensures)
    c.if-values-outline.false
