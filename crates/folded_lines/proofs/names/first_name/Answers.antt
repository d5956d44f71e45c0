use Rattle.std.proofs.Common.{◌≡◌, ◌+◌, ◌-◌, ◌<◌, ◌∷◌, [], List, ℕ, suc, length, take, drop, slice_index, subst, sym, ap, ◌∙◌, arith, add-one}
use Rattle.std.specs.List.{slice_split}
use Rattle.std.proofs.lemmas.Bool.{eqb-true}
use Rattle.std.proofs.lemmas.Str.{IsCharBoundary-after_ascii}
use Rattle.folded_lines.specs.Lines.{is_semicolon}
use Rattle.folded_lines.proofs.SplitLemmas.{slice_split-none, slice_split-at}
use Rattle.folded_lines.proofs.names.first_name.Goals as goal

pub returns-in-None-clause-split : goal.returns-in-None-clause-split
returns-in-None-clause-split c =
    subst (λ (t : List ℕ). slice_split is_semicolon t ≡ t ∷ []) c.as_bytes.ensures.value
    (slice_split-none is_semicolon c.as_bytes.result.now c.in-None.ensures)

pub range_from-requires : goal.range_from-requires
range_from-requires c =
    let text = c.args.text.now in
    let at = c.in-Some.at in
    let found = c.in-Some.ensures in
    let here : slice_index text at ≡ 59 = ap (λ (t : List ℕ). slice_index t at) (sym c.as_bytes.ensures.value) ∙ eqb-true (slice_index c.as_bytes.result.now at) 59 found.1 in
    let within : at < length text = omega (arith, found.0.high, c.as_bytes.ensures.len) in
    λ _. IsCharBoundary-after_ascii text at c.utf8.text within (omega arith)

pub returns-in-Some-clause-split : goal.returns-in-Some-clause-split
returns-in-Some-clause-split c =
    let text = c.args.text.now in
    let at = c.in-Some.at in
    let found = c.in-Some.ensures in
    let whole : at - 0 ≡ at = omega arith in
    subst (λ (t : List ℕ). slice_split is_semicolon t ≡ take at t ∷ slice_split is_semicolon (drop (suc at) t)) c.as_bytes.ensures.value
    (slice_split-at is_semicolon c.as_bytes.result.now at found.0.high found.0.before found.1)
    ∙ ap (λ n. take at text ∷ slice_split is_semicolon (drop n text)) (sym (add-one at))
    ∙ ap (λ n. take n text ∷ slice_split is_semicolon (drop (at + 1) text)) (sym whole)
    ∙ ap (λ t. t ∷ slice_split is_semicolon (drop (at + 1) text)) (sym c.range.ensures.value)
    ∙ ap (λ t. c.range.result.now ∷ slice_split is_semicolon t) (sym c.range_from.ensures.value)
