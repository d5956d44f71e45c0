-- The lines of sample types, each by itself.
use Rattle.std.proofs.Common.{◌≡◌, ◌∙◌, ℕ, zero, suc, ◌+◌, ◌<◌, List, [], ◌∷◌, Option, length, get_or, refl, sym, ap, arith}
use Rattle.profile_messages.specs.declared.types.SampleType.{SampleType}
use Rattle.view_texts.specs.Types.{is_at, lines_from, type_line}

pub length-lines_from : (default : Option ℕ) (place : ℕ) (types : List SampleType) → length (lines_from default place types) ≡ length types
length-lines_from default place [] = refl
length-lines_from default place (t ∷ ts) = ap suc (length-lines_from default (place + 1) ts)

line_from-at : (default : Option ℕ) (place : ℕ) (types : List SampleType) (at : ℕ) (d : SampleType) → at < length types
    → get_or (lines_from default place types) at [] ≡ type_line (get_or types at d) (is_at default (place + at))
line_from-at default place [] at d within = absurd (omega arith)
line_from-at default place (t ∷ ts) zero d within = ap (λ p. type_line t (is_at default p)) (omega arith)
line_from-at default place (t ∷ ts) (suc at) d within =
    let rest : at < length ts = omega arith in
    let later : (place + 1) + at ≡ place + suc at = omega arith in
    line_from-at default (place + 1) ts at d rest ∙ ap (λ p. type_line (get_or ts at d) (is_at default p)) later

-- the line of a type that stands at a place
pub type_line-at : (default : Option ℕ) (types : List SampleType) (at : ℕ) (t : SampleType) → at < length types → t ≡ get_or types at t
    → get_or (lines_from default 0 types) at [] ≡ type_line t (is_at default at)
type_line-at default types at t within is =
    let place : 0 + at ≡ at = omega arith in
    line_from-at default 0 types at t within ∙ ap (λ p. type_line (get_or types at t) (is_at default p)) place
    ∙ ap (λ (x : SampleType). type_line x (is_at default at)) (sym is)
