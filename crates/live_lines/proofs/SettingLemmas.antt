-- What is written is known by its number, and what no sample changes by numbers.
use Rattle.std.proofs.Common.{◌≡◌, ◌∙◌, ◌++◌, ℕ, List, Option, None, Some, arith, ap, drop, length, refl, sym, take}
use Rattle.std.proofs.Math.Seq.{drop-append_seam, take-append_seam}
use Rattle.live_lines.specs.Settings.{counted_numbers, form_number, known_numbers}
use Rattle.live_lines.specs.declared.form.LiveForm.{LiveForm}
use Rattle.live_lines.specs.declared.form.LiveForm.TheVariants.{Lines, Pages, Table}

pub same_form : (one other : LiveForm) → form_number one ≡ form_number other → one ≡ other
same_form Lines Lines is = refl
same_form Lines Pages is = absurd (omega (arith, is))
same_form Lines (Table every) is = absurd (omega (arith, is))
same_form Pages Lines is = absurd (omega (arith, is))
same_form Pages Pages is = refl
same_form Pages (Table every) is = absurd (omega (arith, is))
same_form (Table every) Lines is = absurd (omega (arith, is))
same_form (Table every) Pages is = absurd (omega (arith, is))
same_form (Table every) (Table other) is = let same : every ≡ other = omega (arith, is) in ap (λ n. Table n) same

pub same_known : (known other : Option (List ℕ)) → known_numbers known ≡ known_numbers other → known ≡ other
same_known None None is = refl
same_known None (Some other) is = absurd (cc)
same_known (Some known) None is = absurd (cc)
same_known (Some known) (Some other) is = let same : known ≡ other = cc in ap (λ bytes. Some bytes) same

-- numbers behind how many they are end where others begin
pub counted_same : (one other more others : List ℕ) → counted_numbers one ++ more ≡ counted_numbers other ++ others → (one ≡ other) × (more ≡ others)
counted_same one other more others is =
    let many : length one ≡ length other = cc in
    let behind : one ++ more ≡ other ++ others = cc in (
      sym (take-append_seam one more) ∙ ((λ i. take (many i) (behind i)) ∙ take-append_seam other others),
      sym (drop-append_seam one more) ∙ ((λ i. drop (many i) (behind i)) ∙ drop-append_seam other others),
    )
