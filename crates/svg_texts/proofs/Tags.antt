-- The tags of texts that are joined.
use Rattle.std.proofs.Common.{◌≡◌, ℕ, ◌⊎◌, inl, inr, Bool, true, false, not, cond, ◌&&◌, ◌||◌, ◌==◌, List, [], ◌∷◌, ◌++◌, length, refl, sym, ap, ap₂, ◌∙◌, subst, arith}
use Rattle.std.proofs.lemmas.Bool.{and_from, and_parts, cases_Bool, cond-false, cond-true, eqb-true, false≢true, ne_eqb, not-true}
use Rattle.std.specs.Int.{is_in_range}
use Rattle.std.specs.List.{list_all, list_any}
use Rattle.svg_texts.specs.SvgLaws.{is_inert, is_escape, is_markup}
use Rattle.svg_texts.specs.SvgTags.{tags, to_tag_end}
use Rattle.svg_texts.proofs.Figures.{inside-printed, is_inside, is_printed}

-- ---- texts in which each tag ends

abbrev pub has_end : List ℕ → Bool
has_end text = list_any (λ byte. byte == 62) text

abbrev pub is_closed : List ℕ → Bool
is_closed [] = true
is_closed (byte ∷ rest) = cond (byte == 60) (has_end rest) true && is_closed rest

-- these are all tags of a text, and it ends none later
pub record HasTags (text : List ℕ) (found : List (List ℕ)) : Type 0 where
  pub closed : is_closed text ≡ true
  pub tags : tags text ≡ found

has_end-append : (text more : List ℕ) → has_end text ≡ true → has_end (text ++ more) ≡ true
has_end-append [] more is = absurd (cc)
has_end-append (byte ∷ rest) more is = by (byte == 62) is (has_end-append rest more)
  where
    by : (b : Bool) → (b || has_end rest) ≡ true → (has_end rest ≡ true → has_end (rest ++ more) ≡ true) → (b || has_end (rest ++ more)) ≡ true
    by true here later = refl
    by false here later = later here

to_tag_end-append : (text more : List ℕ) → has_end text ≡ true → to_tag_end (text ++ more) ≡ to_tag_end text
to_tag_end-append [] more is = absurd (cc)
to_tag_end-append (byte ∷ rest) more is = ap (λ end. byte ∷ end) (by (byte == 62) is (to_tag_end-append rest more))
  where
    by : (b : Bool) → (b || has_end rest) ≡ true → (has_end rest ≡ true → to_tag_end (rest ++ more) ≡ to_tag_end rest) → cond b [] (to_tag_end (rest ++ more)) ≡ cond b [] (to_tag_end rest)
    by true here later = refl
    by false here later = later here

closed-append : (text more : List ℕ) → is_closed text ≡ true → is_closed more ≡ true → is_closed (text ++ more) ≡ true
closed-append [] more first second = second
closed-append (byte ∷ rest) more first second =
    let parts = and_parts _ (is_closed rest) first in
    and_from _ _ (by (byte == 60) parts.0) (closed-append rest more parts.1 second)
  where
    by : (b : Bool) → cond b (has_end rest) true ≡ true → cond b (has_end (rest ++ more)) true ≡ true
    by true ends = has_end-append rest more ends
    by false ends = refl

tags-append : (text more : List ℕ) → is_closed text ≡ true → tags (text ++ more) ≡ tags text ++ tags more
tags-append [] more is = refl
tags-append (byte ∷ rest) more is =
    let parts = and_parts _ (is_closed rest) is in
    by (byte == 60) parts.0 (tags-append rest more parts.1)
  where
    by : (b : Bool) → cond b (has_end rest) true ≡ true → tags (rest ++ more) ≡ tags rest ++ tags more
        → cond b ((byte ∷ to_tag_end (rest ++ more)) ∷ tags (rest ++ more)) (tags (rest ++ more)) ≡ cond b ((byte ∷ to_tag_end rest) ∷ tags rest) (tags rest) ++ tags more
    by true ends later = ap₂ (λ tag others. (byte ∷ tag) ∷ others) (to_tag_end-append rest more ends) later
    by false ends later = later

pub tags-both : {first second : List (List ℕ)} (one other : List ℕ) → HasTags one first → HasTags other second → HasTags (one ++ other) (first ++ second)
tags-both one other has more =
    record {
      closed = closed-append one other has.closed more.closed;
      tags = tags-append one other has.closed ∙ ap₂ (λ s t. s ++ t) has.tags more.tags;
    }

-- ---- a text without markup

pub tags-inert : (text : List ℕ) → is_inert text ≡ true → HasTags text []
tags-inert [] is = record { closed = refl; tags = refl }
tags-inert (byte ∷ rest) is =
    let parts = and_parts _ (is_inert rest) is in
    by (tags-inert rest parts.1) (no_less (cases_Bool (byte == 60)) parts.0)
  where
    no_less : ((byte == 60) ≡ true) ⊎ ((byte == 60) ≡ false) → cond (byte == 38) (is_escape rest) (not (is_markup byte)) ≡ true → (byte == 60) ≡ false
    no_less (inl less) here = absurd (never (eqb-true byte 60 less) here)
      where
        never : byte ≡ 60 → cond (byte == 38) (is_escape rest) (not (is_markup byte)) ≡ true → ⊥
        never is escape = false≢true (rw is at escape)
    no_less (inr other) here = other

    by : HasTags rest [] → (byte == 60) ≡ false → HasTags (byte ∷ rest) []
    by later other = record { closed = rw other later.closed; tags = rw other later.tags }

-- ---- a tag

-- what follows a `<` up to the `>` at the end
abbrev pub is_tag_rest : List ℕ → Bool
is_tag_rest [] = false
is_tag_rest (byte ∷ rest) = cond (byte == 62) (length rest == 0) (is_inside byte && is_tag_rest rest)

pub rest-more : (text rest : List ℕ) → list_all is_inside text ≡ true → is_tag_rest rest ≡ true → is_tag_rest (text ++ rest) ≡ true
rest-more [] rest inside is = is
rest-more (byte ∷ text) rest inside is =
    let parts = and_parts (is_inside byte) (list_all is_inside text) inside in
    let part = and_parts (is_in_range 32 126 byte) _ parts.0 in
    let no = and_parts (not (byte == 60)) (not (byte == 62)) part.1 in
    cond-false (byte == 62) _ _ (not-true (byte == 62) no.1) ∙ and_from (is_inside byte) _ parts.0 (rest-more text rest parts.1 is)

record IsTagRest (rest : List ℕ) : Type 0 where
  ends : has_end rest ≡ true
  whole : to_tag_end rest ≡ rest
  closed : is_closed rest ≡ true
  none : tags rest ≡ []

tag_rest : (rest : List ℕ) → is_tag_rest rest ≡ true → IsTagRest rest
tag_rest [] is = absurd (cc)
tag_rest (byte ∷ rest) is = by (cases_Bool (byte == 62)) (tag_rest rest)
  where
    last : (others : List ℕ) → (length others == 0) ≡ true → IsTagRest (62 ∷ others)
    last [] none = record { ends = refl; whole = refl; closed = refl; none = refl }
    last (other ∷ others) none = absurd (false≢true (sym (ne_eqb (length (other ∷ others)) 0 (λ zero. omega arith)) ∙ none))

    next : (byte == 62) ≡ false → is_inside byte ≡ true → IsTagRest rest → IsTagRest (byte ∷ rest)
    next no_end inside later =
        let part = and_parts (is_in_range 32 126 byte) _ inside in
        let no_less = not-true (byte == 60) (and_parts (not (byte == 60)) (not (byte == 62)) part.1).0 in
        record {
          ends = rw no_end later.ends;
          whole = rw no_end (ap (λ end. byte ∷ end) later.whole);
          closed = rw no_less later.closed;
          none = rw no_less later.none;
        }

    by : ((byte == 62) ≡ true) ⊎ ((byte == 62) ≡ false) → (is_tag_rest rest ≡ true → IsTagRest rest) → IsTagRest (byte ∷ rest)
    by (inl end) later =
        let same = eqb-true byte 62 end in
        subst (λ (b : ℕ). IsTagRest (b ∷ rest)) (sym same) (last rest (sym (cond-true (byte == 62) _ _ end) ∙ is))
    by (inr no_end) later =
        let parts = and_parts (is_inside byte) (is_tag_rest rest) (sym (cond-false (byte == 62) _ _ no_end) ∙ is) in
        next no_end parts.0 (later parts.1)

pub tags-tag : (rest : List ℕ) → is_tag_rest rest ≡ true → HasTags (60 ∷ rest) ((60 ∷ rest) ∷ [])
tags-tag rest is =
    let known = tag_rest rest is in
    record {
      closed = and_from (has_end rest) _ known.ends known.closed;
      tags = ap₂ (λ tag others. (60 ∷ tag) ∷ others) known.whole known.none;
    }

-- all its bytes are printed
pub printed-rest : (rest : List ℕ) → is_tag_rest rest ≡ true → list_all is_printed rest ≡ true
printed-rest [] is = refl
printed-rest (byte ∷ rest) is = by (cases_Bool (byte == 62)) (printed-rest rest)
  where
    last : (others : List ℕ) → (length others == 0) ≡ true → list_all is_printed (62 ∷ others) ≡ true
    last [] none = refl
    last (other ∷ others) none = absurd (false≢true (sym (ne_eqb (length (other ∷ others)) 0 (λ zero. omega arith)) ∙ none))

    by : ((byte == 62) ≡ true) ⊎ ((byte == 62) ≡ false) → (is_tag_rest rest ≡ true → list_all is_printed rest ≡ true) → list_all is_printed (byte ∷ rest) ≡ true
    by (inl end) later = subst (λ (b : ℕ). list_all is_printed (b ∷ rest) ≡ true) (sym (eqb-true byte 62 end)) (last rest (sym (cond-true (byte == 62) _ _ end) ∙ is))
    by (inr no_end) later =
        let parts = and_parts (is_inside byte) (is_tag_rest rest) (sym (cond-false (byte == 62) _ _ no_end) ∙ is) in
        and_from (is_printed byte) _ (inside-printed byte parts.0) (later parts.1)
