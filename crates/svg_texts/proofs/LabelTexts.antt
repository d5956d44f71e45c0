-- When a box has a label, and where its element stands.
use Rattle.std.proofs.Common.{◌≡◌, ℕ, ◌-◌, ◌<◌, ◌≤◌, Bool, true, false, ◌||◌, cond, eqb, ltb, leb, List, [], ◌∷◌, ◌++◌, length, take, Option, Some, None, refl, sym, ap, ◌∙◌, arith, append-nil}
use Rattle.std.proofs.Math.Seq.{take-append_seam}
use Rattle.std.proofs.lemmas.Bool.{lt-ltb}
use Rattle.std.proofs.lemmas.Bool.Decides.{nat_tests}
use Rattle.svg_texts.specs.Labels.{label, label_of, change_label, cut, front, places_of}
use Rattle.svg_texts.specs.Shown.{visible, xml_text}
use Rattle.svg_texts.specs.Svg.{label_element, text_element}
use Rattle.svg_texts.specs.declared.changes.Compared.{Compared}

pub label-short : (room : ℕ) (name : List ℕ) (change : Option Compared) → room < 2 → label room name change ≡ []
unfolding label
label-short room name change lt = rw (lt-ltb room 2 lt) refl

or_empty : (b : Bool) (text : List ℕ) → cond (b || true) [] text ≡ []
or_empty true text = refl
or_empty false text = refl

pub label-empty : (room : ℕ) (name : List ℕ) (change : Option Compared) → length name ≡ 0 → label room name change ≡ []
unfolding label
label-empty room name change none = rw none (or_empty (ltb room 2) (label_of room (visible name) change))

label-there : (room : ℕ) (name : List ℕ) (change : Option Compared) → 2 ≤ room → (length name ≡ 0 → ⊥) → label room name change ≡ label_of room (visible name) change
unfolding label
label-there room name change enough named =
    let long : ltb room 2 ≡ false = grind (arith, nat_tests) in
    let some : eqb (length name) 0 ≡ false = grind (arith, nat_tests) in
    rw (long, some) refl

fits : (b : Bool) (n rest : ℕ) → cond b (Some n) None ≡ Some rest → (b ≡ true) × (n ≡ rest)
fits true n rest is = (refl, cc)
fits false n rest is = absurd (cc)

full : (b : Bool) (n : ℕ) → cond b (Some n) None ≡ None → b ≡ false
full true n is = absurd (cc)
full false n is = refl

-- where the name has room, what is left of it is known
pub label-whole : (room rest : ℕ) (name : List ℕ) (change : Option Compared) → 2 ≤ room → (length name ≡ 0 → ⊥) → cond (leb (places_of (visible name)) room) (Some (room - places_of (visible name))) None ≡ Some rest
    → label room name change ≡ xml_text (visible name) ++ change_label rest change
label-whole room rest name change enough named is =
    let known = fits _ _ rest is in
    label-there room name change enough named ∙ rw (known.0, known.1) refl

-- and else it is cut
pub label-cut : (room : ℕ) (name : List ℕ) (change : Option Compared) → 2 ≤ room → (length name ≡ 0 → ⊥) → cond (leb (places_of (visible name)) room) (Some (room - places_of (visible name))) None ≡ None
    → label room name change ≡ xml_text (cut (front (room - 1) (visible name)))
label-cut room name change enough named is =
    label-there room name change enough named ∙ rw (full _ (room - places_of (visible name)) is) refl

pub element-some : (left base : ℕ) (text : List ℕ) → 0 < length text → label_element left base text ≡ text_element left base text
element-some left base [] lt = absurd (omega arith)
element-some left base (byte ∷ rest) lt = refl

-- what was begun is taken back
pub element-none : (left base : ℕ) (start tag text : List ℕ) → length text ≡ 0 → take (length start) ((start ++ tag) ++ text) ≡ start ++ label_element left base text
element-none left base start tag [] none = ap (take (length start)) (append-nil (start ++ tag)) ∙ (take-append_seam start tag ∙ sym (append-nil start))
element-none left base start tag (byte ∷ rest) none = absurd (omega arith)
