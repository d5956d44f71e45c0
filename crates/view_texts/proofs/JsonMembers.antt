-- The texts of members, piece by piece.
use Rattle.std.proofs.Common.{◌≡◌, ℕ, ◌+◌, ◌≤◌, List, [], ◌∷◌, ◌++◌, false, length, take, drop, codes, decimal, refl, sym, ap, ◌∙◌, append_assoc, length-take-le, length-append, length-drop, drop-drop, drop_at, ◌-◌, arith}
use borrow.Rule.Slice.PartMut.{put_mid}
use Rattle.json.specs.Print.{escape_byte}
use Rattle.serde_json.specs.Data.{string}
use Rattle.serde_json.specs.Written.{compact_text, members_text}
use Rattle.flame_layout.specs.declared.boxes.PlacedBox.{PlacedBox}
use Rattle.view_texts.specs.Json.{box_members}
use Rattle.view_texts.specs.checked.BoxParts.{before_name, own_text, edge_text}

-- a key with its marks, a value, and the rest
abbrev then_from : List ℕ → List ℕ → List ℕ → List ℕ
then_from key value rest = key ++ (value ++ rest)

box_members-text : (b : PlacedBox) → members_text false (box_members b) ≡
    then_from (codes "\"depth\":") (decimal b.depth)
    (then_from (codes ",\"left\":") (decimal b.left)
    (then_from (codes ",\"name\":") (compact_text (string b.name))
    (then_from (codes ",\"own\":") (decimal b.own)
    (then_from (codes ",\"right\":") (decimal b.right)
    (then_from (codes ",\"start\":") (decimal b.start)
    (then_from (codes ",\"weight\":") (decimal b.weight)
    (125 ∷ [])))))))
unfolding escape_byte
box_members-text b = refl

-- what stands before the name, the name, and what stands behind it
in_turn : (o : List ℕ) (opening : ℕ) (k1 v1 k2 v2 k3 v3 k4 v4 k5 v5 k6 v6 k7 v7 end : List ℕ) →
    ((o ++ (opening ∷ ((k1 ++ v1) ++ ((k2 ++ v2) ++ k3)))) ++ v3) ++ ((k4 ++ v4) ++ ((k5 ++ v5) ++ ((k6 ++ v6) ++ ((k7 ++ v7) ++ end))))
    ≡ o ++ opening ∷ then_from k1 v1 (then_from k2 v2 (then_from k3 v3 (then_from k4 v4 (then_from k5 v5 (then_from k6 v6 (then_from k7 v7 end))))))
in_turn o opening k1 v1 k2 v2 k3 v3 k4 v4 k5 v5 k6 v6 k7 v7 end = simp append_assoc

-- the members of a box in these parts
box_parts : (text : List ℕ) (opening : ℕ) (b : PlacedBox) →
    ((text ++ before_name opening b.depth b.left) ++ compact_text (string b.name)) ++ (own_text b.own ++ edge_text b.right b.start b.weight)
    ≡ text ++ opening ∷ members_text false (box_members b)
box_parts text opening b =
    in_turn text opening (codes "\"depth\":") (decimal b.depth) (codes ",\"left\":") (decimal b.left) (codes ",\"name\":") (compact_text (string b.name)) (codes ",\"own\":") (decimal b.own)
    (codes ",\"right\":") (decimal b.right) (codes ",\"start\":") (decimal b.start) (codes ",\"weight\":") (decimal b.weight) (125 ∷ [])
    ∙ ap (λ t. text ++ opening ∷ t) (sym (box_members-text b))

-- the parts before the edges, and the edges
pub box_written : (b : PlacedBox) (opening left : ℕ) (o edges o1 : List ℕ) → left ≡ b.left → edges ≡ edge_text b.right b.start b.weight
    → o1 ≡ o ++ (before_name opening b.depth left ++ (compact_text (string b.name) ++ (own_text b.own ++ edges)))
    → o1 ≡ o ++ opening ∷ members_text false (box_members b)
box_written b opening left o edges o1 l e is =
    let before = before_name opening b.depth b.left in
    let behind = own_text b.own ++ edge_text b.right b.start b.weight in
    is ∙ (λ i. o ++ (before_name opening b.depth (l i) ++ (compact_text (string b.name) ++ (own_text b.own ++ e i))))
    ∙ sym (append_assoc o before (compact_text (string b.name) ++ behind))
    ∙ sym (append_assoc (o ++ before) (compact_text (string b.name)) behind)
    ∙ box_parts o opening b

-- ---- what is put into a buffer from its end to its front

-- the parts before the edges, from the last to the first
pub front_put : (opening depth left own d w : ℕ) (name n text named behind edges : List ℕ) → d ≡ depth → n ≡ name → w ≡ own
    → text ≡ before_name opening d left ++ named
    → named ≡ compact_text (string n) ++ behind
    → behind ≡ own_text w ++ edges
    → text ≡ before_name opening depth left ++ (compact_text (string name) ++ (own_text own ++ edges))
front_put opening depth left own d w name n text named behind edges hd hn hw e1 e2 e3 =
    e1 ∙ ap (λ t. before_name opening d left ++ t) (e2 ∙ ap (λ t. compact_text (string n) ++ t) e3)
    ∙ (λ i. before_name opening (hd i) left ++ (compact_text (string (hn i)) ++ (own_text (hw i) ++ edges)))

-- what stood behind stays
pub kept_behind : (at end : ℕ) (new old front : List ℕ) → length new ≡ length old → end ≤ length old → at ≤ end → drop at new ≡ front ++ drop end old → drop end new ≡ drop end old
kept_behind at end new old front same within le is =
    let count = end - at in
    let sum : at + count ≡ end = omega arith in
    let long : length front ≡ count = omega (arith, same, length-drop at new, length-drop end old, length-append front (drop end old), ap length is) in
    ap (λ n. drop n new) (sym sum) ∙ sym (drop-drop count at new) ∙ ap (drop count) is ∙ drop_at front (drop end old) count long

-- the same behind the parts of a box
pub kept_edges : (at end : ℕ) (new old a b c : List ℕ) → length new ≡ length old → end ≤ length old → at ≤ end → drop at new ≡ a ++ (b ++ (c ++ drop end old)) → drop end new ≡ drop end old
kept_edges at end new old a b c same within le is =
    kept_behind at end new old ((a ++ b) ++ c) same within le (is ∙ sym (append_assoc a b (c ++ drop end old)) ∙ sym (append_assoc (a ++ b) c (drop end old)))

-- a piece before what stands there
pub piece_put : (start count end : ℕ) (bytes piece copy : List ℕ) → copy ≡ piece → start + count ≡ end → end ≤ length bytes → drop start (put_mid start count bytes copy) ≡ piece ++ drop end bytes
piece_put start count end bytes piece copy same sum within =
    drop_at (take start bytes) (copy ++ drop count (drop start bytes)) start (length-take-le start bytes (omega arith))
    ∙ (λ i. same i ++ (drop-drop count start bytes ∙ ap (λ n. drop n bytes) sum) i)
