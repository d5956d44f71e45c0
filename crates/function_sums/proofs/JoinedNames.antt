-- The names of functions joined, as they are lent and as they are.
use Rattle.std.proofs.Common.{◌≡◌, ◌∙◌, ℕ, ◌<◌, ◌++◌, List, [], ◌∷◌, append_assoc, codes, decimal, length, map, ap, arith, refl}
use Rattle.std.specs.List.{flat_map, join_by}
use Rattle.function_sums.specs.GrownLine.{grown_line, said_of}

joined_later : {A : Type 0} (text : A → List ℕ) (separator : List ℕ) (names : List A)
    → flat_map (λ name. separator ++ text name) names ≡ flat_map (λ name. separator ++ name) (map text names)
joined_later text separator [] = refl
joined_later text separator (name ∷ names) = ap (λ later. (separator ++ text name) ++ later) (joined_later text separator names)

pub named_line : {A : Type 0} (text : A → List ℕ) (points : ℕ) (names : List A) → 0 < length names
    → said_of points (join_by text (codes ", ") names) ≡ grown_line points (map text names)
named_line text points [] some = absurd (omega arith)
named_line text points (name ∷ names) some = ap (λ later. said_of points (text name ++ later)) (joined_later text (codes ", ") names)

pub no_line : {A : Type 0} (text : A → List ℕ) (points : ℕ) (names : List A) → length names ≡ 0 → [] ≡ grown_line points (map text names)
no_line text points [] none = refl
no_line text points (name ∷ names) none = absurd (omega arith)

in_turn : (o a b c d e : List ℕ) → ((((o ++ a) ++ b) ++ c) ++ d) ++ e ≡ o ++ (a ++ (b ++ (c ++ (d ++ e))))
in_turn o a b c d e = simp append_assoc

-- each part appended by one call
pub said_written : (points : ℕ) (names digits o o1 o2 o3 o4 o5 : List ℕ) → digits ≡ decimal points
    → o1 ≡ o ++ codes "flamecollect: grew by more than "
    → o2 ≡ o1 ++ digits
    → o3 ≡ o2 ++ codes " %: "
    → o4 ≡ o3 ++ names
    → o5 ≡ o4 ++ codes "\n"
    → o5 ≡ o ++ said_of points names
said_written points names digits o o1 o2 o3 o4 o5 d e1 e2 e3 e4 e5 =
    e5 ∙ ap (λ text. text ++ codes "\n") (e4 ∙ ap (λ text. text ++ names) (e3 ∙ ap (λ text. text ++ codes " %: ") (e2 ∙ (λ i. e1 i ++ d i))))
    ∙ in_turn o (codes "flamecollect: grew by more than ") (decimal points) (codes " %: ") names (codes "\n")
