-- What stands before the name of a box, and behind it.
use Rattle.std.specs.Prelude.{ℕ, List, [], ◌∷◌, ◌++◌, codes, decimal}

abbrev pub before_name : ℕ → ℕ → ℕ → List ℕ
before_name opening depth left =
    opening ∷ ((codes "\"depth\":" ++ decimal depth) ++ ((codes ",\"left\":" ++ decimal left) ++ codes ",\"name\":"))

-- its own weight, and what stands behind that
abbrev pub own_text : ℕ → List ℕ
own_text own = codes ",\"own\":" ++ decimal own

abbrev pub edge_text : ℕ → ℕ → ℕ → List ℕ
edge_text right start weight =
    (codes ",\"right\":" ++ decimal right) ++ ((codes ",\"start\":" ++ decimal start) ++ ((codes ",\"weight\":" ++ decimal weight) ++ 125 ∷ []))
