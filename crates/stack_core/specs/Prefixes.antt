use Rattle.std.specs.Prelude.{◌≡◌, List, ◌++◌}

-- xs is the beginning of ys: ys is xs, or has more behind it
abbrev pub IsPrefixOf : {A : Type 0} → List A → List A → Type 0
IsPrefixOf {A} xs ys = (rest : List A) × (xs ++ rest ≡ ys)
