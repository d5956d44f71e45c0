-- What a function returned, by what reading gives.
use Rattle.std.specs.Prelude.{◌≡◌, Result, Ok, Err}

-- What a function returned, seen by `view`, is what reading gives.
abbrev pub Gives : {X Y E : Type 0} → (X → Y) → Result X E → Result Y E → Type 0
Gives view (Ok x) read = read ≡ Ok (view x)
Gives view (Err e) read = read ≡ Err e
