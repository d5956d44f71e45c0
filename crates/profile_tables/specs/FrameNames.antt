-- What each name of a profile's frames is.
use Rattle.std.specs.Prelude.{◌≢◌, ℕ, List, [], All}
use Rattle.std.specs.Str.{IsUtf8}

-- text, not empty, without ';' and LF
pub record IsFrameName (name : List ℕ) : Type 0 where
  pub text : IsUtf8 name
  pub some : name ≢ []
  pub whole : All (λ b. (b ≢ 59) × (b ≢ 10)) name
