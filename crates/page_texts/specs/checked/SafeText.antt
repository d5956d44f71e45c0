-- The safe text of a value, part by part.
use Rattle.std.specs.Prelude.{ℕ, List, [], ◌∷◌, ◌++◌, Bool, true, false}
use Rattle.json.specs.Token.{Token}
use Rattle.json.specs.Print.{quoted, token_text}
use Rattle.serde_json.specs.Data.{Data, null, boolean, number, string, array, object, Items, no_items, item, Members, no_members, member}
use Rattle.serde_json.specs.Written.{comma_if, number_text}
use Rattle.page_texts.specs.ScriptSafe.{script_safe}

abbrev mutual
  pub safe_text : Data → List ℕ
  safe_text null = token_text Token.null
  safe_text (boolean b) = token_text (Token.boolean b)
  safe_text (number n) = number_text n
  safe_text (string s) = script_safe (quoted s)
  safe_text (array ds) = 91 ∷ safe_items false ds
  safe_text (object ms) = 123 ∷ safe_members false ms

  -- with the closing bracket
  pub safe_items : Bool → Items → List ℕ
  safe_items later no_items = 93 ∷ []
  safe_items later (item d ds) = comma_if later ++ (safe_text d ++ safe_items true ds)

  pub safe_members : Bool → Members → List ℕ
  safe_members later no_members = 125 ∷ []
  safe_members later (member k d ms) = comma_if later ++ (script_safe (quoted k) ++ 58 ∷ (safe_text d ++ safe_members true ms))

-- the values of a list with their commas, before the closing bracket
abbrev pub values_text : Bool → List Data → List ℕ
values_text later [] = []
values_text later (d ∷ ds) = comma_if later ++ (safe_text d ++ values_text true ds)
