-- A worked example of data that reads back.
use Rattle.std.proofs.Common.{◌≡◌, ℕ, List, [], ◌∷◌, ◌++◌, Some, codes, refl}
use Rattle.std.specs.Char.{encode_utf8}
use Rattle.json.specs.Json as json
use Rattle.json.specs.Lex.{lex, punctuate}
use Rattle.json.specs.Print.{escape_byte}
use Rattle.json.specs.Text.{content, code_unit, short_escape}
use Rattle.serde_json.specs.Data.{string}
use Rattle.serde_json.specs.Read.{read}
use Rattle.page_texts.specs.ScriptSafe.{script_safe, page_data_text}

-- a name with `<`, `"`, `\`, a line feed, the bytes of U+2028 and those of U+1F525
hostile : List ℕ
hostile = codes "a<\"\\\n" ++ (226 ∷ 128 ∷ 168 ∷ 240 ∷ 159 ∷ 148 ∷ 165 ∷ [])

text : page_data_text (string hostile) ≡ codes "\"a\\u003c\\\"\\\\\\n\\u2028" ++ (240 ∷ 159 ∷ 148 ∷ 165 ∷ codes "\"")
unfolding hostile escape_byte script_safe
text = refl

value : read (codes "\"a\\u003c\\\"\\\\\\n\\u2028" ++ (240 ∷ 159 ∷ 148 ∷ 165 ∷ codes "\"")) ≡ Some (string hostile)
unfolding hostile lex punctuate content code_unit short_escape encode_utf8 json.value
value = refl
