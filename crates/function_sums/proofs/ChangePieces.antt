-- The pieces of the line of changes one after another, and each by itself.
use Rattle.std.proofs.Common.{◌≡◌, ℕ, Bool, ◌+◌, List, [], ◌∷◌, ◌++◌, false, length, map, take, codes, decimal, refl, sym, ap, ◌∙◌, append_assoc}
use Rattle.std.specs.List.{concat}
use Rattle.std.proofs.lemmas.List.{length-map}
use Rattle.json.specs.Print.{escape_byte}
use Rattle.serde_json.specs.Data.{Data, string}
use Rattle.serde_json.specs.Written.{compact_text}
use Rattle.sample_tables.specs.Samples.{total_weight}
use Rattle.sample_tables.specs.declared.samples.Sample.{Sample}
use Rattle.function_sums.specs.declared.changes.ChangeOrder.{ChangeOrder}
use Rattle.function_sums.specs.FunctionChanges.{AreFunctionChanges}
use Rattle.function_sums.specs.declared.changes.FunctionChange.{FunctionChange}
use Rattle.function_sums.proofs.FunctionList.{changes_alone}
use Rattle.view_texts.specs.Json.{list_data}
use Rattle.view_texts.proofs.JsonLists.{values_text}
use Rattle.view_texts.proofs.TextPieces.{line_pieces-text, length-line_pieces}
use Rattle.function_sums.specs.ChangeJson.{change_data, changes_line}
use Rattle.function_sums.specs.ChangeTable.{changes_table, shares_table}
use Rattle.function_sums.specs.DiffTexts.{diff_line, diff_table, share_table}
use Rattle.function_sums.specs.Pieces.{changes_pieces, changes_tail, unit_member}
use Rattle.function_sums.specs.Told.{Told}
use Rattle.function_sums.proofs.TextPieces.{after_value, bracketed}

-- ---- the line of JSON

line-ends : (unit : List ℕ) (before after : ℕ) (values : List Data)
    → (codes "{\"functions\":" ++ (compact_text (list_data values) ++ (codes ",\"total_after\":" ++ (decimal after ++ (codes ",\"total_before\":" ++ (decimal before ++ (codes ",\"unit\":" ++ (compact_text (string unit) ++ codes ",\"view\":\"diff\"}")))))))) ++ 10 ∷ []
    ≡ codes "{\"functions\":[" ++ (values_text false values ++ changes_tail unit before after)
line-ends unit before after values =
    let last = codes ",\"unit\":" ++ (compact_text (string unit) ++ codes ",\"view\":\"diff\"}") in
    let first_side = codes ",\"total_before\":" ++ (decimal before ++ last) in
    let sides = codes ",\"total_after\":" ++ (decimal after ++ first_side) in
    let end = unit_member unit ++ codes ",\"view\":\"diff\"}\n" in
    after_value (codes "{\"functions\":") (compact_text (list_data values)) sides (10 ∷ [])
    ∙ ap (λ text. codes "{\"functions\":" ++ (compact_text (list_data values) ++ text)) (after_value (codes ",\"total_after\":") (decimal after) first_side (10 ∷ []))
    ∙ ap (λ text. codes "{\"functions\":" ++ (compact_text (list_data values) ++ (codes ",\"total_after\":" ++ (decimal after ++ text)))) (after_value (codes ",\"total_before\":") (decimal before) last (10 ∷ []))
    ∙ ap (λ text. codes "{\"functions\":" ++ (compact_text (list_data values) ++ (codes ",\"total_after\":" ++ (decimal after ++ (codes ",\"total_before\":" ++ (decimal before ++ text))))))
    (after_value (codes ",\"unit\":") (compact_text (string unit)) (codes ",\"view\":\"diff\"}") (10 ∷ []) ∙ sym (append_assoc (codes ",\"unit\":") (compact_text (string unit)) (codes ",\"view\":\"diff\"}\n")))
    ∙ ap (λ text. codes "{\"functions\":" ++ text) (bracketed values (codes ",\"total_after\":" ++ (decimal after ++ (codes ",\"total_before\":" ++ (decimal before ++ end)))))

line-parts : (unit : List ℕ) (before after : ℕ) (changes : List FunctionChange) → changes_line unit before after changes ≡ codes "{\"functions\":[" ++ (values_text false (map change_data changes) ++ changes_tail unit before after)
unfolding changes_line escape_byte
line-parts unit before after changes = line-ends unit before after (map change_data changes)

pub changes-text : (unit : List ℕ) (before after : ℕ) (changes : List FunctionChange) → concat (changes_pieces unit before after changes) ≡ changes_line unit before after changes
changes-text unit before after changes =
    line_pieces-text (codes "{\"functions\":[") (changes_tail unit before after) (map change_data changes) ∙ sym (line-parts unit before after changes)

pub length-changes_pieces : (unit : List ℕ) (before after : ℕ) (changes : List FunctionChange) → length (changes_pieces unit before after changes) ≡ length changes + 2
length-changes_pieces unit before after changes =
    length-line_pieces (codes "{\"functions\":[") (changes_tail unit before after) (map change_data changes) ∙ ap (λ n. n + 2) (length-map changes change_data)

end_in_turn : (o k1 v1 k2 v2 k3 v3 end : List ℕ) → (((o ++ (k1 ++ v1)) ++ (k2 ++ v2)) ++ (k3 ++ v3)) ++ end ≡ o ++ (k1 ++ (v1 ++ (k2 ++ (v2 ++ ((k3 ++ v3) ++ end)))))
end_in_turn o k1 v1 k2 v2 k3 v3 end = simp append_assoc

-- what stands after the functions, each part appended by one call
pub tail_written : (unit : List ℕ) (before after : ℕ) (o o1 o2 o3 o4 : List ℕ)
    → o1 ≡ o ++ (codes "],\"total_after\":" ++ decimal after)
    → o2 ≡ o1 ++ (codes ",\"total_before\":" ++ decimal before)
    → o3 ≡ o2 ++ unit_member unit
    → o4 ≡ o3 ++ codes ",\"view\":\"diff\"}\n"
    → o4 ≡ o ++ changes_tail unit before after
tail_written unit before after o o1 o2 o3 o4 e1 e2 e3 e4 =
    e4 ∙ ap (λ text. text ++ codes ",\"view\":\"diff\"}\n") (e3 ∙ ap (λ text. text ++ unit_member unit) (e2 ∙ ap (λ text. text ++ (codes ",\"total_before\":" ++ decimal before)) e1))
    ∙ end_in_turn o (codes "],\"total_after\":") (decimal after) (codes ",\"total_before\":") (decimal before) (codes ",\"unit\":") (compact_text (string unit)) (codes ",\"view\":\"diff\"}\n")

-- ---- a function in JSON

change-text : (change : FunctionChange) → compact_text (change_data change)
    ≡ codes "{\"name\":" ++ (compact_text (string change.name) ++ (codes ",\"own_after\":" ++ (decimal change.own.after ++ (codes ",\"own_before\":" ++ (decimal change.own.before
    ++ (codes ",\"total_after\":" ++ (decimal change.total.after ++ (codes ",\"total_before\":" ++ (decimal change.total.before ++ 125 ∷ [])))))))))
unfolding escape_byte
change-text change = refl

in_turn : (o k1 v1 k2 v2 k3 v3 k4 v4 k5 v5 end : List ℕ) → (((((o ++ (k1 ++ v1)) ++ (k2 ++ v2)) ++ (k3 ++ v3)) ++ (k4 ++ v4)) ++ (k5 ++ v5)) ++ end
    ≡ o ++ (k1 ++ (v1 ++ (k2 ++ (v2 ++ (k3 ++ (v3 ++ (k4 ++ (v4 ++ (k5 ++ (v5 ++ end))))))))))
in_turn o k1 v1 k2 v2 k3 v3 k4 v4 k5 v5 end = simp append_assoc

-- its members, each appended by one call
pub change_written : (change : FunctionChange) (name o o1 o2 o3 o4 o5 o6 : List ℕ) → name ≡ change.name
    → o1 ≡ o ++ (codes "{\"name\":" ++ compact_text (string name))
    → o2 ≡ o1 ++ (codes ",\"own_after\":" ++ decimal change.own.after)
    → o3 ≡ o2 ++ (codes ",\"own_before\":" ++ decimal change.own.before)
    → o4 ≡ o3 ++ (codes ",\"total_after\":" ++ decimal change.total.after)
    → o5 ≡ o4 ++ (codes ",\"total_before\":" ++ decimal change.total.before)
    → o6 ≡ o5 ++ 125 ∷ []
    → o6 ≡ o ++ compact_text (change_data change)
change_written change name o o1 o2 o3 o4 o5 o6 n e1 e2 e3 e4 e5 e6 =
    let pieces =
    in_turn o (codes "{\"name\":") (compact_text (string change.name)) (codes ",\"own_after\":") (decimal change.own.after) (codes ",\"own_before\":") (decimal change.own.before)
    (codes ",\"total_after\":") (decimal change.total.after) (codes ",\"total_before\":") (decimal change.total.before) (125 ∷ [])
    ∙ ap (λ text. o ++ text) (sym (change-text change)) in
    cc

-- ---- the texts of a list are those of the sides of which it is the table

module _ (rows : ℕ) (changes : List FunctionChange) (by : ChangeOrder) (before after : List Sample) (are : AreFunctionChanges by before after changes) (old new : ℕ) (olds : total_weight before ≡ old) (news : total_weight after ≡ new) where
  pub table_of_sides : (is_exact : Bool) (told : Told) → changes_table is_exact told (length changes) old new (take rows changes) ≡ diff_table is_exact told by rows before after
  table_of_sides is_exact told = λ i. changes_table is_exact told (length (changes_alone by before after changes are i)) (sym olds i) (sym news i) (take rows (changes_alone by before after changes are i))

  pub shares_of_sides : (is_exact : Bool) (told : Told) → shares_table is_exact told (length changes) (record { before = old; after = new }) (take rows changes) ≡ share_table is_exact told by rows before after
  shares_of_sides is_exact told = λ i. shares_table is_exact told (length (changes_alone by before after changes are i)) (record { before = sym olds i; after = sym news i }) (take rows (changes_alone by before after changes are i))

  pub line_of_sides : (told : Told) → changes_line told.unit old new (take rows changes) ≡ diff_line told by rows before after
  line_of_sides told = λ i. changes_line told.unit (sym olds i) (sym news i) (take rows (changes_alone by before after changes are i))
