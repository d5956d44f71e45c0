-- Worked examples, computed on the definitions.
use Rattle.std.proofs.Common.{◌≡◌, ℕ, List, [], ◌∷◌, ◌++◌, codes, refl}
use Rattle.std.specs.Fmt.{digits}
use Rattle.json.specs.Print.{escape_byte}
use Rattle.flame_layout.specs.declared.boxes.ComparedBox.{ComparedBox}
use Rattle.flame_layout.specs.declared.boxes.SpanBox.{SpanBox}
use Rattle.view_texts.specs.Json.{boxes_line, snapshot_line, pair_boxes_line}

abbrev span : ℕ → List ℕ → ℕ → ℕ → ℕ → SpanBox
span depth name start weight own = record { depth = depth; name = name; start = start; weight = weight; own = own }

graph_of_three_lines : boxes_line (codes "graph") 3 10 (span 0 (codes "all") 0 3 0 ∷ span 1 (codes "a") 0 1 1 ∷ span 1 (codes "b") 1 2 2 ∷ [])
    ≡ codes "{\"boxes\":[{\"depth\":0,\"left\":0,\"name\":\"all\",\"own\":0,\"right\":10,\"start\":0,\"weight\":3},"
    ++ (codes "{\"depth\":1,\"left\":0,\"name\":\"a\",\"own\":1,\"right\":3,\"start\":0,\"weight\":1},"
    ++ (codes "{\"depth\":1,\"left\":3,\"name\":\"b\",\"own\":2,\"right\":10,\"start\":1,\"weight\":2}],"
    ++ codes "\"total\":3,\"view\":\"graph\",\"width\":10}\n"))
unfolding boxes_line escape_byte digits
graph_of_three_lines = refl

empty_graph : boxes_line (codes "graph") 0 1200 [] ≡ codes "{\"boxes\":[],\"total\":0,\"view\":\"graph\",\"width\":1200}\n"
unfolding boxes_line escape_byte digits
empty_graph = refl

snapshots_of_one_source : snapshot_line 2 (2 ∷ []) 2 10 (span 0 (codes "all") 0 2 0 ∷ span 1 (codes "a") 0 2 1 ∷ span 2 (codes "b") 1 1 1 ∷ [])
    ≡ codes "{\"at\":2,\"boxes\":[{\"depth\":0,\"left\":0,\"name\":\"all\",\"own\":0,\"right\":10,\"start\":0,\"weight\":2},"
    ++ (codes "{\"depth\":1,\"left\":0,\"name\":\"a\",\"own\":1,\"right\":10,\"start\":0,\"weight\":2},"
    ++ (codes "{\"depth\":2,\"left\":5,\"name\":\"b\",\"own\":1,\"right\":10,\"start\":1,\"weight\":1}],"
    ++ codes "\"counts\":[2],\"total\":2,\"view\":\"snapshot\",\"width\":10}\n"))
unfolding snapshot_line escape_byte digits
snapshots_of_one_source = refl

abbrev compared : SpanBox → ℕ → ComparedBox
compared box before = record { span = box; before = before }

comparison : pair_boxes_line 4 3 10 (compared (span 0 (codes "all") 0 3 0) 4 ∷ compared (span 1 (codes "a") 0 1 1) 3 ∷ compared (span 1 (codes "c") 1 2 2) 0 ∷ [])
    ≡ codes "{\"before\":4,\"boxes\":[{\"before\":4,\"depth\":0,\"left\":0,\"name\":\"all\",\"own\":0,\"right\":10,\"start\":0,\"weight\":3},"
    ++ (codes "{\"before\":3,\"depth\":1,\"left\":0,\"name\":\"a\",\"own\":1,\"right\":3,\"start\":0,\"weight\":1},"
    ++ (codes "{\"before\":0,\"depth\":1,\"left\":3,\"name\":\"c\",\"own\":2,\"right\":10,\"start\":1,\"weight\":2}],"
    ++ codes "\"total\":3,\"view\":\"compare\",\"width\":10}\n"))
unfolding pair_boxes_line escape_byte digits
comparison = refl

-- a quote, a backslash, a control character and `é`
escaped_names : boxes_line (codes "graph") 1 1 (span 1 (codes "a\"b\\c\n" ++ (1 ∷ 195 ∷ 169 ∷ [])) 0 1 1 ∷ [])
    ≡ codes "{\"boxes\":[{\"depth\":1,\"left\":0,\"name\":\"a\\\"b\\\\c\\n\\u0001" ++ (195 ∷ 169 ∷ codes "\",\"own\":1,\"right\":1,\"start\":0,\"weight\":1}],\"total\":1,\"view\":\"graph\",\"width\":1}\n")
unfolding boxes_line escape_byte digits
escaped_names = refl
