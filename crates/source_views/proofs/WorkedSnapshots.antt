-- Worked examples of whole texts and of snapshots, computed on the definitions.
use Rattle.std.proofs.Common.{◌≡◌, ℕ, List, [], ◌∷◌, ◌++◌, codes, refl}
use Rattle.std.specs.Prelude.{None, Some, take}
use Rattle.std.specs.Fmt.{digits}
use Rattle.json.specs.Print.{escape_byte}
use Rattle.call_tree.specs.PathSums.{total_of, own_of}
use Rattle.sample_tables.specs.declared.samples.Sample.{Sample}
use Rattle.merged_stacks.specs.Timeline.{Stack}
use Rattle.view_texts.specs.Json.{boxes_line, snapshot_line, pair_boxes_line}
use Rattle.merging.specs.Snapshots.{snapshot_counts, snapshot_places, snapshot_samples}
use Rattle.source_views.specs.Texts.{graph_text, chart_text, pair_boxes_text}

abbrev taken : Stack → ℕ → Sample
taken stack weight = record { stack = stack; weight = weight }

abbrev a : List ℕ
a = codes "a"

abbrev b : List ℕ
b = codes "b"

-- five samples of one source
abbrev five : List Sample
five = taken (a ∷ []) 1 ∷ taken (a ∷ b ∷ []) 1 ∷ taken (codes "c" ∷ []) 2 ∷ taken (a ∷ []) 1 ∷ taken (codes "d" ∷ []) 1 ∷ []

abbrev order_of_five : List ℕ
order_of_five = 0 ∷ 0 ∷ 0 ∷ 0 ∷ 0 ∷ []

places_of_five : snapshot_places (Some 2) 5 ≡ 2 ∷ 4 ∷ []
places_of_five = refl

no_places : snapshot_places None 5 ≡ []
no_places = refl

counts_of_five : snapshot_counts 4 order_of_five ≡ 4 ∷ []
counts_of_five = refl

-- of three sources the last has an entry though the second has not come yet
counts_of_three : snapshot_counts 3 (0 ∷ 2 ∷ 0 ∷ 1 ∷ []) ≡ 2 ∷ 0 ∷ 1 ∷ []
counts_of_three = refl

samples_of_five : snapshot_samples 2 order_of_five (five ∷ []) ≡ take 2 five
samples_of_five = refl

-- each source's first samples, one source after another, whatever their order was
samples_of_two : snapshot_samples 3 (1 ∷ 0 ∷ 1 ∷ 0 ∷ []) ((taken (a ∷ []) 1 ∷ taken (a ∷ []) 2 ∷ []) ∷ (taken (b ∷ []) 3 ∷ taken (b ∷ []) 4 ∷ []) ∷ [])
    ≡ taken (a ∷ []) 1 ∷ taken (b ∷ []) 3 ∷ taken (b ∷ []) 4 ∷ []
samples_of_two = refl

snapshots_of_one_source : graph_text 10 (five ∷ []) order_of_five (Some 2)
    ≡ codes "{\"at\":2,\"boxes\":[{\"depth\":0,\"left\":0,\"name\":\"all\",\"own\":0,\"right\":10,\"start\":0,\"weight\":2},"
    ++ (codes "{\"depth\":1,\"left\":0,\"name\":\"a\",\"own\":1,\"right\":10,\"start\":0,\"weight\":2},"
    ++ (codes "{\"depth\":2,\"left\":5,\"name\":\"b\",\"own\":1,\"right\":10,\"start\":1,\"weight\":1}],"
    ++ (codes "\"counts\":[2],\"total\":2,\"view\":\"snapshot\",\"width\":10}\n"
    ++ (codes "{\"at\":4,\"boxes\":[{\"depth\":0,\"left\":0,\"name\":\"all\",\"own\":0,\"right\":10,\"start\":0,\"weight\":5},"
    ++ (codes "{\"depth\":1,\"left\":0,\"name\":\"a\",\"own\":2,\"right\":6,\"start\":0,\"weight\":3},"
    ++ (codes "{\"depth\":2,\"left\":4,\"name\":\"b\",\"own\":1,\"right\":6,\"start\":2,\"weight\":1},"
    ++ (codes "{\"depth\":1,\"left\":6,\"name\":\"c\",\"own\":2,\"right\":10,\"start\":3,\"weight\":2}],"
    ++ (codes "\"counts\":[4],\"total\":5,\"view\":\"snapshot\",\"width\":10}\n"
    ++ (codes "{\"boxes\":[{\"depth\":0,\"left\":0,\"name\":\"all\",\"own\":0,\"right\":10,\"start\":0,\"weight\":6},"
    ++ (codes "{\"depth\":1,\"left\":0,\"name\":\"a\",\"own\":2,\"right\":5,\"start\":0,\"weight\":3},"
    ++ (codes "{\"depth\":2,\"left\":3,\"name\":\"b\",\"own\":1,\"right\":5,\"start\":2,\"weight\":1},"
    ++ (codes "{\"depth\":1,\"left\":5,\"name\":\"c\",\"own\":2,\"right\":8,\"start\":3,\"weight\":2},"
    ++ (codes "{\"depth\":1,\"left\":8,\"name\":\"d\",\"own\":1,\"right\":10,\"start\":5,\"weight\":1}],"
    ++ codes "\"total\":6,\"view\":\"graph\",\"width\":10}\n")))))))))))))
unfolding boxes_line snapshot_line escape_byte digits
snapshots_of_one_source = refl

abbrev three : List Sample
three = taken (a ∷ []) 1 ∷ taken (codes "c" ∷ []) 0 ∷ taken (b ∷ []) 2 ∷ []

-- the boxes of `a 1`, `c 0`, `b 2` in a picture of 10 pixels
abbrev boxes_of_three : List ℕ
boxes_of_three =
    codes "{\"boxes\":[{\"depth\":0,\"left\":0,\"name\":\"all\",\"own\":0,\"right\":10,\"start\":0,\"weight\":3},"
    ++ (codes "{\"depth\":1,\"left\":0,\"name\":\"a\",\"own\":1,\"right\":3,\"start\":0,\"weight\":1},"
    ++ codes "{\"depth\":1,\"left\":3,\"name\":\"b\",\"own\":2,\"right\":10,\"start\":1,\"weight\":2}],")

graph_of_three_lines : graph_text 10 (three ∷ []) (0 ∷ 0 ∷ 0 ∷ []) None ≡ boxes_of_three ++ codes "\"total\":3,\"view\":\"graph\",\"width\":10}\n"
unfolding boxes_line escape_byte digits
graph_of_three_lines = refl

chart_of_three_lines : chart_text 10 (three ∷ []) ≡ boxes_of_three ++ codes "\"total\":3,\"view\":\"chart\",\"width\":10}\n"
unfolding boxes_line escape_byte digits
chart_of_three_lines = refl

comparison : pair_boxes_text 10 (taken (a ∷ []) 3 ∷ taken (b ∷ []) 1 ∷ []) (taken (a ∷ []) 1 ∷ taken (codes "c" ∷ []) 2 ∷ [])
    ≡ codes "{\"before\":4,\"boxes\":[{\"before\":4,\"depth\":0,\"left\":0,\"name\":\"all\",\"own\":0,\"right\":10,\"start\":0,\"weight\":3},"
    ++ (codes "{\"before\":3,\"depth\":1,\"left\":0,\"name\":\"a\",\"own\":1,\"right\":3,\"start\":0,\"weight\":1},"
    ++ (codes "{\"before\":0,\"depth\":1,\"left\":3,\"name\":\"c\",\"own\":2,\"right\":10,\"start\":1,\"weight\":2}],"
    ++ codes "\"total\":3,\"view\":\"compare\",\"width\":10}\n"))
unfolding pair_boxes_line escape_byte digits total_of own_of
comparison = refl
