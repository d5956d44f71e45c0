-- Worked examples, computed on the definitions.
use Rattle.std.proofs.Common.{◌≡◌, ℕ, List, [], ◌∷◌, ◌++◌, Some, None, true, false, codes, refl}
use Rattle.std.specs.Fmt.{digits}
use Rattle.json.specs.Print.{escape_byte}
use Rattle.page_texts.specs.ScriptSafe.{script_safe}
use Rattle.page_texts.specs.Columns.{no_span}
use Rattle.page_texts.specs.Page.{PageBox, PageDrawing, PageSource, told_boxes, page_text}
use Rattle.page_texts.specs.PageLaws.{boxes_told}

abbrev box : ℕ → List ℕ → ℕ → ℕ → ℕ → ℕ → PageBox
box depth name start weight own other =
    record { span = record { depth = depth; name = name; start = start; weight = weight; own = own }; other = other }

-- the flame graph of `main;read<int> 2` and `main 1`
abbrev small : List PageBox
small = box 0 (codes "all") 0 3 0 0 ∷ box 1 (codes "main") 0 3 1 0 ∷ box 2 (codes "read<int>") 1 2 2 0 ∷ []

abbrev small_source : PageSource
small_source = record { name = codes "small.folded"; type_name = []; unit = []; weight = 3 }

abbrev drawing : ℕ → List PageBox → PageDrawing
drawing least boxes = record { moment = None; is_compared = false; least = least; total = 3; boxes = boxes }

example : page_text (record { drawings = drawing 0 small ∷ []; sources = small_source ∷ []; title = codes "small.folded"; view = codes "graph"; whole = 3; is_root_below = false; is_share = false; has_more = false })
    ≡ codes "{\"drawings\":[{\"gap\":[0,0,1],\"least\":0,\"left_out\":{\"boxes\":0,\"weight\":0},\"name\":[0,1,2],"
    ++ (codes "\"rest\":[0,1,0],\"tail\":[3,0,0],\"total\":3,\"up\":[1,0,0]}],"
    ++ (codes "\"names\":[\"all\",\"main\",\"read\\u003cint\\u003e\"],"
    ++ codes "\"sources\":[{\"name\":\"small.folded\",\"type\":\"\",\"unit\":\"\",\"weight\":3}],\"title\":\"small.folded\",\"view\":\"graph\",\"whole\":3}"))
unfolding page_text script_safe escape_byte digits
example = refl

-- boxes that weigh at least 3
abbrev light : PageDrawing
light = drawing 3 small

narrow_box_left_out : page_text (record { drawings = light ∷ []; sources = []; title = []; view = codes "chart"; whole = 5; is_root_below = false; is_share = false; has_more = false })
    ≡ codes "{\"drawings\":[{\"gap\":[0,0],\"least\":3,\"left_out\":{\"boxes\":1,\"weight\":2},\"name\":[0,1],"
    ++ (codes "\"rest\":[0,2],\"tail\":[3,0],\"total\":3,\"up\":[1,0]}],"
    ++ codes "\"names\":[\"all\",\"main\"],\"sources\":[],\"title\":\"\",\"view\":\"chart\",\"whole\":5}")
unfolding page_text script_safe escape_byte digits
narrow_box_left_out = refl

-- a snapshot, and then the graph, whose names are told once
abbrev snapshot : PageDrawing
snapshot = record { moment = Some (record { at = 1; counts = 1 ∷ 0 ∷ [] }); is_compared = false; least = 0; total = 1; boxes = box 0 (codes "all") 0 1 0 0 ∷ box 1 (codes "&") 0 1 1 0 ∷ [] }

snapshots : page_text (record { drawings = snapshot ∷ drawing 0 (box 0 (codes "all") 0 3 3 0 ∷ []) ∷ []; sources = []; title = []; view = codes "graph"; whole = 4; is_root_below = false; is_share = false; has_more = false })
    ≡ codes "{\"drawings\":[{\"at\":1,\"counts\":[1,0],\"gap\":[0,0],\"least\":0,\"left_out\":{\"boxes\":0,\"weight\":0},\"name\":[0,1],"
    ++ (codes "\"rest\":[0,0],\"tail\":[1,0],\"total\":1,\"up\":[1,0]},"
    ++ (codes "{\"gap\":[0],\"least\":0,\"left_out\":{\"boxes\":0,\"weight\":0},\"name\":[0],\"rest\":[0],\"tail\":[3],\"total\":3,\"up\":[1]}],"
    ++ codes "\"names\":[\"all\",\"\\u0026\"],\"sources\":[],\"title\":\"\",\"view\":\"graph\",\"whole\":4}"))
unfolding page_text script_safe escape_byte digits
snapshots = refl

-- the graph of BEFORE, with the weights of its paths after
abbrev compared : PageDrawing
compared = record { moment = None; is_compared = true; least = 0; total = 4; boxes = box 0 (codes "all") 0 4 1 3 ∷ box 1 (codes "a") 1 3 3 0 ∷ [] }

comparison : page_text (record { drawings = compared ∷ []; sources = []; title = []; view = codes "compare"; whole = 7; is_root_below = false; is_share = false; has_more = false })
    ≡ codes "{\"drawings\":[{\"gap\":[0,1],\"least\":0,\"left_out\":{\"boxes\":0,\"weight\":0},\"name\":[0,1],\"other\":[3,0],"
    ++ (codes "\"rest\":[1,0],\"tail\":[4,0],\"total\":4,\"up\":[1,0]}],"
    ++ codes "\"names\":[\"all\",\"a\"],\"sources\":[],\"title\":\"\",\"view\":\"compare\",\"whole\":7}")
unfolding page_text script_safe escape_byte digits
comparison = refl

-- boxes of which each second one begins 1 behind another; of what stands on the first `a` a weight of 1 is left out
abbrev steps : List PageBox
steps =
    box 0 (codes "all") 0 11 2 0 ∷ box 1 (codes "a") 1 4 3 0 ∷ box 1 (codes "b") 6 5 1 0 ∷ box 2 (codes "a") 6 3 0 0 ∷ box 3 (codes "c") 7 2 2 0 ∷ box 2 (codes "c") 9 1 1 0 ∷ []

told_by_steps : told_boxes (codes "all" ∷ codes "a" ∷ codes "b" ∷ codes "c" ∷ []) no_span steps
    ≡ record { gap = 0; name = 0; other = 0; rest = 2; tail = 11; up = 1 }
    ∷ record { gap = 1; name = 1; other = 0; rest = 1; tail = 6; up = 0 }
    ∷ record { gap = 1; name = 2; other = 0; rest = 1; tail = 5; up = 1 }
    ∷ record { gap = 0; name = 1; other = 0; rest = 0; tail = 2; up = 0 }
    ∷ record { gap = 1; name = 3; other = 0; rest = 0; tail = 0; up = 0 }
    ∷ record { gap = 0; name = 3; other = 0; rest = 0; tail = 1; up = 2 } ∷ []
told_by_steps = refl

read_of_steps : boxes_told (codes "all" ∷ codes "a" ∷ codes "b" ∷ codes "c" ∷ []) no_span (told_boxes (codes "all" ∷ codes "a" ∷ codes "b" ∷ codes "c" ∷ []) no_span steps) ≡ steps
read_of_steps = refl

-- two boxes in one place, of which neither stands on the other: a difference goes round
abbrev in_one_place : List PageBox
in_one_place = box 0 (codes "all") 0 1 1 0 ∷ box 0 (codes "all") 0 1 1 0 ∷ []

told_round : told_boxes (codes "all" ∷ []) no_span in_one_place
    ≡ record { gap = 0; name = 0; other = 0; rest = 0; tail = 1; up = 1 } ∷ record { gap = 18446744073709551615; name = 0; other = 0; rest = 0; tail = 1; up = 1 } ∷ []
told_round = refl

read_round : boxes_told (codes "all" ∷ []) no_span (told_boxes (codes "all" ∷ []) no_span in_one_place) ≡ in_one_place
read_round = refl

-- a page that opens with the root below
root_below : page_text (record { drawings = []; sources = []; title = codes "t"; view = codes "graph"; whole = 0; is_root_below = true; is_share = false; has_more = false })
    ≡ codes "{\"drawings\":[],\"names\":[],\"root_below\":true,\"sources\":[],\"title\":\"t\",\"view\":\"graph\",\"whole\":0}"
unfolding page_text script_safe escape_byte digits
root_below = refl

shares : page_text (record { drawings = []; sources = []; title = codes "t"; view = codes "compare"; whole = 0; is_root_below = true; is_share = true; has_more = false })
    ≡ codes "{\"drawings\":[],\"names\":[],\"root_below\":true,\"share\":true,\"sources\":[],\"title\":\"t\",\"view\":\"compare\",\"whole\":0}"
unfolding page_text script_safe escape_byte digits
shares = refl

-- a page of which more is to come
growing : page_text (record { drawings = []; sources = []; title = codes "t"; view = codes "graph"; whole = 0; is_root_below = true; is_share = false; has_more = true })
    ≡ codes "{\"drawings\":[],\"more\":true,\"names\":[],\"root_below\":true,\"sources\":[],\"title\":\"t\",\"view\":\"graph\",\"whole\":0}"
unfolding page_text script_safe escape_byte digits
growing = refl

-- U+2028, U+2029 and what begins like them, in a title
separators : script_safe (226 ∷ 128 ∷ 168 ∷ 226 ∷ 128 ∷ 169 ∷ 226 ∷ 128 ∷ 170 ∷ 226 ∷ 128 ∷ [])
    ≡ codes "\\u2028\\u2029" ++ (226 ∷ 128 ∷ 170 ∷ 226 ∷ 128 ∷ [])
unfolding script_safe
separators = refl
