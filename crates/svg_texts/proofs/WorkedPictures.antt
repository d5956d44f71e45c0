-- Worked examples, computed on the definitions.
use Rattle.std.proofs.Common.{◌≡◌, ℕ, List, [], ◌∷◌, ◌++◌, Option, Some, None, true, false, codes, refl}
use Rattle.std.specs.Prelude.{encode_utf8_all}
use Rattle.std.specs.Fmt.{digits}
use Rattle.std.specs.Str.{chars}
use lib.Utf8.{encode}
use Rattle.view_texts.specs.Quotients.{quotient_text, decimals}
use Rattle.view_texts.specs.WeightTexts.{weight_text, change_text}
use Rattle.flame_layout.specs.Boxes.{SeenBox}
use Rattle.svg_texts.specs.Fills.{name_fill, change_fill}
use Rattle.svg_texts.specs.Labels.{label}
use Rattle.svg_texts.specs.Shown.{shown}
use Rattle.svg_texts.specs.Svg.{svg_text, heading, foot, box_line, tip, svg_tag, paper_element, title_element, rect_element, text_tag}

abbrev box : ℕ → List ℕ → ℕ → ℕ → ℕ → Option ℕ → SeenBox
box depth name start weight own before =
    record { span = record { depth = depth; name = name; start = start; weight = weight; own = own }; before = before }

-- the flame graph of `main;parse 6`, `main;read<int> 3` and `main 1`
abbrev graph-boxes : List SeenBox
graph-boxes =
    box 0 (codes "all") 0 10 0 None ∷ box 1 (codes "main") 0 10 1 None ∷ box 2 (codes "parse") 1 6 6 None ∷ box 2 (codes "read<int>") 7 3 3 None ∷ []

graph : svg_text (record { title = (codes "three.folded"); unit = []; total = 10; total_before = None; width = 120; root_below = false }) graph-boxes
    ≡ (codes "<svg xmlns=\"http://www.w3.org/2000/svg\" width=\"120\" height=\"90\" viewBox=\"0 0 120 90\" font-family=\"monospace\" font-size=\"12\">\n"
    ++ (codes "<title>three.folded</title>\n"
    ++ (codes "<rect width=\"120\" height=\"90\" fill=\"#fbfbf9\"/>\n"
    ++ (codes "<text x=\"4\" y=\"15\">three.folded</text>\n"
    ++ (codes "<g><title>all: 10, 100.00%, own 0</title><rect x=\"0\" y=\"18\" width=\"120\" height=\"17\" fill=\"hsl(220, 8%, 82%)\"/><text x=\"4\" y=\"31\">all</text></g>\n"
    ++ (codes "<g><title>main: 10, 100.00%, own 1</title><rect x=\"0\" y=\"36\" width=\"120\" height=\"17\" fill=\"hsl(100, 48%, 74%)\"/><text x=\"4\" y=\"49\">main</text></g>\n"
    ++ (codes "<g><title>parse: 6, 60.00%, own 6</title><rect x=\"12\" y=\"54\" width=\"72\" height=\"17\" fill=\"hsl(260, 48%, 74%)\"/><text x=\"16\" y=\"67\">parse</text></g>\n"
    ++ (encode_utf8_all (codes "<g><title>read&lt;int&gt;: 3, 30.00%, own 3</title><rect x=\"84\" y=\"54\" width=\"36\" height=\"17\" fill=\"hsl(100, 48%, 74%)\"/><text x=\"88\" y=\"67\">re…</text></g>\n")
    ++ (codes "<text x=\"4\" y=\"85\">total 10</text>\n"
    ++ codes "</svg>\n")))))))))
unfolding svg_text heading foot box_line tip label shown svg_tag paper_element title_element rect_element text_tag name_fill change_fill weight_text quotient_text decimals change_text digits chars encode
graph = refl

-- that of `main;work 98`, `main;tiny 1` and `main 1`, with the root below: 1 of 100 has no pixel of its own
abbrev root_below-boxes : List SeenBox
root_below-boxes =
    box 0 (codes "all") 0 100 0 None ∷ box 1 (codes "main") 0 100 1 None ∷ box 2 (codes "tiny") 1 1 1 None ∷ box 2 (codes "work") 2 98 98 None ∷ []

root_below : svg_text (record { title = (codes "work"); unit = (codes "milliseconds"); total = 100; total_before = None; width = 30; root_below = true }) root_below-boxes
    ≡ (codes "<svg xmlns=\"http://www.w3.org/2000/svg\" width=\"30\" height=\"90\" viewBox=\"0 0 30 90\" font-family=\"monospace\" font-size=\"12\">\n"
    ++ (codes "<title>work</title>\n"
    ++ (codes "<rect width=\"30\" height=\"90\" fill=\"#fbfbf9\"/>\n"
    ++ (codes "<text x=\"4\" y=\"15\">work</text>\n"
    ++ (codes "<g><title>all: 100 ms, 100.00%, own 0 ns</title><rect x=\"0\" y=\"54\" width=\"30\" height=\"17\" fill=\"hsl(220, 8%, 82%)\"/><text x=\"4\" y=\"67\">all</text></g>\n"
    ++ (encode_utf8_all (codes "<g><title>main: 100 ms, 100.00%, own 1 ms</title><rect x=\"0\" y=\"36\" width=\"30\" height=\"17\" fill=\"hsl(100, 48%, 74%)\"/><text x=\"4\" y=\"49\">ma…</text></g>\n")
    ++ (encode_utf8_all (codes "<g><title>work: 98 ms, 98.00%, own 98 ms</title><rect x=\"0\" y=\"18\" width=\"30\" height=\"17\" fill=\"hsl(200, 48%, 74%)\"/><text x=\"4\" y=\"31\">wo…</text></g>\n")
    ++ (encode_utf8_all (codes "<text x=\"4\" y=\"85\">total 100 ms · 1 narrower box left out, in which 1 ms ends</text>\n")
    ++ codes "</svg>\n"))))))))
unfolding svg_text heading foot box_line tip label shown svg_tag paper_element title_element rect_element text_tag name_fill change_fill weight_text quotient_text decimals change_text digits chars encode
root_below = refl

-- a comparison: less than before, new, and as before
abbrev comparison-boxes : List SeenBox
comparison-boxes =
    box 0 (codes "all") 0 8 0 (Some 10) ∷ box 1 (codes "a") 0 3 3 (Some 8) ∷ box 1 (codes "b") 3 4 4 (Some 0) ∷ box 1 (codes "c") 7 1 1 (Some 1) ∷ []

comparison : svg_text (record { title = (codes "before and after"); unit = (codes "bytes"); total = 8; total_before = None; width = 480; root_below = false }) comparison-boxes
    ≡ (codes "<svg xmlns=\"http://www.w3.org/2000/svg\" width=\"480\" height=\"72\" viewBox=\"0 0 480 72\" font-family=\"monospace\" font-size=\"12\">\n"
    ++ (codes "<title>before and after</title>\n"
    ++ (codes "<rect width=\"480\" height=\"72\" fill=\"#fbfbf9\"/>\n"
    ++ (codes "<text x=\"4\" y=\"15\">before and after</text>\n"
    ++ (encode_utf8_all (codes "<g><title>all: before 10 B, after 8 B, −20%, 100.00%, own 0 B</title><rect x=\"0\" y=\"18\" width=\"480\" height=\"17\" fill=\"hsl(213, 35.5%, 84.0%)\"/><text x=\"4\" y=\"31\">all −20%</text></g>\n")
    ++ (encode_utf8_all (codes "<g><title>a: before 8 B, after 3 B, −62.5%, 37.50%, own 3 B</title><rect x=\"0\" y=\"36\" width=\"180\" height=\"17\" fill=\"hsl(213, 59.6%, 74.0%)\"/><text x=\"4\" y=\"49\">a −62.5%</text></g>\n")
    ++ (codes "<g><title>b: before 0 B, after 4 B, new, 50.00%, own 4 B</title><rect x=\"180\" y=\"36\" width=\"240\" height=\"17\" fill=\"hsl(6, 74.0%, 68.0%)\"/><text x=\"184\" y=\"49\">b new</text></g>\n"
    ++ (encode_utf8_all (codes "<g><title>c: before 1 B, after 1 B, ±0%, 12.50%, own 1 B</title><rect x=\"420\" y=\"36\" width=\"60\" height=\"17\" fill=\"hsl(6, 0.0%, 88.0%)\"/><text x=\"424\" y=\"49\">c ±0%</text></g>\n")
    ++ (codes "<text x=\"4\" y=\"67\">total 8 B</text>\n"
    ++ codes "</svg>\n")))))))))
unfolding svg_text heading foot box_line tip label shown svg_tag paper_element title_element rect_element text_tag name_fill change_fill weight_text quotient_text decimals change_text digits chars encode
comparison = refl

-- the same by shares: of 10 before, and of 8 after
shares : svg_text (record { title = (codes "before and after"); unit = (codes "bytes"); total = 8; total_before = Some 10; width = 480; root_below = false }) comparison-boxes
    ≡ (codes "<svg xmlns=\"http://www.w3.org/2000/svg\" width=\"480\" height=\"72\" viewBox=\"0 0 480 72\" font-family=\"monospace\" font-size=\"12\">\n"
    ++ (codes "<title>before and after</title>\n"
    ++ (codes "<rect width=\"480\" height=\"72\" fill=\"#fbfbf9\"/>\n"
    ++ (codes "<text x=\"4\" y=\"15\">before and after</text>\n"
    ++ (codes "<g><title>all: before 10 B, 100.00%, after 8 B, 100.00%, points 0.00%, own 0 B</title><rect x=\"0\" y=\"18\" width=\"480\" height=\"17\" fill=\"hsl(6, 0.0%, 88.0%)\"/><text x=\"4\" y=\"31\">all 0.00%</text></g>\n"
    ++ (codes "<g><title>a: before 8 B, 80.00%, after 3 B, 37.50%, points -42.50%, own 3 B</title><rect x=\"0\" y=\"36\" width=\"180\" height=\"17\" fill=\"hsl(213, 54.8%, 76.0%)\"/><text x=\"4\" y=\"49\">a -42.50%</text></g>\n"
    ++ (codes "<g><title>b: before 0 B, 0.00%, after 4 B, 50.00%, points +50.00%, own 4 B</title><rect x=\"180\" y=\"36\" width=\"240\" height=\"17\" fill=\"hsl(6, 74.0%, 68.0%)\"/><text x=\"184\" y=\"49\">b +50.00%</text></g>\n"
    ++ (codes "<g><title>c: before 1 B, 10.00%, after 1 B, 12.50%, points +2.50%, own 1 B</title><rect x=\"420\" y=\"36\" width=\"60\" height=\"17\" fill=\"hsl(6, 35.5%, 84.0%)\"/><text x=\"424\" y=\"49\">c</text></g>\n"
    ++ (codes "<text x=\"4\" y=\"67\">total 8 B</text>\n"
    ++ codes "</svg>\n")))))))))
unfolding svg_text heading foot box_line tip label shown svg_tag paper_element title_element rect_element text_tag name_fill change_fill weight_text quotient_text decimals change_text digits chars encode
shares = refl

-- an empty name, one with markup and a bell, wide letters that have room, and more than have
abbrev hostile-boxes : List SeenBox
hostile-boxes =
    box 0 (codes "all") 0 9 0 None ∷ box 1 [] 0 3 0 None ∷ box 2 (codes "a<b>&\"'" ++ 7 ∷ []) 0 3 3 None ∷ box 1 (encode_utf8_all (codes "日本語")) 3 3 3 None ∷ box 1 (encode_utf8_all (codes "日本語日本語")) 6 3 3 None ∷ []

hostile : svg_text (record { title = (codes "<t>"); unit = (codes "req<s>"); total = 9; total_before = None; width = 270; root_below = false }) hostile-boxes
    ≡ (codes "<svg xmlns=\"http://www.w3.org/2000/svg\" width=\"270\" height=\"90\" viewBox=\"0 0 270 90\" font-family=\"monospace\" font-size=\"12\">\n"
    ++ (codes "<title>&lt;t&gt;</title>\n"
    ++ (codes "<rect width=\"270\" height=\"90\" fill=\"#fbfbf9\"/>\n"
    ++ (codes "<text x=\"4\" y=\"15\">&lt;t&gt;</text>\n"
    ++ (codes "<g><title>all: 9 req&lt;s&gt;, 100.00%, own 0 req&lt;s&gt;</title><rect x=\"0\" y=\"18\" width=\"270\" height=\"17\" fill=\"hsl(220, 8%, 82%)\"/><text x=\"4\" y=\"31\">all</text></g>\n"
    ++ (codes "<g><title>(empty name): 3 req&lt;s&gt;, 33.33%, own 0 req&lt;s&gt;</title><rect x=\"0\" y=\"36\" width=\"90\" height=\"17\" fill=\"hsl(0, 48%, 74%)\"/></g>\n"
    ++ (encode_utf8_all (codes "<g><title>a&lt;b&gt;&amp;&quot;&#39;[U+0007]: 3 req&lt;s&gt;, 33.33%, own 3 req&lt;s&gt;</title><rect x=\"0\" y=\"54\" width=\"90\" height=\"17\" fill=\"hsl(130, 48%, 82%)\"/><text x=\"4\" y=\"67\">a&lt;b&gt;&amp;&quot;&#39;[U+…</text></g>\n")
    ++ (encode_utf8_all (codes "<g><title>日本語: 3 req&lt;s&gt;, 33.33%, own 3 req&lt;s&gt;</title><rect x=\"90\" y=\"36\" width=\"90\" height=\"17\" fill=\"hsl(20, 48%, 82%)\"/><text x=\"94\" y=\"49\">日本語</text></g>\n")
    ++ (encode_utf8_all (codes "<g><title>日本語日本語: 3 req&lt;s&gt;, 33.33%, own 3 req&lt;s&gt;</title><rect x=\"180\" y=\"36\" width=\"90\" height=\"17\" fill=\"hsl(340, 48%, 78%)\"/><text x=\"184\" y=\"49\">日本語日本…</text></g>\n")
    ++ (codes "<text x=\"4\" y=\"85\">total 9 req&lt;s&gt;</text>\n"
    ++ codes "</svg>\n"))))))))))
unfolding svg_text heading foot box_line tip label shown svg_tag paper_element title_element rect_element text_tag name_fill change_fill weight_text quotient_text decimals change_text digits chars encode
hostile = refl

-- no samples
abbrev nothing-boxes : List SeenBox
nothing-boxes =
    []

nothing : svg_text (record { title = (codes "empty"); unit = []; total = 0; total_before = None; width = 200; root_below = false }) nothing-boxes
    ≡ (codes "<svg xmlns=\"http://www.w3.org/2000/svg\" width=\"200\" height=\"36\" viewBox=\"0 0 200 36\" font-family=\"monospace\" font-size=\"12\">\n"
    ++ (codes "<title>empty</title>\n"
    ++ (codes "<rect width=\"200\" height=\"36\" fill=\"#fbfbf9\"/>\n"
    ++ (codes "<text x=\"4\" y=\"15\">empty</text>\n"
    ++ (codes "<text x=\"4\" y=\"31\">total 0</text>\n"
    ++ codes "</svg>\n")))))
unfolding svg_text heading foot box_line tip label shown svg_tag paper_element title_element rect_element text_tag name_fill change_fill weight_text quotient_text decimals change_text digits chars encode
nothing = refl
