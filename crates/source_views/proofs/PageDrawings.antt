-- What the drawings of a page stand for.
use Rattle.std.proofs.Common.{◌≡◌, ◌<◌, ◌+◌, ◌++◌, ℕ, Bool, List, [], ◌∷◌, codes, false, length, map, get_or, take, true, None, Some, Option, refl, ap, sym, subst, ◌∙◌, arith}
use Rattle.std.specs.List.{range_with_len}
use Rattle.std.proofs.lemmas.List.{get_or-map, map_more, map_push}
use Rattle.std.proofs.lemmas.List.FromFn.{map-range_with_len_more}
use Rattle.stack_core.specs.Interleaving.{counts_at}
use Rattle.call_tree.specs.CallTree.{Tree, total_weight as tree_total}
use Rattle.sample_tables.specs.declared.samples.Sample.{Sample}
use Rattle.merged_stacks.specs.Merged.{merged_samples}
use Rattle.merged_stacks.specs.Timeline.{total_weight}
use Rattle.flame_layout.specs.declared.boxes.DrawnBox.{DrawnBox}
use Rattle.flame_layout.specs.declared.boxes.DrawnPair.{DrawnPair}
use Rattle.flame_layout.specs.Boxes.{compared_of, paired_box, plain_box, span_of}
use Rattle.flame_layout.specs.declared.boxes.SpanBox.{SpanBox}
use Rattle.flame_layout.specs.Graph.{graph_of}
use Rattle.flame_layout.specs.Paths.{SameOwn, tree_samples}
use Rattle.flame_layout.proofs.GraphBoxes.{tree_weight}
use Rattle.flame_layout.proofs.MergedSums.{merged_own}
use Rattle.merging.specs.Snapshots.{snapshot_counts, snapshot_samples, IsSnapshot, AreSnapshots}
use Rattle.merging.proofs.CountLemmas.{get_or-source_counts}
use Rattle.merging.specs.declared.snapshots.Snapshot.{Snapshot}
use Rattle.source_views.specs.checked.Filling.{filled}
use Rattle.source_views.specs.Texts.{all_counts}
use Rattle.source_views.proofs.TextLemmas.{same_weight}
use Rattle.page_texts.specs.Page.{Moment, Page, PageBox, PageDrawing}
use Rattle.page_texts.specs.Drawn.{page_box}
use Rattle.source_views.specs.checked.DrawnProfiles.{IsDrawnOf, profile_drawing}
use Rattle.source_views.specs.checked.DrawnRuns.{drawing_in, places_of}
use Rattle.source_views.specs.declared.drawn_profiles.DrawnProfile.{DrawnProfile}
use Rattle.source_views.specs.declared.drawn_runs.DrawnSnapshot.{DrawnSnapshot}
use Rattle.source_views.specs.Pages.{PageHeading, compared_drawing, growing_heading, growing_page, least_of, page_with, plain_drawing, snapshot_drawing}

-- counts filled up are those of all sources
pub filled_counts : (sources m : ℕ) (order : List ℕ) → filled sources (snapshot_counts m order) ≡ map (counts_at m order) (range_with_len 0 sources)
filled_counts sources m order = λ i. map (λ source. get_or-source_counts (take m order) source i) (range_with_len 0 sources)

pub filled_more : (sources : ℕ) (counts : List ℕ) → filled (sources + 1) counts ≡ filled sources counts ++ get_or counts sources 0 ∷ []
filled_more sources counts = map-range_with_len_more (λ source. get_or counts source 0) 0 sources sources (omega arith)

-- a tree's total is the weight of the samples whose sums it has
pub drawn_weight : (names : List (List ℕ)) (tree : Tree) (samples : List Sample) → SameOwn samples (tree_samples names tree) → tree_total tree [] ≡ total_weight samples
drawn_weight names tree samples same = sym (tree_weight names tree) ∙ sym (same_weight samples (tree_samples names tree) same)

-- the own sums of a tree and a table that are lent
pub lent_stacks : (names table : List (List ℕ)) (tree lent : Tree) (samples : List Sample) → table ≡ names → lent ≡ tree
    → SameOwn samples (tree_samples names tree) → SameOwn samples (tree_samples table lent)
lent_stacks names table tree lent samples named same stacks =
    subst (λ tree. SameOwn samples (tree_samples table tree)) (sym same) (subst (λ names. SameOwn samples (tree_samples names tree)) (sym named) stacks)

pub plain_boxes : (spans : List SpanBox) → map page_box (map plain_box spans) ≡ map (λ span. record { span = span; other = 0 }) spans
plain_boxes [] = refl
plain_boxes (span ∷ spans) = ap (λ later. page_box (plain_box span) ∷ later) (plain_boxes spans)

pub drawn_boxes : (boxes : List DrawnBox) → map page_box (map (λ drawn. plain_box (span_of drawn)) boxes) ≡ map (λ span. record { span = span; other = 0 }) (map span_of boxes)
drawn_boxes [] = refl
drawn_boxes (box ∷ boxes) = ap (λ later. page_box (plain_box (span_of box)) ∷ later) (drawn_boxes boxes)

-- a drawing of other boxes that are the same
pub with_boxes : (least : Option ℕ) (moment : Option Moment) (total : ℕ) (boxes : List PageBox) (spans : List SpanBox) → boxes ≡ map (λ span. record { span = span; other = 0 }) spans
    → record { moment = moment; is_compared = false; least = least_of least total; total = total; boxes = boxes } ≡ plain_drawing least moment total spans
with_boxes least moment total boxes spans same = λ i. record { moment = moment; is_compared = false; least = least_of least total; total = total; boxes = same i }

-- the page of merged stacks that are drawn is that of the samples
pub grown_page : (has_more : Bool) (samples stacks : List Sample) (total : ℕ) (boxes : List SpanBox) (heading : PageHeading) (drawing : PageDrawing) (page : Page)
    → stacks ≡ merged_samples samples → total ≡ total_weight stacks → ((samples : List Sample) → SameOwn samples stacks → boxes ≡ graph_of samples)
    → heading ≡ growing_heading total → drawing ≡ plain_drawing heading.least None total boxes → page ≡ page_with heading (codes "graph") (drawing ∷ [])
    → record page { has_more = has_more } ≡ growing_page has_more samples
grown_page has_more samples stacks total boxes heading drawing page merged weighed drawn headed is paged =
    let own = subst (λ (all : List Sample). SameOwn samples all) (sym merged) (merged_own samples) in
    let weight = weighed ∙ sym (same_weight samples stacks own) in
    let boxed = drawn samples own in
    let here = headed ∙ ap growing_heading weight in
    let one : drawing ≡ plain_drawing None None (total_weight samples) (graph_of samples) = is ∙ (λ i. plain_drawing (headed i).least None (weight i) (boxed i)) in
    (λ i. record (paged i) { has_more = has_more }) ∙ (λ i. record (page_with (here i) (codes "graph") (one i ∷ [])) { has_more = has_more })

pub paired_boxes : (pairs : List DrawnPair) → map page_box (map (λ pair. paired_box (compared_of pair)) pairs) ≡ map (λ compared. record { span = compared.span; other = compared.before }) (map compared_of pairs)
paired_boxes [] = refl
paired_boxes (pair ∷ pairs) = ap (λ later. page_box (paired_box (compared_of pair)) ∷ later) (paired_boxes pairs)

-- a drawing of a profile whose boxes are these
pub with_pairs : (least : Option ℕ) (profile : DrawnProfile) (boxes : List PageBox) → boxes ≡ map (λ compared. record { span = compared.span; other = compared.before }) (map compared_of profile.boxes.items)
    → record { moment = None; is_compared = true; least = least_of least profile.total; total = profile.total; boxes = boxes } ≡ profile_drawing least profile
with_pairs least profile boxes same = λ i. record { moment = None; is_compared = true; least = least_of least profile.total; total = profile.total; boxes = same i }

-- a profile that is drawn is its drawing
pub profile_drawn : (least : Option ℕ) (other samples : List Sample) (profile : DrawnProfile) → IsDrawnOf other samples profile → profile_drawing least profile ≡ compared_drawing least other samples
profile_drawn least other samples profile drawn = λ i. record {
  moment = None;
  is_compared = true;
  least = least_of least (drawn.total i);
  total = drawn.total i;
  boxes = map (λ compared. record { span = compared.span; other = compared.before }) (drawn.boxes i);
}

-- and both are those of the page
pub profiles_drawn : (least : Option ℕ) (before after : List Sample) (one other : DrawnProfile) (drawings : List PageDrawing) → IsDrawnOf after before one → IsDrawnOf before after other
    → drawings ≡ profile_drawing least one ∷ profile_drawing least other ∷ [] → drawings ≡ compared_drawing least after before ∷ compared_drawing least before after ∷ []
profiles_drawn least before after one other drawings is are found =
    found ∙ (λ i. profile_drawn least after before one is i ∷ profile_drawn least before after other are i ∷ [])

-- a snapshot that is drawn is the drawing of its moment
pub snapshot_drawn : (place sources total : ℕ) (every : Option ℕ) (order : List ℕ) (lists : List (List Sample)) (names table : List (List ℕ)) (snapshots : List Snapshot) (snapshot : Snapshot) (counts : List ℕ) (boxes : List SpanBox)
    → table ≡ names → place < length snapshots → snapshot ≡ get_or snapshots place snapshot → sources ≡ length lists
    → AreSnapshots every names order (λ m. snapshot_samples m order lists) snapshots → counts ≡ filled sources snapshot.counts
    → ((samples : List Sample) → SameOwn samples (tree_samples table snapshot.tree) → total ≡ total_weight samples)
    → ((samples : List Sample) → SameOwn samples (tree_samples table snapshot.tree) → boxes ≡ graph_of samples)
    → (least : Option ℕ) → plain_drawing least (Some (record { at = snapshot.at; counts = counts })) total boxes ≡ snapshot_drawing least lists order (get_or (places_of snapshots) place 0)
snapshot_drawn place sources total every order lists names table snapshots snapshot counts boxes known below is all made counted weighed drawn least =
    (λ i. plain_drawing least (Some (record { at = snapshot.at; counts = told i })) (weighed samples same i) (drawn samples same i))
    ∙ ap (snapshot_drawing least lists order) (sym moment)
  where
    samples : List Sample
    samples = snapshot_samples snapshot.at order lists

    here : IsSnapshot names order (λ m. snapshot_samples m order lists) snapshot
    here = subst (IsSnapshot names order (λ m. snapshot_samples m order lists)) (sym is) (made.each place snapshot below)

    same : SameOwn samples (tree_samples table snapshot.tree)
    same = subst (λ ns. SameOwn samples (tree_samples ns snapshot.tree)) (sym known) here.sums.stacks

    moment : get_or (places_of snapshots) place 0 ≡ snapshot.at
    moment = get_or-map (λ (s : Snapshot). s.at) snapshots place snapshot 0 below ∙ ap (λ (s : Snapshot). s.at) (sym is)

    told : counts ≡ all_counts snapshot.at order lists
    told = counted ∙ (λ i. filled (all i) (here.counts i)) ∙ filled_counts (length lists) snapshot.at order

-- one snapshot more is drawn
pub snapshots_more : (least : Option ℕ) (lists : List (List Sample)) (order places : List ℕ) (place at : ℕ) (drawn : List DrawnSnapshot) (snapshot : DrawnSnapshot)
    → place < length places → at ≡ place → map (drawing_in least) drawn ≡ map (snapshot_drawing least lists order) (take place places)
    → drawing_in least snapshot ≡ snapshot_drawing least lists order (get_or places at 0)
    → map (drawing_in least) (drawn ++ snapshot ∷ []) ≡ map (snapshot_drawing least lists order) (take (place + 1) places)
snapshots_more least lists order places place at drawn snapshot below here before is =
    map_push (drawing_in least) drawn snapshot
    ∙ (λ i. before i ++ (is ∙ ap (λ at. snapshot_drawing least lists order (get_or places at 0)) here) i ∷ [])
    ∙ sym (map_more (snapshot_drawing least lists order) places place 0 below)
