-- the boxes of a chart and their paths, one beside the other
use Rattle.std.proofs.Common.{◌≡◌, ℕ, zero, suc, ◌+◌, ◌-◌, ◌≤◌, ◌<◌, List, [], ◌∷◌, ◌++◌, length, map, take, sym, ◌∙◌, ap, arith, Option, Some, None}
use Rattle.std.specs.List.{AllZip, range_with_len}
use Rattle.std.proofs.lemmas.List.{length-take-le}
use Rattle.sample_tables.specs.declared.samples.Sample.{Sample}
use Rattle.flame_layout.specs.declared.boxes.SpanBox.{SpanBox}
use Rattle.merged_stacks.specs.Timeline.{Stack}
use Rattle.flame_layout.specs.Chart.{box_name, box_at, boxes_from, first_new, boxes_after, chart_of}
use Rattle.flame_layout.specs.Paths.{paths_from, paths_after, paths_of}
use Rattle.flame_layout.specs.Runs.{HasPath}
use Rattle.flame_layout.proofs.ChartLaws.{BehindPath, path_here, path_later, run_of_behind}
use Rattle.flame_layout.proofs.Visits.{box_name-front}

step-join : (R : SpanBox → Stack → Type 0) (xs ys : List SpanBox) (ps qs : List Stack) → AllZip R xs ps → AllZip R ys qs → AllZip R (xs ++ ys) (ps ++ qs)
step-join R [] ys [] qs h g = g
step-join R [] ys (p ∷ ps) qs h g = absurd h
step-join R (x ∷ xs) ys [] qs h g = absurd h
step-join R (x ∷ xs) ys (p ∷ ps) qs h g = (h.0, step-join R xs ys ps qs h.1 g)

step-range : (R : SpanBox → Stack → Type 0) (f : ℕ → SpanBox) (g : ℕ → Stack) (m d : ℕ) → ((k : ℕ) → d ≤ k → k < d + m → R (f k) (g k)) → AllZip R (map f (range_with_len d m)) (map g (range_with_len d m))
step-range R f g zero d h = tt
step-range R f g (suc m) d h = (h d (omega arith) (omega arith), step-range R f g m (d + 1) (λ k l u. h k (omega arith) (omega arith)))

step-weaker : (R S : SpanBox → Stack → Type 0) → ((box : SpanBox) (path : Stack) → R box path → S box path) → (xs : List SpanBox) (ps : List Stack) → AllZip R xs ps → AllZip S xs ps
step-weaker R S f [] [] h = tt
step-weaker R S f [] (p ∷ ps) h = absurd h
step-weaker R S f (x ∷ xs) [] h = absurd h
step-weaker R S f (x ∷ xs) (p ∷ ps) h = (f x p h.0, step-weaker R S f xs ps h.1)

behind-step : (b : Option Stack) (start : ℕ) (xs : List Sample) → AllZip (BehindPath b start xs) (boxes_after b start xs) (paths_after b xs)
behind-step b start [] = tt
behind-step b start (s ∷ rest) =
    let first = first_new b s.stack in
    step-join (BehindPath b start (s ∷ rest)) (boxes_from first s.stack start (s ∷ rest)) (boxes_after (Some s.stack) (start + s.weight) rest) (paths_from first s.stack) (paths_after (Some s.stack) rest)
    (step-range (BehindPath b start (s ∷ rest)) (box_at s.stack start (s ∷ rest)) (λ d. take d s.stack) (length s.stack + 1 - first) first (λ k l u. path_here b start k s rest l (omega (arith, l, u))))
    (step-weaker (BehindPath (Some s.stack) (start + s.weight) rest) (BehindPath b start (s ∷ rest)) (path_later b start s rest) _ _ (behind-step (Some s.stack) (start + s.weight) rest))

path_of_behind : (samples : List Sample) (box : SpanBox) (path : Stack) → BehindPath None 0 samples box path → HasPath samples box path
path_of_behind samples box path h =
    let d = h.run.depth in
    let stack = h.run.first.stack in
    let long : length path ≡ d = ap length h.names ∙ length-take-le d stack h.run.deep in
    record {
      run = run_of_behind samples box h.run;
      names = h.names;
      depth = ap (λ (span : SpanBox). span.depth) h.run.is ∙ sym long;
      name = ap (λ (span : SpanBox). span.name) h.run.is ∙ (sym (box_name-front d stack) ∙ (λ i. box_name (sym long i) (sym h.names i)));
    }

pub chart-step : (samples : List Sample) → AllZip (HasPath samples) (chart_of samples) (paths_of samples)
chart-step samples = step-weaker (BehindPath None 0 samples) (HasPath samples) (path_of_behind samples) (chart_of samples) (paths_of samples) (behind-step None 0 samples)
