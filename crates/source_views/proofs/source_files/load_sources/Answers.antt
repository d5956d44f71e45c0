use Rattle.std.proofs.Common.{rules, ◌≡◌, ◌+◌, ◌<◌, ◌++◌, [], ◌∷◌, ◌∙◌, arith, ap, sym, subst, length, map, take, get_or, string_bytes, ℕ, List, Option}
use Rattle.std.proofs.lemmas.Bool.{eqb-false}
use Rattle.std.proofs.lemmas.List.{length_push}
use Rattle.std.specs.List.{AllZip}
use Rattle.run_options.specs.declared.formats.Format.{Format}
use Rattle.source_views.specs.Opening.{IsLoaded}
use Rattle.source_views.proofs.OpenedSources.{loaded_more, loaded_whole}
use Rattle.source_views.proofs.source_files.load_sources.Goals as goal

pub loop-path-preserved : goal.loop-path-preserved
loop-path-preserved g c =
    let known = g.F.Files.known_file c.args.files.now in
    let paths = c.args.paths.now in
    let at = c.loop-path.path-index in
    let path = c.path-item.result in
    let added : (source : Format × Option (List ℕ)) × (c.add_named.new.inputs.items ≡ c.loop-path.inputs.items ++ source ∷ [])
    × IsLoaded c.args.asked (g.F.Files.known_file c.loop-path.files) c.deref.result.now source =
    c.in_ok-add_named.ensures.loaded in
    let source = added.0 in
    let is : path ≡ get_or paths at path = search rules in
    let bytes : c.deref.result.now ≡ string_bytes path = search rules in
    let here : IsLoaded c.args.asked known (string_bytes path) source =
    subst (λ files. IsLoaded c.args.asked files (string_bytes path) source) c.loop-path.invariant.files
    (subst (λ bytes. IsLoaded c.args.asked (g.F.Files.known_file c.loop-path.files) bytes source) bytes added.2) in
    record {
      count = ap length added.1 ∙ length_push c.loop-path.inputs.items source ∙ ap (λ n. n + 1) c.loop-path.invariant.count;
      files = c.in_ok-add_named.ensures.files ∙ c.loop-path.invariant.files;
      loaded =
          subst (λ (items : List (Format × Option (List ℕ))). AllZip (IsLoaded c.args.asked known) (map string_bytes (take (at + 1) paths)) items) (sym added.1)
          (loaded_more c.args.asked string_bytes known paths at path c.loop-path.inputs.items source (omega arith) is c.loop-path.invariant.loaded here);
    }

pub returns-clause-loaded : goal.returns-clause-loaded
returns-clause-loaded g c =
    let some : 0 < length c.args.paths.now = omega (arith, eqb-false (length c.args.paths.now) 0 (sym c.if-is_empty.ensures)) in
    loaded_whole c.args.asked string_bytes (g.F.Files.known_input c.args.files.now) (g.F.Files.known_file c.args.files.now) c.args.paths.now c.loop-path.path-index c.loop-path.inputs.items some (omega arith) c.loop-path.invariant.loaded

pub returns-clause-few : goal.returns-clause-few
returns-clause-few g c = omega (arith, c.loop-path.invariant.count)

pub returns-clause-count : goal.returns-clause-count
returns-clause-count g c = λ two. omega (arith, two, c.loop-path.invariant.count)
