use Rattle.std.proofs.Common.{◌≡◌, ◌<◌, ℕ, List, Some, IfSome, IfErr, OnOk, arith, length, subst, rules, map, get_or, string_bytes}
use Rattle.std.specs.Prelude.{option_and_then, slice_get}
use Rattle.std.proofs.lemmas.Option.{IfSome_then, same_Some}
use Rattle.flame_tool.specs.TypeRuns.{ShowsTypes}
use Rattle.flame_tool.specs.checked.TypeFailures.{FailsTypes}
use Rattle.flame_tool.proofs.LiveSaid.{as_many_paths}
use Rattle.flame_tool.proofs.TypeEndings.{first_path, known_err, known_ok}
use Rattle.flame_tool.proofs.types_run.show_types.Goals as goal

pub returns : goal.returns
returns g c =
    let known = g.F.Files.known_file c.args.files.now in
    let old = g.W.Outlet.contents c.args.out.now in
    let new = g.W.Outlet.contents c.show_types_of.new.out in
    let paths = c.get-paths.result.now in
    let path = c.index-paths-0.result in
    let read = c.in_ok-source.source.bytes.items in
    let result = c.show_types_of.result in
    let ran = c.show_types_of.ensures in
    let some : 0 < length paths = omega (arith, as_many_paths string_bytes paths c.args.plan.now.files c.get-paths.ensures, c.requires.one) in
    let is : path ≡ get_or paths 0 path = search rules in
    let named : c.deref.result.now ≡ string_bytes path = search rules in
    let here = IfSome_then (known (string_bytes path)) (subst (λ (name : List ℕ). IfSome (known name) (λ bytes. Some read ≡ Some bytes)) named c.in_ok-source.ensures.opened.1) (same_Some read) in
    let first = first_path string_bytes paths path some is in
    let shown = subst (λ (profile : List ℕ). OnOk result (ShowsTypes old new profile)) c.deref-2.ensures.value ran.done in
    let failed = subst (λ (profile : List ℕ). IfErr result (λ failure. FailsTypes old new failure profile)) c.deref-2.ensures.value ran.failed in record {
      done = subst (λ (files : List (List ℕ)). OnOk result (IfSome (option_and_then known (slice_get files 0)) (ShowsTypes old new))) c.get-paths.ensures
          (known_ok (ShowsTypes old new) known (map string_bytes paths) (string_bytes path) read result first here shown);
      failed = subst (λ (files : List (List ℕ)). IfErr result (λ failure. IfSome (option_and_then known (slice_get files 0)) (FailsTypes old new failure))) c.get-paths.ensures
          (known_err (FailsTypes old new) known (map string_bytes paths) (string_bytes path) read result first here failed);
      kept = search rules;
      none = search rules;
      says = search rules;
      few = search rules;
      flushed = search rules;
    }
