use Rattle.std.proofs.Common.{rules, ◌≡◌, ◌+◌, ◌<◌, ◌++◌, ◌∷◌, ◌∙◌, [], All, Err, ap, arith, false, get_or, length, map, string_bytes, subst, sym, take}
use Rattle.std.proofs.lemmas.Bool.{eqb-false}
use Rattle.std.proofs.lemmas.List.{length_push}
use Rattle.std.proofs.lemmas.List.Elements.{All-push}
use Rattle.std.specs.Prelude.{IsNone}
use Rattle.std.specs.List.{AllZip}
use Rattle.source_views.specs.Failures.{IsOfLoad}
use Rattle.source_views.specs.declared.failures.Failure.TheVariants.{Unreadable}
use Rattle.stack_core.specs.RowReading.{GivesSome}
use Rattle.flame_tool.specs.checked.LiveStreams.{IsOfFile}
use Rattle.flame_tool.proofs.LiveSinks.{err_because}
use Rattle.flame_tool.proofs.LiveStreamLemmas.{missing_file, not_true, opened_more, opened_whole, present_more, some_streams}
use Rattle.flame_tool.proofs.live_streams.open_streams.Goals as goal

pub loop-path-preserved : goal.loop-path-preserved
loop-path-preserved g c =
    let so_far = c.loop-path.invariant in
    let known = g.S.Streams.known_file c.args.streams.now in
    let absent = g.S.Streams.is_absent c.args.streams.now in
    let paths = c.args.paths.now in
    let at = c.loop-path.path-index in
    let path = c.path-item.result in
    let reader = c.in_ok-reader.reader in
    let readers = c.loop-path.readers.items in
    let added : c.add_reader-in-loop-path.new.readers.items ≡ readers ++ reader ∷ [] = c.in_ok-add_reader-2.ensures in
    let is : path ≡ get_or paths at path = search rules in
    let bytes : c.deref.result.now ≡ string_bytes path = search rules in
    let here : IsOfFile c.args.is_strict (λ reader. g.R.RowReader.gives reader) known (string_bytes path) reader =
    subst (λ files. IsOfFile c.args.is_strict (λ reader. g.R.RowReader.gives reader) files (string_bytes path) reader) so_far.files
    (subst (λ bytes. IsOfFile c.args.is_strict (λ reader. g.R.RowReader.gives reader) (g.S.Streams.known_file c.loop-path.streams) bytes reader) bytes c.in_ok-reader.ensures.opened) in
    let present : absent (string_bytes path) ≡ false =
    subst (λ absences. absences (string_bytes path) ≡ false) so_far.absences
    (subst (λ bytes. g.S.Streams.is_absent c.loop-path.streams bytes ≡ false) bytes (not_true _ c.in_ok-reader.ensures.absent)) in
    record {
      count = ap length added ∙ length_push readers reader ∙ ap (λ n. n + 1) so_far.count;
      files = c.in_ok-reader.ensures.files ∙ so_far.files;
      absences = c.in_ok-reader.ensures.absences ∙ so_far.absences;
      nothing_told = subst (All (λ reader. g.R.RowReader.told reader ≡ record { names = []; stacks = [] })) (sym added)
          (All-push (λ reader. g.R.RowReader.told reader ≡ record { names = []; stacks = [] }) readers reader so_far.nothing_told c.in_ok-reader.ensures.nothing_told);
      possible = subst (All (λ reader. GivesSome (g.R.RowReader.gives reader))) (sym added)
          (All-push (λ reader. GivesSome (g.R.RowReader.gives reader)) readers reader so_far.possible c.in_ok-reader.ensures.possible);
      opened = subst (AllZip (IsOfFile c.args.is_strict (λ reader. g.R.RowReader.gives reader) known) (map string_bytes (take (at + 1) paths))) (sym added)
          (opened_more c.args.is_strict (λ reader. g.R.RowReader.gives reader) string_bytes known paths at path readers reader (omega arith) is so_far.opened here);
      present = present_more absent string_bytes paths at path (omega arith) is so_far.present present;
    }

pub returns-in_err-reader-clause-missing : goal.returns-in_err-reader-clause-missing
returns-in_err-reader-clause-missing g c =
    let so_far = c.loop-path.invariant in
    let known = g.S.Streams.known_file c.args.streams.now in
    let paths = c.args.paths.now in
    let at = c.loop-path.path-index in
    let path = c.path-item.result in
    let failure = c.in_err-reader.field-0.0 in
    let is : path ≡ get_or paths at path = search rules in
    let bytes : c.deref.result.now ≡ string_bytes path = search rules in
    let many : c.len.result ≡ length c.loop-path.readers.items = search rules in
    let place : c.len.result ≡ at = many ∙ so_far.count in
    err_because c.from_residual-in_err-reader.result failure _ c.from_residual-in_err-reader.ensures.1
    (missing_file (g.S.Streams.is_absent c.args.streams.now) known string_bytes paths at path failure (omega arith) is so_far.present (subst (λ place. IsOfLoad place failure) place c.in_err-reader.ensures.err)
    (λ unread. subst (λ bytes. IsNone (known bytes)) bytes (subst (λ files. IsNone (files c.deref.result.now)) so_far.files (c.in_err-reader.ensures.unknown (ap (λ failure. Err failure) (unread ∙ ap (λ place. Unreadable place) (sym place)))))))

pub returns-clause-opened : goal.returns-clause-opened
returns-clause-opened g c =
    let some : 0 < length c.args.paths.now = omega (arith, eqb-false (length c.args.paths.now) 0 (sym c.if-is_empty.ensures)) in
    opened_whole c.args.is_strict (λ reader. g.R.RowReader.gives reader) string_bytes (g.S.Streams.known_input c.args.streams.now) (g.S.Streams.known_file c.args.streams.now) c.args.paths.now c.loop-path.path-index c.loop-path.readers.items some (omega arith) c.loop-path.invariant.opened

pub returns-clause-few : goal.returns-clause-few
returns-clause-few g c = omega (arith, c.loop-path.invariant.count)

pub returns-clause-count : goal.returns-clause-count
returns-clause-count g c =
    let some : 0 < length c.args.paths.now = omega (arith, eqb-false (length c.args.paths.now) 0 (sym c.if-is_empty.ensures)) in
    let count = c.loop-path.invariant.count in
    sym (some_streams string_bytes c.args.paths.now some ∙ omega arith)
