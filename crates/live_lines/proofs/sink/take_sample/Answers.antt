use Rattle.std.proofs.Common.{◌≡◌, ◌∙◌, ◌++◌, ◌∷◌, [], List, ℕ, ap, get_or, length, rules, subst, sym}
use Rattle.std.specs.Prelude.{Some}
use Rattle.sample_tables.specs.Rows.{named, row_by}
use Rattle.sample_tables.specs.declared.samples.Sample.{Sample}
use Rattle.merging.specs.checked.Merging.{is_due}
use Rattle.live_lines.specs.Lines.{live_lines, moment_at}
use Rattle.live_lines.specs.checked.Writes.{AreWritten}
use Rattle.std.proofs.lemmas.List.{length_push}
use Rattle.live_lines.proofs.LineLemmas.{due_before, lines_more}
use Rattle.live_lines.proofs.SettingLemmas.{same_form}
use Rattle.live_lines.proofs.WriteLemmas.{written_idle, written_line}
use Rattle.live_lines.proofs.sink.take_sample.Goals as goal

pub returns-then-is_due-clause-written : goal.returns-then-is_due-clause-written
returns-then-is_due-clause-written g c =
    let old = c.args.lines.now in
    let m = old.merge in
    let t = c.take_row.new.self in
    let n = c.send_due.new.lines in
    let known = g.W.Outlet.contents in
    let failures = g.W.Outlet.failures in
    let sample : Sample = named c.args.ledger.now.told (row_by c.args.ledger.now.stacks (record { stack = c.args.row; weight = c.args.weight })) in
    let taken : c.take_row.new.self.taken ≡ c.args.lines.now.merge.taken ++ (c.args.source, sample) ∷ [] = search rules in
    let formed = same_form t.form m.form (ap (λ (xs : List ℕ). get_or xs 0 0) c.take_row.ensures.setting) in
    let of = ap (λ (xs : List ℕ). get_or xs 1 0) c.take_row.ensures.setting in
    let longer = lines_more m.form t.form m.sources old.width old.every t.sources m.taken t.taken (c.args.source, sample) c.requires.positive formed of taken in
    let same : live_lines c.send_due.new.lines.merge.form c.send_due.new.lines.merge.sources c.send_due.new.lines.width c.send_due.new.lines.every c.send_due.new.lines.merge.taken
    ≡ live_lines c.take_row.new.self.form c.take_row.new.self.sources c.args.lines.now.width c.args.lines.now.every c.take_row.new.self.taken =
    λ i. live_lines (c.send_due.ensures.merge i).form (c.send_due.ensures.merge i).sources (c.send_due.ensures.width i) (c.send_due.ensures.every i) (c.send_due.ensures.merge i).taken in
    let made = written_line (live_lines m.form m.sources old.width old.every m.taken) (moment_at t.form t.sources old.width t.taken (length t.taken)) (live_lines n.merge.form n.merge.sources n.width n.every n.merge.taken)
    (is_due (Some old.every) (length t.taken)) old.failure n.failure (known old.start.value) (known c.args.out.now) (known c.send_due.new.out) (failures old.start.value) (failures c.args.out.now) (failures c.send_due.new.out)
    (sym c.is_due.ensures ∙ c.if-is_due.true) (same ∙ longer) c.requires.written c.send_due.ensures.whole c.send_due.ensures.front c.send_due.ensures.counted in
    subst (λ (start : g.row.W.Denot). AreWritten (live_lines n.merge.form n.merge.sources n.width n.every n.merge.taken) n.failure (known start) (known c.send_due.new.out) (failures start) (failures c.send_due.new.out)) (sym c.send_due.ensures.start) made

pub returns-else-is_due-clause-written : goal.returns-else-is_due-clause-written
returns-else-is_due-clause-written g c =
    let old = c.args.lines.now in
    let m = old.merge in
    let t = c.take_row.new.self in
    let known = g.W.Outlet.contents in
    let failures = g.W.Outlet.failures in
    let sample : Sample = named c.args.ledger.now.told (row_by c.args.ledger.now.stacks (record { stack = c.args.row; weight = c.args.weight })) in
    let taken : c.take_row.new.self.taken ≡ c.args.lines.now.merge.taken ++ (c.args.source, sample) ∷ [] = search rules in
    let formed = same_form t.form m.form (ap (λ (xs : List ℕ). get_or xs 0 0) c.take_row.ensures.setting) in
    let of = ap (λ (xs : List ℕ). get_or xs 1 0) c.take_row.ensures.setting in
    let longer = lines_more m.form t.form m.sources old.width old.every t.sources m.taken t.taken (c.args.source, sample) c.requires.positive formed of taken in
    written_idle (live_lines m.form m.sources old.width old.every m.taken) (moment_at t.form t.sources old.width t.taken (length t.taken)) (live_lines t.form t.sources old.width old.every t.taken)
    (is_due (Some old.every) (length t.taken)) old.failure (known old.start.value) (known c.args.out.now) (failures old.start.value) (failures c.args.out.now)
    (sym c.is_due.ensures ∙ c.if-is_due.false) longer c.requires.written

pub returns-then-is_due-clause-flushed : goal.returns-then-is_due-clause-flushed
returns-then-is_due-clause-flushed g c none some = ∣ c.send_due.ensures.flushed none ∣₁

pub returns-else-is_due-clause-flushed : goal.returns-else-is_due-clause-flushed
returns-else-is_due-clause-flushed g c none some =
    let old = c.args.lines.now in
    let sample : Sample = named c.args.ledger.now.told (row_by c.args.ledger.now.stacks (record { stack = c.args.row; weight = c.args.weight })) in
    let taken : c.take_row.new.self.taken ≡ c.args.lines.now.merge.taken ++ (c.args.source, sample) ∷ [] = search rules in
    c.requires.flushed none
    (due_before old.every (length old.merge.taken) (length c.take_row.new.self.taken) old.failure (ap length taken ∙ length_push old.merge.taken (c.args.source, sample)) none
    (sym c.is_due.ensures ∙ c.if-is_due.false) some)
