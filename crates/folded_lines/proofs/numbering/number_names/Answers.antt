use Rattle.std.proofs.Common.{◌≡◌, ◌<◌, ◌++◌, [], List, ℕ, OnOk, Some, None, length, append-nil, sym, ap, subst, ◌∙◌}
use Rattle.std.specs.List.{slice_split}
use Rattle.std.proofs.lemmas.Bool.{eqb-true}
use Rattle.stack_core.specs.Records.{names_at}
use Rattle.folded_lines.specs.Lines.{is_semicolon, names_of}
use Rattle.folded_lines.specs.checked.Sharing.{BeginsIn}
use Rattle.folded_lines.specs.checked.Telling.{IsNumbered}
use Rattle.folded_lines.proofs.OnePassLemmas.{slice_split-lossy_text}
use Rattle.folded_lines.proofs.RowLemmas.{IsNumbered-nothing}
use Rattle.folded_lines.proofs.SharedFronts.{above_none, names_of-begun, IsNumbered-known}
use Rattle.folded_lines.proofs.SplitLemmas.{names_of-nothing}
use Rattle.folded_lines.proofs.numbering.number_names.Goals as goal

pub returns-then-is_empty-clause-ok : goal.returns-then-is_empty-clause-ok
returns-then-is_empty-clause-ok c =
    let left = c.without_trailing_semicolons-head.result.now in
    let none = names_of-nothing c.args.head.now left c.without_trailing_semicolons-head.ensures (eqb-true (length left) 0 (sym c.if-is_empty.ensures)) in
    let table = c.args.table.now in
    subst (λ (frames : List ℕ). IsNumbered (names_of c.args.head.now) table table frames) (sym c.clear.ensures.items)
    (subst (λ (stack : List (List ℕ)). IsNumbered stack table table []) (sym none) (IsNumbered-nothing table))

pub returns-in_default-clause-ok : goal.returns-in_default-clause-ok
returns-in_default-clause-ok c =
    let left = c.without_trailing_semicolons-head.result.now in
    let table = c.args.table.now in
    let frames = c.begin_alike.new.frames.items in
    let some : 0 < length left = above_none (length left) (sym c.if-is_empty.ensures) in
    let begins : BeginsIn table left frames None = subst (BeginsIn table left frames) c.in_default.is (c.in_ok-rest.ensures table c.requires) in
    let all : names_at table frames ≡ names_of c.args.head.now =
    sym (append-nil (names_at table frames)) ∙ names_of-begun table c.args.head.now left frames None c.without_trailing_semicolons-head.ensures some begins in
    subst (λ (stack : List (List ℕ)). IsNumbered stack table table frames) all (IsNumbered-known table frames begins.known)

pub number_parts-requires : goal.number_parts-requires
number_parts-requires c = (c.in_ok-rest.ensures c.args.table.now c.requires).known

pub returns-clause-ok : goal.returns-clause-ok
returns-clause-ok c =
    let left = c.without_trailing_semicolons-head.result.now in
    let table = c.args.table.now in
    let frames = c.begin_alike.new.frames.items in
    let rest = c.in-Some.rest in
    let some : 0 < length left = above_none (length left) (sym c.if-is_empty.ensures) in
    let begins : BeginsIn table left frames (Some rest) = subst (BeginsIn table left frames) c.in-Some.is (c.in_ok-rest.ensures table c.requires) in
    let cut = ap (slice_split is_semicolon) (c.as_str.ensures.value ∙ c.in_ok-text.ensures.text) ∙ slice_split-lossy_text rest.now in
    let all : names_at table frames ++ slice_split is_semicolon c.as_str.result.now ≡ names_of c.args.head.now =
    ap (λ names. names_at table frames ++ names) cut ∙ names_of-begun table c.args.head.now left frames (Some rest) c.without_trailing_semicolons-head.ensures some begins in
    subst (λ (stack : List (List ℕ)). OnOk c.number_parts.result (IsNumbered stack table c.number_parts.new.table c.number_parts.new.frames.items)) all
    c.number_parts.ensures.ok
