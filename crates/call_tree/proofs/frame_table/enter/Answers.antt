use Rattle.std.proofs.Common.{rules, ◌≡◌, false, inl, inr, sym, ◌∙◌, Some}
use Rattle.std.specs.BTreeMap.{get_by_text}
use Rattle.std.specs.Str.{bytes_eq}
use Rattle.std.specs.String.{string_bytes}
use Rattle.std.proofs.lemmas.Bool.{false_from_ne_true}
use Rattle.std.proofs.lemmas.Map.{update_other}
use Rattle.std.proofs.lemmas.Map.Text.{btree_map_updates_text}
use Rattle.std.proofs.lemmas.Slice.Eq.{bytes_eq-Decides}
use Rattle.call_tree.proofs.frame_table.enter.Goals as goal

pub returns-in_ok-insert-clause-found : goal.returns-in_ok-insert-clause-found
returns-in_ok-insert-clause-found c =
    let kept : get_by_text c.insert.new.self c.args.name.now ≡ Some c.args.number = search rules in
    inr kept

pub returns-in_ok-insert-clause-keeps : goal.returns-in_ok-insert-clause-keeps
returns-in_ok-insert-clause-keeps c = λ other n apart found.
    let bytes = string_bytes c.in_ok-owned.owned in
    let unlike : bytes_eq bytes other ≡ false =
    false_from_ne_true _ (λ same. apart (sym ((bytes_eq-Decides bytes other).0 same) ∙ c.in_ok-owned.ensures.ok)) in
    let stays : get_by_text c.insert.new.self other ≡ get_by_text c.args.crowded.now other =
    btree_map_updates_text bytes c.args.crowded.now c.insert.new.self (Some c.args.number) c.in_ok-insert.ensures.updates other
    ∙ update_other bytes_eq (get_by_text c.args.crowded.now) bytes (Some c.args.number) other unlike in
    elim found [ inl e ↦ inl (c.enter.ensures.keeps _ n e) | inr e ↦ inr (stays ∙ e) ]
