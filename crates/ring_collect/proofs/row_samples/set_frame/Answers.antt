use Rattle.std.proofs.Common.{rules, ◌≡◌, ◌∙◌, ◌+◌, ◌++◌, ◌∷◌, [], List, ℕ, ap, sym, subst, arith, length, map, take, string_bytes}
use Rattle.std.proofs.Math.Seq.{take-append-add, take-length}
use Rattle.std.proofs.lemmas.List.{length-map, map_push, map-set, take_more_set}
use Rattle.std.proofs.lemmas.Result.{IfOk-from_err}
use Rattle.ring_collect.proofs.row_samples.set_frame.Goals as goal

pub returns-clause-set : goal.returns-clause-set
returns-clause-set c =
    let names = c.args.names.now.items in
    let at = c.args.at in
    let name = c.in_ok-set_name.ensures ∙ c.told_name-told.ensures in
    ap (take (at + 1)) (map-set string_bytes names at c.set_name.new.name)
    ∙ take_more_set (map string_bytes names) at (string_bytes c.set_name.new.name) (let within = c.requires.within in let last = c.if-at-len.false in let count = c.len.ensures in let same = length-map names string_bytes in omega arith)
    ∙ ap (λ name. take at (map string_bytes names) ++ name ∷ []) name

-- the beginnings of a list with one item more
take_pushed : {A : Type 0} (items : List A) (item : A) (n : ℕ) → n ≡ length items → take (n + 1) (items ++ item ∷ []) ≡ take n items ++ item ∷ []
take_pushed items item n is = subst (λ n. take (n + 1) (items ++ item ∷ []) ≡ take n items ++ item ∷ []) (sym is) (take-append-add items (item ∷ []) 1 ∙ ap (λ before. before ++ item ∷ []) (sym (take-length items)))

pub returns-then-at-len-clause-set : goal.returns-then-at-len-clause-set
returns-then-at-len-clause-set c =
    let names = c.args.names.now.items in
    let at = c.args.at in
    let name = c.in_ok-from_str.field-0 in
    ap (λ items. take (at + 1) (map string_bytes items)) c.in_ok-push.ensures.items
    ∙ ap (take (at + 1)) (map_push string_bytes names name)
    ∙ take_pushed (map string_bytes names) (string_bytes name) at (let last = c.if-at-len.true in let count = c.len.ensures in let same = length-map names string_bytes in omega arith)
    ∙ ap (λ bytes. take at (map string_bytes names) ++ bytes ∷ []) (c.in_ok-from_str.ensures.ok ∙ c.told_name-told.ensures)

pub returns-in_err-from_str : goal.returns-in_err-from_str
returns-in_err-from_str c = search (rules, IfOk-from_err)

pub returns-in_err-push : goal.returns-in_err-push
returns-in_err-push c = search (rules, IfOk-from_err)

pub returns-in_err-set_name : goal.returns-in_err-set_name
returns-in_err-set_name c = search (rules, IfOk-from_err)
