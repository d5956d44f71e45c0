use Rattle.std.proofs.Common.{◌≡◌, ◌∙◌, ◌++◌, ◌+◌, ◌∷◌, [], ℕ, List, Bor, codes, map, take, take_all, ap, sym, subst, arith, append_assoc}
use Rattle.std.proofs.KnownBytes.{Appends-trans}
use Rattle.std.specs.List.{concat}
use Rattle.std.specs.Io.KnownBytes.{Appends}
use Rattle.source_views.proofs.MessageTexts.{on_ok, parts_more}
use Rattle.source_views.proofs.messages.send_line.Goals as goal

pub loop-part-preserved : goal.loop-part-preserved
loop-part-preserved g c =
    let parts = c.args.parts.now in
    let at = c.loop-part.part-index in
    let none : Bor (List ℕ) = record { ref_ptr = (0, 0); now = [] } in
    let said : Bor (List ℕ) → List ℕ = λ part. part.now in
    let front = codes "flamecollect: " in
    let before = concat (map said (take at parts)) in
    let more : (front ++ before) ++ c.as_bytes.result.now ≡ front ++ concat (map said (take (at + 1) parts)) =
    append_assoc front before c.as_bytes.result.now
    ∙ ap (λ more. front ++ more) (ap (λ last. before ++ last) c.as_bytes.ensures.value ∙ sym (parts_more said parts at none (omega arith))) in
    record {
      sent = subst (Appends (g.E.Outlet.contents c.args.err.now) (g.E.Outlet.contents c.send-in-loop-part.new.out)) more
          (Appends-trans _ _ _ _ _ c.loop-part.invariant.sent c.in_ok-send-2.ensures.ok);
      counted = c.in_ok-send-2.ensures.count ∙ c.loop-part.invariant.counted;
    }

pub returns-clause-ok : goal.returns-clause-ok
returns-clause-ok g c =
    let parts = c.args.parts.now in
    let at = c.loop-part.part-index in
    let said : Bor (List ℕ) → List ℕ = λ part. part.now in
    let front = codes "flamecollect: " in
    let whole : (front ++ concat (map said (take at parts))) ++ 10 ∷ [] ≡ front ++ (concat (map said parts) ++ 10 ∷ []) =
    append_assoc front (concat (map said (take at parts))) (10 ∷ [])
    ∙ ap (λ taken. front ++ (concat (map said taken) ++ 10 ∷ [])) (take_all at parts (omega arith)) in
    on_ok c.send-2.result
    (λ ended. subst (Appends (g.E.Outlet.contents c.args.err.now) (g.E.Outlet.contents c.send-2.new.out)) whole
    (Appends-trans _ _ _ _ _ c.loop-part.invariant.sent ended)) c.send-2.ensures.ok
