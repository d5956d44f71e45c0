use Rattle.std.proofs.Common.{◌≡◌, ◌∙◌, ap, inl, inr, length, map, string_bytes, subst, sym, Some, []}
use Rattle.command_line.specs.Plans.{IsFaultAmong, default_plan}
use Rattle.flame_tool.specs.Requests.{asked_faults, asked_plan}
use Rattle.flame_tool.proofs.RunEndings.{default_is, input_clean, input_fault, input_front, input_text, one_input, words_have}
use Rattle.flame_tool.proofs.program.run.Goals as goal

-- words that have a plan
pub returns-in-Ok : goal.returns-in-Ok
returns-in-Ok g c =
    let plan = c.in-Ok.plan in
    let words = map string_bytes c.args.words.items in
    let asked : asked_plan words ≡ Some plan = ap (λ words. asked_plan (map string_bytes words)) (sym c.as_slice.ensures.value) ∙ c.in-Ok.ensures.plan in
    let faultless : asked_faults words ≡ [] = ap (λ words. asked_faults (map string_bytes words)) (sym c.as_slice.ensures.value) ∙ c.in-Ok.ensures.taken in
    let input = g.F.Files.known_input c.args.files.now in
    let files = g.F.Files.known_file c.args.files.now in
    let is_default : length words ≡ 0 → plan ≡ default_plan = λ none. default_is words plan none asked in
    let ran = c.run_plan.ensures in record {
      ended = inr (faultless, words_have words plan _ asked ran);
      no_words = λ none two. one_input plan (is_default none) (ran.many two);
      clean = λ none zero. input_clean input files _ _ plan (is_default none) (ran.shown (inl zero));
      text = λ none zero. input_text input files _ _ plan (is_default none) (ran.shown (inl zero));
      fault = λ none one. input_fault input files input input plan (is_default none) (ran.faulty one);
      front = λ none three. input_front input files _ _ plan (is_default none) (ran.partly three);
    }

-- words that are refused
pub returns : goal.returns
returns g c =
    let words = map string_bytes c.args.words.items in
    let is_words : map string_bytes c.as_slice.result.now ≡ words = ap (map string_bytes) c.as_slice.ensures.value in
    let some : length words ≡ 0 → ⊥ = subst (λ words. length words ≡ 0 → ⊥) is_words c.in-Err.ensures.worded in
    let among : IsFaultAmong (asked_faults words) c.in-Err.fault = subst (λ words. IsFaultAmong (asked_faults words) c.in-Err.fault) is_words c.in-Err.ensures.refused in record {
      ended = inl (c.in-Err.fault, among, c.refuse.ensures);
      no_words = λ none. absurd (some none);
      clean = λ none. absurd (some none);
      text = λ none. absurd (some none);
      fault = λ none. absurd (some none);
      front = λ none. absurd (some none);
    }
