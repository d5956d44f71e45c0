use Rattle.std.proofs.Common.{◌∙◌, ◌∷◌, ◌++◌, ℕ, List, false, None, drop, get_or, length, sym, take}
use Rattle.std.proofs.lemmas.Result.{IfOk-weaker}
use Rattle.function_sums.specs.Calls.{calls_of}
use Rattle.function_sums.specs.FunctionSums.{sums_of}
use Rattle.function_sums.specs.declared.sums.FunctionSum.{FunctionSum}
use Rattle.function_sums.specs.Columns.{lines_text}
use Rattle.function_sums.specs.FunctionTable.{function_lines, headings, listed_table}
use Rattle.function_sums.specs.Told.{shown_of, told_of, whole_heading}
use Rattle.function_sums.proofs.text_tables.Table.of_calls.Goals as goal

pub returns-in-Some-clause-text : goal.returns-in-Some-clause-text
unfolding listed_table
returns-in-Some-clause-text c function calls is =
    let told = told_of c.args.telling.now in
    let is_exact = c.args.is_exact in
    let rows = c.args.rows in
    let one = c.in-Some.function.now in
    let others = c.in-Some.calls.now in
    let same = sym c.in-Some.ensures.cases.0 ∙ is in
    let text = λ (word name : List ℕ) (shown : List FunctionSum). shown_of (length shown) (length others) word name
    ++ (whole_heading is_exact told one.total ++ lines_text (headings false told.whole ∷ function_lines is_exact told one.total None (one ∷ shown))) in
    IfOk-weaker c.of_listed.result _ _ (λ table made. made
    ∙ (λ i. text (c.calls_word.ensures i) (c.get.ensures i) (c.first_sums-first.ensures.first i))
    ∙ (λ i. listed_table is_exact told c.args.side (length (drop 1 (same i))) (get_or (same i) 0 one) (take rows (drop 1 (same i))))) c.of_listed.ensures.text

pub returns-in-Some-clause-calls : goal.returns-in-Some-clause-calls
returns-in-Some-clause-calls c name samples is = returns-in-Some-clause-text c (sums_of samples name) (calls_of c.args.side name samples) is
