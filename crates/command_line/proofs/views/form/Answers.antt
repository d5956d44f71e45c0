use Rattle.std.proofs.Common.{◌∙◌, ap, codes, sym}
use Rattle.std.proofs.lemmas.Result.{IfOk-weaker}
use Rattle.command_line.specs.checked.Entries.{entries_of}
use Rattle.command_line.specs.declared.plans.Form.TheVariants as form
use Rattle.command_line.proofs.ReadEntries.{flag_given, paged, pictured, written}
use Rattle.command_line.proofs.views.form.Goals as goal

pub returns-in_ok-page : goal.returns-in_ok-page
returns-in_ok-page c =
    let page = flag_given c.args.entries.now (codes "page") c.get_flag.result c.requires.page c.get_flag.ensures.none c.get_flag.ensures.value c.get_flag.ensures.other in
    ap (λ p. form.Page p) c.in_ok-page.ensures ∙ sym (paged c.args.name.now (entries_of c.args.entries.now) (sym page ∙ c.if-get_flag.true))

pub returns-in_ok-picture : goal.returns-in_ok-picture
returns-in_ok-picture c =
    let page = flag_given c.args.entries.now (codes "page") c.get_flag.result c.requires.page c.get_flag.ensures.none c.get_flag.ensures.value c.get_flag.ensures.other in
    let svg = flag_given c.args.entries.now (codes "svg") c.get_flag-else-get_flag.result c.requires.svg c.get_flag-else-get_flag.ensures.none c.get_flag-else-get_flag.ensures.value c.get_flag-else-get_flag.ensures.other in
    ap (λ p. form.Picture p) c.in_ok-picture.ensures ∙ sym (pictured c.args.name.now (entries_of c.args.entries.now) (sym page ∙ c.if-get_flag.false) (sym svg ∙ c.if-get_flag-2.true))

pub returns-else-get_flag-2 : goal.returns-else-get_flag-2
returns-else-get_flag-2 c =
    let page = flag_given c.args.entries.now (codes "page") c.get_flag.result c.requires.page c.get_flag.ensures.none c.get_flag.ensures.value c.get_flag.ensures.other in
    let svg = flag_given c.args.entries.now (codes "svg") c.get_flag-else-get_flag.result c.requires.svg c.get_flag-else-get_flag.ensures.none c.get_flag-else-get_flag.ensures.value c.get_flag-else-get_flag.ensures.other in
    IfOk-weaker c.text_form.result _ _ (λ form is. is ∙ sym (written c.args.name.now (entries_of c.args.entries.now) (sym page ∙ c.if-get_flag.false) (sym svg ∙ c.if-get_flag-2.false))) c.text_form.ensures
