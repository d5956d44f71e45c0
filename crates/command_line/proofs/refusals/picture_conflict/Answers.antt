use Rattle.std.proofs.Common.{◌≡◌, ◌∙◌, codes, false, rules, sym, true}
use Rattle.command_line.specs.checked.Entries.{entries_of}
use Rattle.command_line.proofs.ReadEntries.{by_least, flag_given, no_picture, used_given, with_every, with_page}
use Rattle.command_line.proofs.refusals.picture_conflict.Goals as goal

pub returns-then-not-get_flag : goal.returns-then-not-get_flag
returns-then-not-get_flag c =
    let svg = flag_given c.args.entries.now (codes "svg") c.get_flag.result c.requires.svg c.get_flag.ensures.none c.get_flag.ensures.value c.get_flag.ensures.other in
    let unset : c.get_flag.result ≡ false = search rules in
    sym (no_picture (entries_of c.args.entries.now) (sym svg ∙ unset))

pub returns-then-get_flag : goal.returns-then-get_flag
returns-then-get_flag c =
    let svg = flag_given c.args.entries.now (codes "svg") c.get_flag.result c.requires.svg c.get_flag.ensures.none c.get_flag.ensures.value c.get_flag.ensures.other in
    let set : c.get_flag.result ≡ true = search rules in
    let page = flag_given c.args.entries.now (codes "page") c.get_flag-else-not-get_flag.result c.requires.page c.get_flag-else-not-get_flag.ensures.none c.get_flag-else-not-get_flag.ensures.value c.get_flag-else-not-get_flag.ensures.other in
    sym (with_page (entries_of c.args.entries.now) (sym svg ∙ set) (sym page ∙ c.if-get_flag.true))

pub returns-then-contains_id : goal.returns-then-contains_id
returns-then-contains_id c =
    let svg = flag_given c.args.entries.now (codes "svg") c.get_flag.result c.requires.svg c.get_flag.ensures.none c.get_flag.ensures.value c.get_flag.ensures.other in
    let set : c.get_flag.result ≡ true = search rules in
    let page = flag_given c.args.entries.now (codes "page") c.get_flag-else-not-get_flag.result c.requires.page c.get_flag-else-not-get_flag.ensures.none c.get_flag-else-not-get_flag.ensures.value c.get_flag-else-not-get_flag.ensures.other in
    let every = used_given c.args.entries.now (codes "every") c.contains_id.result c.contains_id.ensures in
    sym (with_every (entries_of c.args.entries.now) (sym svg ∙ set) (sym page ∙ c.if-get_flag.false) (sym every ∙ c.if-contains_id.true))

pub returns-then-contains_id-2 : goal.returns-then-contains_id-2
returns-then-contains_id-2 c =
    let svg = flag_given c.args.entries.now (codes "svg") c.get_flag.result c.requires.svg c.get_flag.ensures.none c.get_flag.ensures.value c.get_flag.ensures.other in
    let set : c.get_flag.result ≡ true = search rules in
    let page = flag_given c.args.entries.now (codes "page") c.get_flag-else-not-get_flag.result c.requires.page c.get_flag-else-not-get_flag.ensures.none c.get_flag-else-not-get_flag.ensures.value c.get_flag-else-not-get_flag.ensures.other in
    let every = used_given c.args.entries.now (codes "every") c.contains_id.result c.contains_id.ensures in
    let least = used_given c.args.entries.now (codes "least") c.contains_id-else-contains_id.result c.contains_id-else-contains_id.ensures in
    sym (by_least (entries_of c.args.entries.now) (sym svg ∙ set) (sym page ∙ c.if-get_flag.false) (sym every ∙ c.if-contains_id.false) ∙ sym least ∙ c.if-contains_id-2.true)

pub returns-else-contains_id-2 : goal.returns-else-contains_id-2
returns-else-contains_id-2 c =
    let svg = flag_given c.args.entries.now (codes "svg") c.get_flag.result c.requires.svg c.get_flag.ensures.none c.get_flag.ensures.value c.get_flag.ensures.other in
    let set : c.get_flag.result ≡ true = search rules in
    let page = flag_given c.args.entries.now (codes "page") c.get_flag-else-not-get_flag.result c.requires.page c.get_flag-else-not-get_flag.ensures.none c.get_flag-else-not-get_flag.ensures.value c.get_flag-else-not-get_flag.ensures.other in
    let every = used_given c.args.entries.now (codes "every") c.contains_id.result c.contains_id.ensures in
    let least = used_given c.args.entries.now (codes "least") c.contains_id-else-contains_id.result c.contains_id-else-contains_id.ensures in
    sym (by_least (entries_of c.args.entries.now) (sym svg ∙ set) (sym page ∙ c.if-get_flag.false) (sym every ∙ c.if-contains_id.false) ∙ sym least ∙ c.if-contains_id-2.false)
