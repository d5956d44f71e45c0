-- From what a parse ensures to what a plan does.
use Rattle.std.proofs.Common.{◌≡◌, ◌∙◌, ◌≤◌, ◌&&◌, ◌||◌, inl, inr, ℕ, Bool, cond, true, false, true≢false, ne_eqb, arith, refl, sym, ap, subst, List, [], ◌∷◌, length, map, Option, Some, None, is_some, option_map, codes}
use Rattle.std.specs.Prelude.{option_and_then, slice_get, unwrap_or, IfSome, IsSomeAnd}
use Rattle.std.specs.List.{find}
use Rattle.std.specs.Str.{bytes_eq}
use Rattle.std.specs.Str.Parse.{IsNumeral, digits_value, without_leading_plus}
use Rattle.clap.specs.Faults.{fault_of as parsing_fault, is_simple_and_free}
use Rattle.clap.specs.Kinds.{HasKind, IsAmong, Kinds, or_else}
use Rattle.clap.specs.Simple.{App, HasMatchesOf, is_simple, subcommand_of, subcommand_rows_of}
use Rattle.clap.specs.Takes.{takes as parses}
use Rattle.clap.specs.Values.{kind_of}
use Rattle.clap.specs.Walk.{Row, Text, first_of, is_empty, one_of, row_text}
use Rattle.clap.specs.declared.error.Error.{Error}
use Rattle.clap.specs.declared.error.kind.ErrorKind.{ErrorKind}
use Rattle.clap.specs.declared.error.kind.ErrorKind.TheVariants as kind
use Rattle.clap.specs.declared.parser.matches.ArgMatches.{ArgMatches}
use Rattle.command_line.specs.CommandLine.{command_line}
use Rattle.command_line.specs.EarlyValues.{told_kind, told_kinds}
use Rattle.command_line.specs.checked.Entries.{IsFaultOf, IsNumberAt, IsRead, compares}
use Rattle.command_line.specs.Plans.{IsComparison, IsDrawn, IsFaultAmong, IsOfOneProfile, IsOfStreams, IsPage, IsPicture, IsRequest, call_table_of, command_plan, compared_view, diff_table_of, entered_plan, entries_fault, fault_of, form_of, has_conflict, has_its_form, has_its_page, has_picture_conflict, has_two_files, is_set, is_used, knows_format, knows_order, knows_unit, live_every, live_plan, number_at, output_of, own_fault, page_of, pages_of, picture_of, plan_with, svg_plan, table_of, text_form, types_plan, view_of, width_of}
use Rattle.command_line.specs.declared.plans.Form.{Form}
use Rattle.command_line.specs.declared.plans.Form.TheVariants as form
use Rattle.command_line.specs.declared.arguments.TheConstants.{MOST_BETWEEN_SNAPSHOTS}
use Rattle.command_line.specs.declared.plans.Plan.{Plan}
use Rattle.command_line.specs.declared.plans.PlanFault.{PlanFault}
use Rattle.command_line.specs.declared.plans.PlanFault.TheVariants as fault
use Rattle.command_line.specs.declared.plans.View.{View}
use Rattle.command_line.specs.declared.plans.View.TheVariants.{Fold, Graph, Chart, Top, Diff}
use Rattle.command_line.proofs.ReadCommands.{enters, reads}

-- ---- matches

pub no_fault : (a : App) (words : List Text) → a ≡ command_line → (is_simple_and_free a ≡ true → parsing_fault a words ≡ [])
    → parsing_fault command_line words ≡ []
no_fault a words is none = sym (ap (λ b. parsing_fault b words) is) ∙ none (ap is_simple_and_free is)

pub entered_rows : (a : App) (words : List Text) (m : ArgMatches) → a ≡ command_line → HasMatchesOf a words m
    → subcommand_rows_of m ≡ subcommand_of command_line words
entered_rows a words m is matches = (matches (ap is_simple is)).1 ∙ ap (λ b. subcommand_of b words) is

pub entered_reads : (words : List Text) → parsing_fault command_line words ≡ [] → (entered : Option (Text × List Row))
    → entered ≡ subcommand_of command_line words → IsSomeAnd entered (λ p. IsRead p.0 p.1)
entered_reads words none None is =
    let no : false ≡ true = ap (λ (o : Option (Text × List Row)). is_some o) is ∙ enters words none in
    cc
entered_reads words none (Some p) is = reads words none p.0 p.1 (sym is)

-- ---- what a run asks of its plan

-- a view that compares is that of a command that does
comparison_named : (name : Text) (entries : List Row) (view : View) → view_of name entries ≡ Some view → IsComparison view
    → compares name ≡ true
comparison_named name entries view is comparing =
    go (bytes_eq name (codes "fold")) (bytes_eq name (codes "graph")) (bytes_eq name (codes "chart")) (bytes_eq name (codes "compare")) (bytes_eq name (codes "top")) (bytes_eq name (codes "diff")) (bytes_eq name (codes "callers") || (bytes_eq name (codes "callees") || bytes_eq name (codes "peek"))) is
  where
    same : (v : View) → Some v ≡ Some view → IsComparison v
    same v e = subst IsComparison (sym (ap (λ (o : Option View). unwrap_or o view) e)) comparing

    go : (fold graph chart compare top diff calls : Bool)
        → cond fold (Some Fold) (cond graph (Some (Graph (width_of entries))) (cond chart (Some (Chart (width_of entries)))
        (cond compare (Some (compared_view entries)) (cond top (Some (Top (table_of entries))) (cond diff (Some (Diff (diff_table_of entries))) (cond calls (Some Fold) None)))))) ≡ Some view
        → (compare || diff) ≡ true
    go true graph chart compare top diff calls e = absurd (same Fold e)
    go false true chart compare top diff calls e = absurd (same (Graph (width_of entries)) e)
    go false false true compare top diff calls e = absurd (same (Chart (width_of entries)) e)
    go false false false true top diff calls e = refl
    go false false false false true diff calls e = absurd (same (Top (table_of entries)) e)
    go false false false false false true calls e = refl
    go false false false false false false true e = absurd (same Fold e)
    go false false false false false false false e = cc

number_in_range : (id : Text) (most : ℕ) (entries : List Row) → IsNumberAt id most entries
    → IfSome (number_at id entries) (λ n. (1 ≤ n) × (n ≤ most))
number_in_range id most entries number = go (one_of id entries) number
  where
    go : (o : Option Text) → IfSome o (λ t. IsNumeral 10 (without_leading_plus t) × (1 ≤ digits_value 10 (without_leading_plus t)) × (digits_value 10 (without_leading_plus t) ≤ most))
        → IfSome (option_map (λ t. digits_value 10 (without_leading_plus t)) o) (λ n. (1 ≤ n) × (n ≤ most))
    go None known = tt
    go (Some t) known = (known.1, known.2)

-- what a run asks of its plan
pub record Asks (plan : Plan) : Type 0 where
  pub pair : IsComparison plan.view → length plan.files ≡ 2
  pub every : IfSome plan.options.every (λ every. (1 ≤ every) × (every ≤ MOST_BETWEEN_SNAPSHOTS))
  pub page : IsPage plan.form → IsDrawn plan.view
  pub picture : IsPicture plan.form → IsDrawn plan.view
  pub alone : IsPicture plan.form → plan.options.every ≡ None
  pub types : plan.form ≡ form.Types → IsOfOneProfile plan
  pub live : plan.form ≡ form.Live → IsOfStreams plan
  pub pages : IfSome plan.pages (λ _. (plan.form ≡ form.Live) × (plan.output ≡ None))

-- an option that was not used has no number
unused_number : (entries : List Row) (id : Text) → is_used id entries ≡ false → number_at id entries ≡ None
unused_number entries id = go (find (λ r. bytes_eq r.id id) entries)
  where
    go : (found : Option Row) → is_some (option_map (λ r. r.values) found) ≡ false → option_map (λ t. digits_value 10 (without_leading_plus t)) (option_and_then row_text found) ≡ None
    go None e = refl
    go (Some r) e = absurd (true≢false e)

-- what is written where no page and no picture is asked for is none
no_form_of_text : (name : Text) (entries : List Row) (P : Form → Type 0) → P form.Text → (P (form.Callers (call_table_of entries))) → (P (form.Callees (call_table_of entries))) → (P (form.Peek (call_table_of entries)))
    → P (text_form name entries)
no_form_of_text name entries P text callers callees peek = go (bytes_eq name (codes "callers")) (bytes_eq name (codes "callees")) (bytes_eq name (codes "peek"))
  where
    go : (up down both : Bool) → P (cond up (form.Callers (call_table_of entries)) (cond down (form.Callees (call_table_of entries)) (cond both (form.Peek (call_table_of entries)) form.Text)))
    go true down both = callers
    go false true both = callees
    go false false true = peek
    go false false false = text

no_page : (name : Text) (entries : List Row) → IsPage (text_form name entries) → ⊥
no_page name entries = no_form_of_text name entries (λ written. IsPage written → ⊥) (λ page. page) (λ page. page) (λ page. page) (λ page. page)

no_picture : (name : Text) (entries : List Row) → IsPicture (text_form name entries) → ⊥
no_picture name entries = no_form_of_text name entries (λ written. IsPicture written → ⊥) (λ picture. picture) (λ picture. picture) (λ picture. picture) (λ picture. picture)

page_is_drawn : (name : Text) (entries : List Row) (view : View) → (is_set (codes "page") entries ≡ true → IsDrawn view) → IsPage (form_of name entries) → IsDrawn view
page_is_drawn name entries view drawn = go (is_set (codes "page") entries) (is_set (codes "svg") entries) refl
  where
    go : (page svg : Bool) → is_set (codes "page") entries ≡ page → IsPage (cond page (form.Page (page_of entries)) (cond svg (form.Picture (picture_of entries)) (text_form name entries))) → IsDrawn view
    go true svg set page = drawn set
    go false true set page = absurd page
    go false false set page = absurd (no_page name entries page)

-- a picture is asked for by `--svg`
picture_is_set : (name : Text) (entries : List Row) → IsPicture (form_of name entries) → is_set (codes "svg") entries ≡ true
picture_is_set name entries = go (is_set (codes "page") entries) (is_set (codes "svg") entries) refl
  where
    go : (page svg : Bool) → is_set (codes "svg") entries ≡ svg → IsPicture (cond page (form.Page (page_of entries)) (cond svg (form.Picture (picture_of entries)) (text_form name entries)))
        → is_set (codes "svg") entries ≡ true
    go true svg is picture = absurd picture
    go false true is picture = is
    go false false is picture = absurd (no_picture name entries picture)

-- beside it stand no snapshots
picture_has_no_snapshots : (name : Text) (entries : List Row) → has_picture_conflict entries ≡ false → IsPicture (form_of name entries) → number_at (codes "every") entries ≡ None
picture_has_no_snapshots name entries alone picture =
    unused_number entries (codes "every") (go (is_set (codes "page") entries) (is_used (codes "every") entries) (is_used (codes "least") entries) (ap (λ svg. svg && (is_set (codes "page") entries || (is_used (codes "every") entries || is_used (codes "least") entries))) (sym (picture_is_set name entries picture)) ∙ alone))
  where
    go : (page every least : Bool) → (page || (every || least)) ≡ false → every ≡ false
    go true every least e = absurd (true≢false e)
    go false true least e = absurd (true≢false e)
    go false false least e = refl

-- a command that shows a view writes neither sample types nor the graphs of streams
abbrev IsOfView : Form → Type 0
IsOfView form.Text = Unit {0}
IsOfView (form.Page page) = Unit {0}
IsOfView (form.Picture picture) = Unit {0}
IsOfView form.Types = ⊥
IsOfView form.Live = ⊥
IsOfView (form.Callers table) = Unit {0}
IsOfView (form.Callees table) = Unit {0}
IsOfView (form.Peek table) = Unit {0}

is_of_view : (name : Text) (entries : List Row) → IsOfView (form_of name entries)
is_of_view name entries = go (is_set (codes "page") entries) (is_set (codes "svg") entries)
  where
    go : (page svg : Bool) → IsOfView (cond page (form.Page (page_of entries)) (cond svg (form.Picture (picture_of entries)) (text_form name entries)))
    go true svg = tt
    go false true = tt
    go false false = no_form_of_text name entries IsOfView tt tt tt tt

view_asks : (name : Text) (entries : List Row) (view : View) → IsRead name entries → has_picture_conflict entries ≡ false → view_of name entries ≡ Some view → Asks (plan_with name entries view)
view_asks name entries view read alone known = record {
  pair = λ compares. read.pair (comparison_named name entries view known compares);
  every = number_in_range (codes "every") MOST_BETWEEN_SNAPSHOTS entries read.every;
  page = page_is_drawn name entries view (λ set. subst (λ (o : Option View). IfSome o IsDrawn) known (read.drawn set));
  picture = λ picture. subst (λ (o : Option View). IfSome o IsDrawn) known (read.pictured (picture_is_set name entries picture));
  alone = picture_has_no_snapshots name entries alone;
  types = λ types. absurd (subst IsOfView types (is_of_view name entries));
  live = λ live. absurd (subst IsOfView live (is_of_view name entries));
  pages = tt;
}

types_asks : (name : Text) (entries : List Row) → IsRead name entries → bytes_eq name (codes "types") ≡ true → Asks (types_plan entries)
types_asks name entries read is = record { pair = λ compares. absurd compares; every = tt; page = λ page. absurd page; picture = λ picture. absurd picture; alone = λ picture. absurd picture; types = λ _. (read.single is, refl, refl); live = λ live. cc; pages = tt }

live_in_range : (every : Option ℕ) → IfSome every (λ n. (1 ≤ n) × (n ≤ MOST_BETWEEN_SNAPSHOTS))
    → (1 ≤ unwrap_or every 1000) × (unwrap_or every 1000 ≤ MOST_BETWEEN_SNAPSHOTS)
live_in_range None known = (omega arith, omega arith)
live_in_range (Some n) known = known

-- an option that was not used has no value
unused_value : (entries : List Row) (id : Text) → is_used id entries ≡ false → first_of id entries ≡ None
unused_value entries id = go (find (λ r. bytes_eq r.id id) entries)
  where
    go : (found : Option Row) → is_some (option_map (λ r. r.values) found) ≡ false → option_and_then (λ r. slice_get r.values 0) found ≡ None
    go None e = refl
    go (Some r) e = absurd (true≢false e)

-- beside pages no other file is set
pages_alone : (entries : List Row) → has_two_files entries ≡ false → IfSome (pages_of entries) (λ _. output_of entries ≡ None)
pages_alone entries alone = go (is_used (codes "pages") entries) refl alone
  where
    of_value : (value : Option Text) → output_of entries ≡ None → IfSome value (λ _. output_of entries ≡ None)
    of_value None none = tt
    of_value (Some value) none = none

    go : (used : Bool) → is_used (codes "pages") entries ≡ used → (used && is_used (codes "output") entries) ≡ false
        → IfSome (pages_of entries) (λ _. output_of entries ≡ None)
    go true used alone = of_value (pages_of entries) (unused_value entries (codes "output") alone)
    go false used alone = rw (unused_value entries (codes "pages") used) tt

live_asks : (name : Text) (entries : List Row) → IsRead name entries → has_two_files entries ≡ false → Asks (live_plan entries)
live_asks name entries read alone = record {
  pair = λ compares. absurd compares;
  every = live_in_range (number_at (codes "every") entries) (number_in_range (codes "every") MOST_BETWEEN_SNAPSHOTS entries read.every);
  page = λ page. absurd page;
  picture = λ picture. absurd picture;
  alone = λ picture. absurd picture;
  types = λ types. cc;
  live = λ _. record { width = width_of entries; every = live_every entries; view = refl; options = refl; format = refl; from = refl; omit = refl };
  pages = with_form (pages_of entries) (pages_alone entries alone);
}
  where
    with_form : (value : Option Text) → IfSome value (λ _. output_of entries ≡ None) → IfSome value (λ _. (form.Live ≡ form.Live) × (output_of entries ≡ None))
    with_form None known = tt
    with_form (Some value) known = (refl, known)

svg_asks : (name : Text) (entries : List Row) → IsRead name entries → Asks (svg_plan entries)
svg_asks name entries read = record { pair = λ compares. absurd compares; every = tt; page = λ page. absurd page; picture = λ _. tt; alone = λ _. refl; types = λ types. cc; live = λ live. cc; pages = tt }

-- entries without a fault
pub none_in : (kinds : Kinds) → is_empty kinds ≡ true → kinds ≡ []
none_in [] is = refl
none_in (k ∷ ks) is =
    let some : is_empty (k ∷ ks) ≡ false = ne_eqb _ _ (λ e. omega arith) in
    absurd (true≢false (sym is ∙ some))

with_no_fault : {A : Type 0} (kinds : Kinds) (o : Option A) (x : A) → cond (is_empty kinds) o None ≡ Some x → (kinds ≡ []) × (o ≡ Some x)
with_no_fault {A} kinds o x at = go (is_empty kinds) refl at
  where
    go : (b : Bool) → is_empty kinds ≡ b → cond b o None ≡ Some x → (kinds ≡ []) × (o ≡ Some x)
    go true is at = (none_in kinds is, at)
    go false is at = cc

no_conflict : (name : Text) (entries : List Row) → entries_fault name entries ≡ [] → (has_two_files entries ≡ false) × (has_picture_conflict entries ≡ false)
no_conflict name entries = go (knows_format entries && (knows_order entries && knows_unit entries)) (has_two_files entries) (has_picture_conflict entries) (has_its_page entries && has_its_form name entries)
  where
    go : (known files picture formed : Bool) → cond known (cond (files || picture) (kind.ArgumentConflict ∷ []) (cond formed [] (kind.MissingRequiredArgument ∷ []))) (kind.InvalidValue ∷ []) ≡ []
        → (files ≡ false) × (picture ≡ false)
    go false files picture formed e = cc
    go true true picture formed e = cc
    go true false true formed e = cc
    go true false false formed e = (refl, refl)

command_asks : (name : Text) (entries : List Row) (plan : Plan) → IsRead name entries → command_plan name entries ≡ Some plan → Asks plan
command_asks name entries plan read is = of_name (bytes_eq name (codes "types")) (bytes_eq name (codes "live")) (bytes_eq name (codes "svg")) refl (with_no_fault (entries_fault name entries) _ plan is).1
  where
    alone : (has_two_files entries ≡ false) × (has_picture_conflict entries ≡ false)
    alone = no_conflict name entries (with_no_fault (entries_fault name entries) _ plan is).0

    same : (p : Plan) → Some p ≡ Some plan → Asks p → Asks plan
    same p e asks = subst Asks (ap (λ (o : Option Plan). unwrap_or o p) e) asks

    of_view : (view : Option View) → view_of name entries ≡ view → option_map (plan_with name entries) view ≡ Some plan → Asks plan
    of_view None known at = cc
    of_view (Some view) known at = same (plan_with name entries view) at (view_asks name entries view read alone.1 known)

    of_name : (types live svg : Bool) → bytes_eq name (codes "types") ≡ types
        → cond types (Some (types_plan entries)) (cond live (Some (live_plan entries)) (cond svg (Some (svg_plan entries)) (option_map (plan_with name entries) (view_of name entries)))) ≡ Some plan → Asks plan
    of_name true live svg named at = same (types_plan entries) at (types_asks name entries read named)
    of_name false true svg named at = same (live_plan entries) at (live_asks name entries read alone.0)
    of_name false false true named at = same (svg_plan entries) at (svg_asks name entries read)
    of_name false false false named at = of_view (view_of name entries) refl at

pub plan_asks : (entered : Option (Text × List Row)) (plan : Plan) → IsSomeAnd entered (λ p. IsRead p.0 p.1)
    → entered_plan entered ≡ Some plan → Asks plan
plan_asks None plan read is = absurd read
plan_asks (Some p) plan read is = command_asks p.0 p.1 plan read is

-- ---- refusals

pub error_kind : (a : App) (words : List Text) (e : Error) → a ≡ command_line
    → (is_simple_and_free a ≡ true → HasKind (parsing_fault a words) e) → HasKind (parsing_fault command_line words) e
error_kind a words e is has = subst (λ (b : App). HasKind (parsing_fault b words) e) is (has (ap is_simple_and_free is))

pub only_memory : (a : App) (words : List Text) (e : Error) → a ≡ command_line
    → (parses a words ≡ true → kind_of e ≡ kind.OutOfMemory) → parses command_line words ≡ true → kind_of e ≡ kind.OutOfMemory
only_memory a words e is passes taken = passes (ap (λ b. parses b words) is ∙ taken)

-- ---- the faults of entries

pub planned_own : (entered : Option (Text × List Row)) (plan : Plan) → entered_plan entered ≡ Some plan → own_fault entered ≡ []
planned_own None plan is = refl
planned_own (Some p) plan is = (with_no_fault (entries_fault p.0 p.1) _ plan is).0

-- one of no kinds is want of memory
pub among_none : (f : PlanFault) → IsFaultAmong [] f → f ≡ fault.OutOfMemory
among_none fault.OutOfMemory among = refl
among_none (fault.Words text) among = absurd among.1
among_none (fault.Help text) among = absurd among.1

-- a refusal of a kind that the entries have
pub refused_for : (name : Text) (entries : List Row) (k : ErrorKind) (f : PlanFault) → entries_fault name entries ≡ k ∷ [] → IsFaultOf k f → IsFaultAmong (entries_fault name entries) f
refused_for name entries k fault.OutOfMemory is of = tt
refused_for name entries k (fault.Words text) is of = rw is (k, inl refl, of.0)
refused_for name entries k (fault.Help text) is of = rw is (k, inl refl, of)

pub refused_format : (name : Text) (entries : List Row) → knows_format entries ≡ false → entries_fault name entries ≡ kind.InvalidValue ∷ []
refused_format name entries unknown = rw unknown refl

pub refused_order : (name : Text) (entries : List Row) → knows_format entries ≡ true → knows_order entries ≡ false → entries_fault name entries ≡ kind.InvalidValue ∷ []
refused_order name entries known unknown = rw (known, unknown) refl

pub refused_unit : (name : Text) (entries : List Row) → knows_format entries ≡ true → knows_order entries ≡ true → knows_unit entries ≡ false → entries_fault name entries ≡ kind.InvalidValue ∷ []
refused_unit name entries format order unknown = rw (format, order, unknown) refl

pub refused_conflict : (name : Text) (entries : List Row) → knows_format entries ≡ true → knows_order entries ≡ true → knows_unit entries ≡ true → has_conflict entries ≡ true
    → entries_fault name entries ≡ kind.ArgumentConflict ∷ []
refused_conflict name entries format order unit conflict = rw (format, order, unit, conflict) refl

pub refused_page : (name : Text) (entries : List Row) → knows_format entries ≡ true → knows_order entries ≡ true → knows_unit entries ≡ true → has_conflict entries ≡ false → has_its_page entries ≡ false
    → entries_fault name entries ≡ kind.MissingRequiredArgument ∷ []
refused_page name entries format order unit alone page = rw (format, order, unit, alone, page) refl

pub refused_form : (name : Text) (entries : List Row) → knows_format entries ≡ true → knows_order entries ≡ true → knows_unit entries ≡ true → has_conflict entries ≡ false → has_its_page entries ≡ true → has_its_form name entries ≡ false
    → entries_fault name entries ≡ kind.MissingRequiredArgument ∷ []
refused_form name entries format order unit alone page formed = rw (format, order, unit, alone, page, formed) refl

pub without_fault : (name : Text) (entries : List Row) → knows_format entries ≡ true → knows_order entries ≡ true → knows_unit entries ≡ true → has_conflict entries ≡ false → has_its_page entries ≡ true → has_its_form name entries ≡ true → entries_fault name entries ≡ []
without_fault name entries format order unit alone page formed = rw (format, order, unit, alone, page, formed) refl

-- what the plan of a command without a fault is, by its name
pub planned_types : (name : Text) (entries : List Row) → entries_fault name entries ≡ [] → bytes_eq name (codes "types") ≡ true → command_plan name entries ≡ Some (types_plan entries)
planned_types name entries none types = rw (none, types) refl

pub planned_live : (name : Text) (entries : List Row) → entries_fault name entries ≡ [] → bytes_eq name (codes "types") ≡ false → bytes_eq name (codes "live") ≡ true
    → command_plan name entries ≡ Some (live_plan entries)
planned_live name entries none types live = rw (none, types, live) refl

pub planned_svg : (name : Text) (entries : List Row) → entries_fault name entries ≡ [] → bytes_eq name (codes "types") ≡ false → bytes_eq name (codes "live") ≡ false → bytes_eq name (codes "svg") ≡ true
    → command_plan name entries ≡ Some (svg_plan entries)
planned_svg name entries none types live svg = rw (none, types, live, svg) refl

pub planned_view : (name : Text) (entries : List Row) → entries_fault name entries ≡ [] → bytes_eq name (codes "types") ≡ false → bytes_eq name (codes "live") ≡ false → bytes_eq name (codes "svg") ≡ false
    → command_plan name entries ≡ option_map (plan_with name entries) (view_of name entries)
planned_view name entries none types live svg = rw (none, types, live, svg) refl

-- words that `clap` takes have the faults of their entries alone
pub own_alone : (words : List Text) (entered : Option (Text × List Row)) → parsing_fault command_line words ≡ [] → entered ≡ subcommand_of command_line words
    → own_fault entered ≡ fault_of command_line words
own_alone words entered none is =
    ap own_fault is ∙ sym (ap (λ kinds. or_else (told_kinds words kinds) (own_fault (subcommand_of command_line words))) none)

not_memory : (k : ErrorKind) → k ≡ kind.OutOfMemory → IsRequest k → ⊥
not_memory k memory (inl help) =
    let no : kind.OutOfMemory ≡ kind.DisplayHelp = sym memory ∙ help in
    cc
not_memory k memory (inr version) =
    let no : kind.OutOfMemory ≡ kind.DisplayVersion = sym memory ∙ version in
    cc

-- what is told in place of help is told of no other kind
told_memory : (words : List Text) (k : ErrorKind) → k ≡ kind.OutOfMemory → told_kind words k ≡ kind.OutOfMemory
told_memory words k is = ap (told_kind words) is

among_told : (tell : ErrorKind → ErrorKind) (k : ErrorKind) (kinds : Kinds) → IsAmong k kinds → IsAmong (tell k) (map tell kinds)
among_told tell k [] among = absurd among
among_told tell k (x ∷ xs) (inl is) = inl (ap tell is)
among_told tell k (x ∷ xs) (inr among) = inr (among_told tell k xs among)

among_more : (k : ErrorKind) (kinds more : Kinds) → IsAmong k kinds → IsAmong k (or_else kinds more)
among_more k [] more among = absurd among
among_more k (x ∷ xs) more among = among

pub fault_among : (words : List Text) (kinds more : Kinds) (e : Error) (f : PlanFault) → HasKind kinds e → IsFaultOf (told_kind words (kind_of e)) f
    → IsFaultAmong (or_else (told_kinds words kinds) more) f
fault_among words kinds more e fault.OutOfMemory has is = tt
fault_among words kinds more e (fault.Words text) (inl memory) is = absurd (is.1 (told_memory words (kind_of e) memory))
fault_among words kinds more e (fault.Words text) (inr among) is = (told_kind words (kind_of e), among_more _ _ more (among_told (told_kind words) (kind_of e) kinds among), is.0)
fault_among words kinds more e (fault.Help text) (inl memory) is = absurd (not_memory _ (told_memory words (kind_of e) memory) is)
fault_among words kinds more e (fault.Help text) (inr among) is = (told_kind words (kind_of e), among_more _ _ more (among_told (told_kind words) (kind_of e) kinds among), is)

pub fault_of_memory : (words : List Text) (e : Error) (f : PlanFault) → kind_of e ≡ kind.OutOfMemory → IsFaultOf (told_kind words (kind_of e)) f → f ≡ fault.OutOfMemory
fault_of_memory words e fault.OutOfMemory memory is = refl
fault_of_memory words e (fault.Words text) memory is = absurd (is.1 (told_memory words (kind_of e) memory))
fault_of_memory words e (fault.Help text) memory is = absurd (not_memory _ (told_memory words (kind_of e) memory) is)
