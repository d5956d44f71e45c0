-- What a level of a parse without a fault makes of the entries, by `clap`'s definitions: the walk over
-- the words keeps what each use of an argument does.
use Rattle.std.proofs.Common.{◌≡◌, ◌∙◌, ◌&&◌, ◌||◌, ℕ, Bool, cond, true, false, zero, suc, refl, sym, ap, arith, List, [], ◌∷◌, length, drop, ne_eqb, Option, Some, None, is_some}
use Rattle.std.specs.Prelude.{encode_utf8, slice_get}
use Rattle.std.specs.List.{AllByRecursion as Each, find, fold}
use Rattle.std.specs.Option.{option_map_or}
use Rattle.std.specs.Str.{bytes_eq, chars}
use Rattle.clap.specs.Faults.{given_default_fault, bundle_fault, bundle_step_fault, check_fault, default_fault, defaults_fault, flag_word_fault, flags_fault, level_fault, long_fault, option_fault, other_fault, positional_fault, react_fault, settle_fault, short_fault, step_fault, stray_fault, turn_fault, use_fault, values_fault, walk_fault, word_fault}
use Rattle.clap.specs.Kinds.{Kinds, or_else, request_kinds}
use Rattle.clap.specs.Lexer.{long_of, short_of}
use Rattle.clap.specs.Simple.{Shape}
use Rattle.clap.specs.declared.error.kind.ErrorKind.TheVariants as kind
use Rattle.clap.specs.Walk.{Held, Names, Outcome, Row, Rule, Step, Text, Waiting, Walk, action_of, after_flag, after_step, arg_by_id, arg_by_index, arg_by_long, arg_by_short, attached_value, bundle_met, bundle_step, default_rows, flag_met, has_row, is_empty, is_pending, long_met, long_or_other, option_met, option_word, plain_word, positional_held, pushed, reacted, reading_by, rows_after, settled, settled_rows, used_by_id, subcommand_or_other, short_met, short_or_plain, subcommand_met, takes_several, takes_values, to_positional, walk, walk_from, walked, walked_from, with_default, word_met, done, waits, plain, refused, idle, option, positional, next, trailing, subcommand, value, nothing_held}
use Rattle.clap.specs.declared.parser.matches.ValueSource.TheVariants.{DefaultValue}
use Rattle.command_line.proofs.PassedUses.{IsFirstOfId, IsRow, found_each, new_each, none_of_both, used_each, values_pass_of}

-- ---- the walk, where each argument is the first of its id

-- the rows so far are of the arguments
abbrev Holds : List Rule → Held → Type 0
Holds c h = Each (IsRow c) h.rows

module _ (c : List Rule) (firsts : Each (IsFirstOfId c) c) where
  is_first : (test : Rule → Bool) (a : Rule) → find test c ≡ Some a → IsFirstOfId c a
  is_first test a found = (found_each (IsFirstOfId c) test c a firsts found).0

  settled_holds : (h : Held) → settle_fault c false h ≡ [] → Holds c h → Holds c (settled c h)
  settled_holds h fault holds = of_pending h.pending fault
    where
      of_argument : (p : Text × List Text) (found : Option Rule) → arg_by_id c p.0 ≡ found
          → option_map_or (λ a. use_fault false a p.1 h.rows) found [] ≡ [] → Each (IsRow c) (used_by_id found p.1 h.rows)
      of_argument p None is none = holds
      of_argument p (Some a) is none = used_each c a (is_first _ a is) p.1 h.rows none holds

      of_pending : (pending : Option (Text × List Text)) → settle_fault c false (record h { pending = pending }) ≡ []
          → Each (IsRow c) (settled_rows c pending h.rows)
      of_pending None none = holds
      of_pending (Some p) none = of_argument p (arg_by_id c p.0) refl none

  reacted_holds : (a : Rule) (values : List Text) (h : Held) → IsFirstOfId c a → react_fault c false a values h ≡ []
      → Holds c h → Holds c (reacted c a values h)
  reacted_holds a values h first fault holds =
      let parts = none_of_both (settle_fault c false h) (use_fault false a values (settled c h).rows) fault in
      used_each c a first values (settled c h).rows parts.1 (settled_holds h parts.0 holds)

  option_holds : (a : Rule) (v : Option Text) (h : Held) → IsFirstOfId c a → option_fault c false a v h ≡ []
      → Holds c h → Holds c (option_met c a v h).0
  option_holds a (Some v) h first fault holds = reacted_holds a (v ∷ []) h first fault holds
  option_holds a None h first fault holds = settled_holds h fault holds

  flag_holds : (a : Rule) (v : Option Text) (h : Held) → IsFirstOfId c a
      → cond (is_some v) (kind.TooManyValues ∷ []) (react_fault c false a [] h) ≡ [] → Holds c h → Holds c (flag_met c a v h).0
  flag_holds a (Some v) h first fault holds = holds
  flag_holds a None h first fault holds = reacted_holds a [] h first fault holds

  long_holds : (found : Option Rule) (v : Option Text) (h : Held) → ((a : Rule) → found ≡ Some a → IsFirstOfId c a)
      → long_fault c false found v h ≡ [] → Holds c h → Holds c (long_met c found v h).0
  long_holds None v h first fault holds = holds
  long_holds (Some a) v h first fault holds = go (takes_values a) fault
    where
      go : (b : Bool) → cond b (option_fault c false a v h) (cond (is_some v) (kind.TooManyValues ∷ []) (react_fault c false a [] h)) ≡ []
          → Holds c (cond b (option_met c a v h) (flag_met c a v h)).0
      go true none = option_holds a v h (first a refl) none holds
      go false none = flag_holds a v h (first a refl) none holds

  short_holds : (found : Option Rule) (rest : Text) (h : Held) (following : Held → Held × Outcome) (fault_after : Held → Kinds)
      → ((a : Rule) → found ≡ Some a → IsFirstOfId c a)
      → ((after : Held) → fault_after after ≡ [] → Holds c after → Holds c (following after).0)
      → short_fault c false found rest h fault_after ≡ [] → Holds c h → Holds c (short_met c found rest h following).0
  short_holds None rest h following fault_after first goes_on fault holds = holds
  short_holds (Some a) rest h following fault_after first goes_on fault holds = go (takes_values a) fault
    where
      go : (b : Bool) → cond b (option_fault c false a (attached_value rest) h)
          (or_else (react_fault c false a [] h) (fault_after (reacted c a [] h))) ≡ []
          → Holds c (cond b (option_met c a (attached_value rest) h) (following (reacted c a [] h))).0
      go true none = option_holds a (attached_value rest) h (first a refl) none holds
      go false none =
          let parts = none_of_both (react_fault c false a [] h) (fault_after (reacted c a [] h)) none in
          goes_on (reacted c a [] h) parts.1 (reacted_holds a [] h (first a refl) parts.0 holds)

  bundle_step_holds : (x : Option ℕ) (flags : Text) (skip : ℕ) (so_far : Outcome) (h : Held)
      (following : Text → ℕ → Outcome → Held → Held × Outcome) (fault_after : Text → ℕ → Held → Kinds)
      → ((rest : Text) (less : ℕ) (outcome : Outcome) (after : Held) → fault_after rest less after ≡ [] → Holds c after → Holds c (following rest less outcome after).0)
      → bundle_step_fault c false x flags skip h fault_after ≡ [] → Holds c h → Holds c (bundle_step c x flags skip so_far h following).0
  bundle_step_holds None flags skip so_far h following fault_after goes_on fault holds = holds
  bundle_step_holds (Some x) flags zero so_far h following fault_after goes_on fault holds =
      let rest = drop (length (encode_utf8 x)) flags in
      short_holds (arg_by_short c x) rest h (following rest 0 done) (fault_after rest 0) (λ a is. is_first _ a is) (goes_on rest 0 done) fault holds
  bundle_step_holds (Some x) flags (suc skip) so_far h following fault_after goes_on fault holds =
      goes_on (drop (length (encode_utf8 x)) flags) skip so_far h fault holds

  bundle_holds : (k : ℕ) (flags : Text) (skip : ℕ) (so_far : Outcome) (h : Held) → flags_fault c false k flags skip h ≡ []
      → Holds c h → Holds c (bundle_met c k flags skip so_far h).0
  unfolding bundle_met flags_fault
  bundle_holds zero flags skip so_far h fault holds = holds
  bundle_holds (suc k) flags skip so_far h fault holds =
      bundle_step_holds (slice_get (chars flags) 0) flags skip so_far h (bundle_met c k) (flags_fault c false k)
      (λ rest less outcome after. bundle_holds k rest less outcome after) fault holds

  plain_holds : (waiting : Waiting) (word : Text) (h : Held) → Holds c h → Holds c (plain_word c waiting word h).0
  plain_holds idle word h holds = holds
  plain_holds positional word h holds = holds
  plain_holds (option id) word h holds = go (arg_by_id c id)
    where
      go : (found : Option Rule) → Holds c (option_word found id word h).0
      go None = holds
      go (Some a) = holds

  after_flag_holds : (waiting : Waiting) (word : Text) (h : Held) (outcome : Outcome) → Holds c h → Holds c (after_flag c waiting word h outcome).0
  after_flag_holds waiting word h done holds = holds
  after_flag_holds waiting word h (waits id) holds = holds
  after_flag_holds waiting word h plain holds = plain_holds waiting word h holds
  after_flag_holds waiting word h refused holds = plain_holds waiting word h holds

  flag_word_holds : (waiting : Waiting) (long : Option (Text × Option Text)) (word : Text) (h : Held)
      → flag_word_fault c false long word h ≡ [] → Holds c h → Holds c (long_or_other c waiting word long h).0
  flag_word_holds waiting (Some p) word h fault holds =
      after_flag_holds waiting word _ _ (long_holds (arg_by_long c p.0) p.1 h (λ a is. is_first _ a is) fault holds)
  flag_word_holds waiting None word h fault holds = go (short_of word) fault
    where
      go : (short : Option Text) → option_map_or (λ flags. bundle_fault c false flags h) short [] ≡ [] → Holds c (short_or_plain c waiting word short h).0
      go None none = plain_holds waiting word h holds
      go (Some flags) none =
          after_flag_holds waiting word _ _ (bundle_holds (length flags) flags h.skip plain (record h { skip = 0 }) none holds)

-- ---- a level of the parse

module _ (s : Shape) (names : Names) (firsts : Each (IsFirstOfId s.rules) s.rules) (once : s.args_override_self ≡ false) where
  word_holds : (is_trailing : Bool) (waiting : Waiting) (position : ℕ) (word : Text) (h : Held)
      → word_fault s names is_trailing waiting word h ≡ [] → Holds s.rules h
      → Holds s.rules (word_met s.rules names is_trailing waiting position word h).0
  word_holds true waiting position word h fault holds = holds
  word_holds false waiting position word h fault holds = go (subcommand_met names waiting word) fault
    where
      flagged : (b : Bool) → cond b [] (flag_word_fault s.rules s.args_override_self (long_of word) word h) ≡ []
          → Holds s.rules (cond b (h, trailing position) (long_or_other s.rules waiting word (long_of word) h)).0
      flagged true none = holds
      flagged false none = flag_word_holds s.rules firsts waiting (long_of word) word h
          (ap (λ again. flag_word_fault s.rules again (long_of word) word h) (sym once) ∙ none) holds

      go : (met : Option Text) → other_fault s met word h ≡ [] → Holds s.rules (subcommand_or_other s.rules met waiting position word h).0
      go (Some name) none = holds
      go None none = flagged (bytes_eq word (45 ∷ 45 ∷ [])) none

  positional_holds : (a : Rule) (word : Text) (h : Held) → positional_fault s.rules s.args_override_self a h ≡ []
      → Holds s.rules h → Holds s.rules (positional_held s.rules a word h)
  positional_holds a word h fault holds = go (is_pending a h.pending && takes_several a) fault
    where
      go : (b : Bool) → cond b [] (settle_fault s.rules s.args_override_self h) ≡ []
          → Holds s.rules (pushed a.id word (cond b h (settled s.rules h)))
      go true none = holds
      go false none = settled_holds s.rules firsts h (ap (λ again. settle_fault s.rules again h) (sym once) ∙ none) holds

  step_holds : (word : Text) (w : Walk) (h : Held) (step : Step) → step_fault s w.position h step ≡ []
      → Holds s.rules h → Holds s.rules (after_step s.rules word w h step).held
  step_holds word w h (next waiting) fault holds = holds
  step_holds word w h (trailing position) fault holds = holds
  step_holds word w h (subcommand name) fault holds = holds
  step_holds word w h value fault holds = go (arg_by_index s.rules w.position) fault
    where
      go : (found : Option Rule) → option_map_or (λ a. positional_fault s.rules s.args_override_self a h) found (stray_fault s) ≡ []
          → Holds s.rules (to_positional s.rules found word w h).held
      go None none = holds
      go (Some a) none = positional_holds a word h none holds

  walked_holds : (w : Walk) (word : Text) → turn_fault s names w word ≡ [] → Holds s.rules w.held
      → Holds s.rules (walked s.rules names w word).held
  unfolding walked
  walked_holds w word fault holds = go w.stopped fault
    where
      go : (stopped : Option (Text × List Text)) → turn_fault s names (record w { stopped = stopped }) word ≡ []
          → Holds s.rules (walked_from s.rules names stopped w word).held
      go (Some p) none = holds
      go None none =
          let met = word_met s.rules names w.is_trailing w.waiting w.position word w.held in
          let parts = none_of_both (word_fault s names w.is_trailing w.waiting word w.held) (step_fault s w.position met.0 met.1) none in
          step_holds word w met.0 met.1 parts.1 (word_holds w.is_trailing w.waiting w.position word w.held parts.0 holds)

  walk_holds : (words : List Text) (w : Walk) → walk_fault s names w words ≡ [] → Holds s.rules w.held
      → Holds s.rules (fold (walked s.rules names) w words).held
  unfolding walk_fault
  walk_holds [] w fault holds = holds
  walk_holds (word ∷ rest) w fault holds =
      let parts = none_of_both (turn_fault s names w word) (walk_fault s names (walked s.rules names w word) rest) fault in
      walk_holds rest (walked s.rules names w word) parts.1 (walked_holds w word parts.0 holds)

  defaults_hold : (rows : List Row) (arguments : List Rule) → Each (IsFirstOfId s.rules) arguments → defaults_fault rows arguments ≡ []
      → Each (IsRow s.rules) rows → Each (IsRow s.rules) (fold with_default rows arguments)
  unfolding defaults_fault
  defaults_hold rows [] first fault each = each
  defaults_hold rows (a ∷ rest) first fault each =
      let parts = none_of_both (default_fault rows a) (defaults_fault (with_default rows a) rest) fault in
      defaults_hold (with_default rows a) rest first.1 parts.1 (one (has_row a.id rows) refl parts.0)
    where
      filled : (defaults : List Text) → a.defaults ≡ defaults → has_row a.id rows ≡ false
          → cond (is_empty defaults) [] (given_default_fault a defaults) ≡ []
          → Each (IsRow s.rules) (default_rows a.id (reading_by a) defaults rows)
      filled [] is absent none = each
      filled (v ∷ vs) is absent none =
          let some : is_empty (v ∷ vs) ≡ false = ne_eqb _ _ (λ e. omega arith) in
          let parts = none_of_both (request_kinds (action_of a)) (values_fault a (v ∷ vs)) (rw some at none) in
          new_each s.rules a first.0 DefaultValue (v ∷ vs) rows absent (values_pass_of a (v ∷ vs) parts.1)
          (λ single. let no : v ∷ vs ≡ [] = sym is ∙ single.3 in cc) each

      one : (b : Bool) → has_row a.id rows ≡ b → cond (b || is_empty a.defaults) [] (given_default_fault a a.defaults) ≡ []
          → Each (IsRow s.rules) (cond b rows (default_rows a.id (reading_by a) a.defaults rows))
      one true is none = each
      one false is none = filled a.defaults refl is none

  -- where a level has no fault, each row is of an argument, and what is required was given
  pub level_holds : (words : List Text) (has_subcommand : Bool) (below : Kinds) → level_fault s names nothing_held words has_subcommand below ≡ []
      → (walk_fault s names (walk_from nothing_held) words ≡ []) × (below ≡ []) × Each (IsRow s.rules) (rows_after s.rules names words)
      × (check_fault s (rows_after s.rules names words) has_subcommand ≡ [])
  level_holds words has_subcommand below fault =
      let end = (walk s.rules names nothing_held words).held in
      let walked_parts = none_of_both (walk_fault s names (walk_from nothing_held) words) _ fault in
      let below_parts = none_of_both below _ walked_parts.1 in
      let settle_parts = none_of_both (settle_fault s.rules s.args_override_self end) _ below_parts.1 in
      let default_parts = none_of_both (defaults_fault (settled s.rules end).rows s.rules) _ settle_parts.1 in
      let walk_end = walk_holds words (walk_from nothing_held) walked_parts.0 tt in
      let settled_end = settled_holds s.rules firsts end (ap (λ again. settle_fault s.rules again end) (sym once) ∙ settle_parts.0) walk_end in
      (walked_parts.0, below_parts.0, defaults_hold (settled s.rules end).rows s.rules firsts default_parts.0 settled_end, default_parts.1)
