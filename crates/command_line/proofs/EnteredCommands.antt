-- The word `help` never names the command that words without a fault enter.
use Rattle.std.proofs.Common.{◌≡◌, ◌&&◌, ℕ, Bool, cond, true, false, not, refl, List, [], ◌∷◌, Option, Some, None, true≢false, codes}
use Rattle.std.specs.Prelude.{IfSome}
use Rattle.std.specs.List.{fold}
use Rattle.std.specs.Str.{bytes_eq}
use Rattle.clap.specs.Faults.{other_fault, step_fault, turn_fault, walk_fault, word_fault}
use Rattle.clap.specs.Lexer.{long_of, short_of}
use Rattle.clap.specs.Simple.{Shape}
use Rattle.clap.specs.Walk.{Held, Names, Outcome, Rule, Step, Text, Waiting, Walk, after_flag, after_step, arg_by_index, arg_by_long, bundle, done, idle, long_met, long_or_other, next, option, plain, plain_word, positional, refused, short_or_plain, subcommand, subcommand_met, subcommand_or_other, to_positional, trailing, value, waits, walked, walked_from, word_met}
use Rattle.clap.specs.declared.error.kind.ErrorKind.TheVariants as kind
use Rattle.command_line.proofs.PassedUses.{none_of_both}

abbrev pub IsElsewhere : Option (Text × List Text) → Type 0
IsElsewhere stop = IfSome stop (λ p. bytes_eq p.0 (codes "help") ≡ false)

abbrev NamesElsewhere : Step → Type 0
NamesElsewhere (subcommand name) = bytes_eq name (codes "help") ≡ false
NamesElsewhere (next waiting) = Unit {0}
NamesElsewhere (trailing position) = Unit {0}
NamesElsewhere value = Unit {0}

plain_elsewhere : (c : List Rule) (waiting : Waiting) (word : Text) (h : Held) → NamesElsewhere (plain_word c waiting word h).1
plain_elsewhere c idle word h = tt
plain_elsewhere c positional word h = tt
plain_elsewhere c (option id) word h = tt

flag_elsewhere : (c : List Rule) (waiting : Waiting) (word : Text) (h : Held) (outcome : Outcome) → NamesElsewhere (after_flag c waiting word h outcome).1
flag_elsewhere c waiting word h done = tt
flag_elsewhere c waiting word h (waits id) = tt
flag_elsewhere c waiting word h plain = plain_elsewhere c waiting word h
flag_elsewhere c waiting word h refused = plain_elsewhere c waiting word h

other_elsewhere : (c : List Rule) (waiting : Waiting) (word : Text) (long : Option (Text × Option Text)) (h : Held) → NamesElsewhere (long_or_other c waiting word long h).1
other_elsewhere c waiting word (Some p) h = flag_elsewhere c waiting word (long_met c (arg_by_long c p.0) p.1 h).0 (long_met c (arg_by_long c p.0) p.1 h).1
other_elsewhere c waiting word None h = go (short_of word)
  where
    go : (short : Option Text) → NamesElsewhere (short_or_plain c waiting word short h).1
    go None = plain_elsewhere c waiting word h
    go (Some flags) = flag_elsewhere c waiting word (bundle c flags h).0 (bundle c flags h).1

module _ (s : Shape) (names : Names) (helps : s.disable_help_subcommand ≡ false) where
  met_elsewhere : (met : Option Text) (waiting : Waiting) (position : ℕ) (word : Text) (h : Held) → other_fault s met word h ≡ []
      → NamesElsewhere (subcommand_or_other s.rules met waiting position word h).1
  met_elsewhere (Some name) waiting position word h fault = go (bytes_eq name (codes "help")) s.disable_help_subcommand helps fault
    where
      go : (b disabled : Bool) → disabled ≡ false → cond (b && not disabled) (kind.DisplayHelp ∷ kind.InvalidSubcommand ∷ []) [] ≡ [] → b ≡ false
      go false disabled is e = refl
      go true false is e = cc
      go true true is e = absurd (true≢false is)
  met_elsewhere None waiting position word h fault = go (bytes_eq word (45 ∷ 45 ∷ []))
    where
      go : (b : Bool) → NamesElsewhere (cond b (h, trailing position) (long_or_other s.rules waiting word (long_of word) h)).1
      go true = tt
      go false = other_elsewhere s.rules waiting word (long_of word) h

  word_elsewhere : (is_trailing : Bool) (waiting : Waiting) (position : ℕ) (word : Text) (h : Held)
      → word_fault s names is_trailing waiting word h ≡ [] → NamesElsewhere (word_met s.rules names is_trailing waiting position word h).1
  word_elsewhere true waiting position word h fault = tt
  word_elsewhere false waiting position word h fault = met_elsewhere (subcommand_met names waiting word) waiting position word h fault

  step_elsewhere : (word : Text) (w : Walk) (h : Held) (step : Step) → NamesElsewhere step → IsElsewhere w.stopped
      → IsElsewhere (after_step s.rules word w h step).stopped
  step_elsewhere word w h (next waiting) elsewhere before = before
  step_elsewhere word w h (trailing position) elsewhere before = before
  step_elsewhere word w h (subcommand name) elsewhere before = elsewhere
  step_elsewhere word w h value elsewhere before = go (arg_by_index s.rules w.position)
    where
      go : (found : Option Rule) → IsElsewhere (to_positional s.rules found word w h).stopped
      go None = before
      go (Some a) = tt

  walked_elsewhere : (w : Walk) (word : Text) → turn_fault s names w word ≡ [] → IsElsewhere w.stopped
      → IsElsewhere (walked s.rules names w word).stopped
  unfolding walked
  walked_elsewhere w word fault before = go w.stopped fault before
    where
      go : (stopped : Option (Text × List Text)) → turn_fault s names (record w { stopped = stopped }) word ≡ [] → IsElsewhere stopped
          → IsElsewhere (walked_from s.rules names stopped (record w { stopped = stopped }) word).stopped
      go (Some p) none before = before
      go None none before =
          let met = word_met s.rules names w.is_trailing w.waiting w.position word w.held in
          let parts = none_of_both (word_fault s names w.is_trailing w.waiting word w.held) (step_fault s w.position met.0 met.1) none in
          step_elsewhere word (record w { stopped = None }) met.0 met.1 (word_elsewhere w.is_trailing w.waiting w.position word w.held parts.0) tt

  pub walk_elsewhere : (words : List Text) (w : Walk) → walk_fault s names w words ≡ [] → IsElsewhere w.stopped
      → IsElsewhere (fold (walked s.rules names) w words).stopped
  unfolding walk_fault
  walk_elsewhere [] w fault before = before
  walk_elsewhere (word ∷ rest) w fault before =
      let parts = none_of_both (turn_fault s names w word) (walk_fault s names (walked s.rules names w word) rest) fault in
      walk_elsewhere rest (walked s.rules names w word) parts.1 (walked_elsewhere w word parts.0 before)
