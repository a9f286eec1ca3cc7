-- Words at which clap finds no fault are words that it takes.
use Rattle.std.proofs.Common.{◌≡◌, ℕ, zero, suc, ◌+◌, Bool, true, false, not, eqb, ltb, leb, cond, ◌&&◌, ◌||◌, List, [], ◌∷◌, length, drop, min, codes, Option, Some, None, is_some, refl, sym, ap, ◌∙◌, arith}
use Rattle.std.specs.Prelude.{encode_utf8, slice_get}
use Rattle.std.specs.List.{list_all, list_any}
use Rattle.std.specs.Option.{option_map_or}
use Rattle.std.specs.Str.{bytes_eq, chars}
use Rattle.std.proofs.lemmas.Bool.{and_from}
use Rattle.std.proofs.lemmas.Bool.Decides.{nat_tests}
use Rattle.clap.specs.Lexer.{long_of, short_of}
use Rattle.clap.specs.Values.{is_request, refused_kind}
use Rattle.clap.specs.ValueTests.{accepts}
use Rattle.clap.specs.Matches.{count_text}
use Rattle.clap.specs.Facts.{explicit_source, parser_of_value, unwrap_or_range}
use Rattle.clap.specs.Kinds.{Kinds, check_kinds, or_else, range_kinds, values_kinds}
use Rattle.clap.specs.Walk.{Held, Names, Row, Rule, Step, next, trailing, subcommand, value, Text, Waiting, Walk, action_of, arg_by_id, arg_by_index, arg_by_long, arg_by_short, attached_value, count_of, finished, has_row, is_empty, is_pending, most_values, nothing_held, reacted, settled, subcommand_met, takes_several, takes_values, values_or_missing, walk, walk_from, walked, word_met}
use Rattle.clap.specs.Simple.{App, Shape, argument_words, built, is_simple}
use Rattle.clap.specs.Takes.{values_pass, count_passes, set_passes, action_passes, use_passes, settle_passes, react_passes, option_passes, long_passes, short_passes, bundle_step_passes, flags_pass, bundle_passes, flag_word_passes, other_passes, word_passes, positional_passes, step_passes, turn_passes, walk_passes, default_passes, is_given, is_valid, level_passes, takes}
use Rattle.clap.specs.Faults.{values_fault, count_fault, repeat_fault, set_fault, action_fault, use_fault, settle_fault, react_fault, option_fault, long_fault, short_fault, bundle_step_fault, flags_fault, bundle_fault, flag_word_fault, other_fault, word_fault, positional_fault, stray_fault, step_fault, turn_fault, walk_fault, defaults_fault, check_fault, level_fault, fault_of}
use Rattle.clap.specs.declared.builder.action.ArgAction.{ArgAction}
use Rattle.clap.specs.declared.builder.action.ArgAction.TheVariants as action
use Rattle.clap.specs.declared.builder.value_parser.ValueParser.{ValueParser}
use Rattle.clap.specs.declared.error.kind.ErrorKind.{ErrorKind}
use Rattle.clap.proofs.WalkLemmas.{both}
use Rattle.clap.proofs.TakesLemmas.{leaf_takes}
use Rattle.clap.proofs.FaultLemmas.{leaf_fault}

-- ---- no fault of two steps is none of each

or_none : (a b : Kinds) → or_else a b ≡ [] → (a ≡ []) × (b ≡ [])
or_none [] b h = (refl, h)
or_none (k ∷ ks) b h = absurd (omega (arith, ap length h))

passed : (b : Bool) (k : ErrorKind) → cond b [] (k ∷ []) ≡ [] → b ≡ true
passed true k h = refl
passed false k h = absurd (omega (arith, ap length h))

failed : (b : Bool) (k : ErrorKind) (ks : Kinds) → cond b (k ∷ ks) [] ≡ [] → b ≡ false
failed true k ks h = absurd (omega (arith, ap length h))
failed false k ks h = refl

-- the first only beside the second
implied : (x y : Bool) → (x && not y) ≡ false → (not x || y) ≡ true
implied true true e = refl
implied true false e = sym e
implied false y e = refl

-- a step that is passed over, or passes
unless : (b passes : Bool) (fault : Kinds) → (fault ≡ [] → passes ≡ true) → cond b [] fault ≡ [] → (b || passes) ≡ true
unless true passes fault step h = refl
unless false passes fault step h = step h

if_some : {X : Type 0} (fault : X → Kinds) (passes : X → Bool) (o : Option X) → ((x : X) → fault x ≡ [] → passes x ≡ true) → option_map_or fault o [] ≡ []
    → option_map_or passes o true ≡ true
if_some fault passes None each h = refl
if_some fault passes (Some x) each h = each x h

-- ---- one use of an argument

values_none : (ignore_case : Bool) (parser : ValueParser) (vs : List Text) → values_kinds ignore_case parser vs ≡ [] → list_all (accepts ignore_case parser) vs ≡ true
values_none ignore_case parser [] h = refl
values_none ignore_case parser (v ∷ vs) h =
    let each = or_none (cond (accepts ignore_case parser v) [] (refused_kind parser ∷ [])) (values_kinds ignore_case parser vs) h in
    and_from (accepts ignore_case parser v) (list_all (accepts ignore_case parser) vs) (passed (accepts ignore_case parser v) (refused_kind parser) each.0)
    (values_none ignore_case parser vs each.1)

range_none : (least most n : ℕ) → range_kinds least most n ≡ [] → (leb least n ≡ true) × (leb n most ≡ true)
range_none least most n h = by (ltb 0 least && eqb n 0) (eqb least most) (eqb least n) (ltb n least) (ltb most n) _ _ _ _ refl refl refl refl h
  where
    by : (x y z u v : Bool) (j k l m : ErrorKind) → eqb least most ≡ y → eqb least n ≡ z → ltb n least ≡ u → ltb most n ≡ v
        → cond x (j ∷ []) (cond y (cond z [] (k ∷ [])) (cond u (l ∷ []) (cond v (m ∷ []) []))) ≡ [] → (leb least n ≡ true) × (leb n most ≡ true)
    by true y z u v j k l m p q r s e = absurd (omega (arith, ap length e))
    by false true true u v j k l m p q r s e = (grind (arith, nat_tests), grind (arith, nat_tests))
    by false true false u v j k l m p q r s e = absurd (omega (arith, ap length e))
    by false false z true v j k l m p q r s e = absurd (omega (arith, ap length e))
    by false false z false true j k l m p q r s e = absurd (omega (arith, ap length e))
    by false false z false false j k l m p q r s e = (grind (arith, nat_tests), grind (arith, nat_tests))

count_none : (a : Rule) (vs : List Text) (rows : List Row) → count_fault a vs rows ≡ [] → count_passes a vs rows ≡ true
count_none a [] rows h = passed (accepts a.ignore_case (parser_of_value a.parser) (count_text (min (count_of a.id rows + 1) 255))) (refused_kind (parser_of_value a.parser)) h
count_none a (v ∷ vs) rows h = values_none a.ignore_case (parser_of_value a.parser) (v ∷ vs) h

set_none : (again : Bool) (a : Rule) (vs : List Text) (rows : List Row) → set_fault again a vs rows ≡ [] → set_passes again a vs rows ≡ true
set_none again a vs rows h =
    let each = or_none (repeat_fault again a.id rows) (values_fault a vs) h in
    and_from (not (has_row a.id rows) || again) (values_pass a vs) (implied (has_row a.id rows) again (failed (has_row a.id rows && not again) _ [] each.0))
    (values_none a.ignore_case (parser_of_value a.parser) vs each.1)

action_none : (x : ArgAction) (again : Bool) (a : Rule) (vs : List Text) (rows : List Row) → action_fault x again a vs rows ≡ [] → action_passes x again a vs rows ≡ true
action_none action.Set again a vs rows h = set_none again a vs rows h
action_none action.SetTrue again a vs rows h = set_none again a vs rows h
action_none action.SetFalse again a vs rows h = set_none again a vs rows h
action_none action.Append again a vs rows h = values_none a.ignore_case (parser_of_value a.parser) vs h
action_none action.Count again a vs rows h = count_none a vs rows h
action_none action.Help again a vs rows h = absurd (omega (arith, ap length h))
action_none action.HelpShort again a vs rows h = absurd (omega (arith, ap length h))
action_none action.HelpLong again a vs rows h = absurd (omega (arith, ap length h))
action_none action.Version again a vs rows h = absurd (omega (arith, ap length h))

use_none : (again : Bool) (a : Rule) (vs : List Text) (rows : List Row) → use_fault again a vs rows ≡ [] → use_passes again a vs rows ≡ true
use_none again a vs rows h =
    let least = (unwrap_or_range a.range).start_inclusive in
    let given = values_or_missing a vs in
    let each = or_none (range_kinds least (most_values a) (length vs)) (action_fault (action_of a) again a given rows) h in
    let range = range_none least (most_values a) (length vs) each.0 in
    and_from (leb least (length vs)) (leb (length vs) (most_values a) && action_passes (action_of a) again a given rows) range.0
    (and_from (leb (length vs) (most_values a)) (action_passes (action_of a) again a given rows) range.1 (action_none (action_of a) again a given rows each.1))

-- ---- one word

settle_none : (c : List Rule) (again : Bool) (h : Held) → settle_fault c again h ≡ [] → settle_passes c again h ≡ true
settle_none c again h e =
    if_some (λ p. option_map_or (λ a. use_fault again a p.1 h.rows) (arg_by_id c p.0) []) (λ p. option_map_or (λ a. use_passes again a p.1 h.rows) (arg_by_id c p.0) true) h.pending
    (λ p. if_some (λ a. use_fault again a p.1 h.rows) (λ a. use_passes again a p.1 h.rows) (arg_by_id c p.0) (λ a. use_none again a p.1 h.rows)) e

react_none : (c : List Rule) (again : Bool) (a : Rule) (vs : List Text) (h : Held) → react_fault c again a vs h ≡ [] → react_passes c again a vs h ≡ true
react_none c again a vs h e =
    let each = or_none (settle_fault c again h) (use_fault again a vs (settled c h).rows) e in
    and_from (settle_passes c again h) (use_passes again a vs (settled c h).rows) (settle_none c again h each.0) (use_none again a vs (settled c h).rows each.1)

option_none : (c : List Rule) (again : Bool) (a : Rule) (v : Option Text) (h : Held) → option_fault c again a v h ≡ [] → option_passes c again a v h ≡ true
option_none c again a (Some v) h e = react_none c again a (v ∷ []) h e
option_none c again a None h e = settle_none c again h e

long_none : (c : List Rule) (again : Bool) (o : Option Rule) (v : Option Text) (h : Held) → long_fault c again o v h ≡ [] → long_passes c again o v h ≡ true
long_none c again None v h e = absurd (omega (arith, ap length e))
long_none c again (Some a) v h e =
    by (takes_values a) (is_some v) _ (option_fault c again a v h) (react_fault c again a [] h) (option_passes c again a v h) (react_passes c again a [] h)
    (option_none c again a v h) (react_none c again a [] h) e
  where
    by : (takes has : Bool) (k : ErrorKind) (x y : Kinds) (p q : Bool) → (x ≡ [] → p ≡ true) → (y ≡ [] → q ≡ true) → cond takes x (cond has (k ∷ []) y) ≡ []
        → cond takes p (not has && q) ≡ true
    by true has k x y p q one other e = one e
    by false true k x y p q one other e = absurd (omega (arith, ap length e))
    by false false k x y p q one other e = other e

short_none : (c : List Rule) (again : Bool) (o : Option Rule) (rest : Text) (h : Held) (fault : Held → Kinds) (passes : Held → Bool) → ((x : Held) → fault x ≡ [] → passes x ≡ true)
    → short_fault c again o rest h fault ≡ [] → short_passes c again o rest h passes ≡ true
short_none c again None rest h fault passes each e = absurd (omega (arith, ap length e))
short_none c again (Some a) rest h fault passes each e =
    by (takes_values a) (option_fault c again a (attached_value rest) h) (or_else (react_fault c again a [] h) (fault (reacted c a [] h)))
    (option_passes c again a (attached_value rest) h) (react_passes c again a [] h && passes (reacted c a [] h)) (option_none c again a (attached_value rest) h)
    (λ none.
    let steps = or_none (react_fault c again a [] h) (fault (reacted c a [] h)) none in
    and_from (react_passes c again a [] h) (passes (reacted c a [] h)) (react_none c again a [] h steps.0) (each (reacted c a [] h) steps.1)) e
  where
    by : (takes : Bool) (x y : Kinds) (p q : Bool) → (x ≡ [] → p ≡ true) → (y ≡ [] → q ≡ true) → cond takes x y ≡ [] → cond takes p q ≡ true
    by true x y p q one other e = one e
    by false x y p q one other e = other e

bundle_step_none : (c : List Rule) (again : Bool) (o : Option ℕ) (flags : Text) (skip : ℕ) (h : Held) (fault : Text → ℕ → Held → Kinds) (passes : Text → ℕ → Held → Bool)
    → ((t : Text) (n : ℕ) (x : Held) → fault t n x ≡ [] → passes t n x ≡ true) → bundle_step_fault c again o flags skip h fault ≡ []
    → bundle_step_passes c again o flags skip h passes ≡ true
bundle_step_none c again None flags skip h fault passes each e = refl
bundle_step_none c again (Some x) flags zero h fault passes each e =
    let rest = drop (length (encode_utf8 x)) flags in
    short_none c again (arg_by_short c x) rest h (fault rest 0) (passes rest 0) (each rest 0) e
bundle_step_none c again (Some x) flags (suc skip) h fault passes each e = each (drop (length (encode_utf8 x)) flags) skip h e

flags_none : (c : List Rule) (again : Bool) (k : ℕ) (flags : Text) (skip : ℕ) (h : Held) → flags_fault c again k flags skip h ≡ [] → flags_pass c again k flags skip h ≡ true
unfolding flags_fault flags_pass
flags_none c again zero flags skip h e = refl
flags_none c again (suc k) flags skip h e =
    bundle_step_none c again (slice_get (chars flags) 0) flags skip h (flags_fault c again k) (flags_pass c again k) (λ t n x. flags_none c again k t n x) e

flag_word_none : (c : List Rule) (again : Bool) (o : Option (Text × Option Text)) (word : Text) (h : Held) → flag_word_fault c again o word h ≡ [] → flag_word_passes c again o word h ≡ true
flag_word_none c again (Some p) word h e = long_none c again (arg_by_long c p.0) p.1 h e
flag_word_none c again None word h e =
    if_some (λ flags. bundle_fault c again flags h) (λ flags. bundle_passes c again flags h) (short_of word)
    (λ flags. flags_none c again (length flags) flags h.skip (record h { skip = 0 })) e

other_none : (s : Shape) (o : Option Text) (word : Text) (h : Held) → other_fault s o word h ≡ [] → other_passes s o word h ≡ true
other_none s (Some name) word h e = implied (bytes_eq name (codes "help")) s.disable_help_subcommand (failed (bytes_eq name (codes "help") && not s.disable_help_subcommand) _ _ e)
other_none s None word h e =
    unless (bytes_eq word (45 ∷ 45 ∷ [])) (flag_word_passes s.rules s.args_override_self (long_of word) word h) (flag_word_fault s.rules s.args_override_self (long_of word) word h)
    (flag_word_none s.rules s.args_override_self (long_of word) word h) e

word_none : (s : Shape) (names : Names) (is_trailing : Bool) (waiting : Waiting) (word : Text) (h : Held) → word_fault s names is_trailing waiting word h ≡ []
    → word_passes s names is_trailing waiting word h ≡ true
word_none s names is_trailing waiting word h e =
    unless is_trailing (other_passes s (subcommand_met names waiting word) word h) (other_fault s (subcommand_met names waiting word) word h)
    (other_none s (subcommand_met names waiting word) word h) e

positional_none : (c : List Rule) (again : Bool) (a : Rule) (h : Held) → positional_fault c again a h ≡ [] → positional_passes c again a h ≡ true
positional_none c again a h e =
    unless (is_pending a h.pending && takes_several a) (settle_passes c again h) (settle_fault c again h) (settle_none c again h) e

step_none : (s : Shape) (position : ℕ) (h : Held) (step : Step) → step_fault s position h step ≡ [] → step_passes s position h step ≡ true
step_none s position h (next waiting) e = refl
step_none s position h (trailing place) e = refl
step_none s position h (subcommand name) e = refl
step_none s position h value e = by (arg_by_index s.rules position) e
  where
    stray : (b : Bool) (j k l : ErrorKind) → cond b (j ∷ []) (k ∷ l ∷ []) ≡ [] → false ≡ true
    stray true j k l none = absurd (omega (arith, ap length none))
    stray false j k l none = absurd (omega (arith, ap length none))

    by : (o : Option Rule) → option_map_or (λ a. positional_fault s.rules s.args_override_self a h) o (stray_fault s) ≡ []
        → option_map_or (λ a. positional_passes s.rules s.args_override_self a h) o false ≡ true
    by (Some a) none = positional_none s.rules s.args_override_self a h none
    by None none = stray s.is_leaf _ _ _ none

turn_none : (s : Shape) (names : Names) (w : Walk) (word : Text) → turn_fault s names w word ≡ [] → turn_passes s names w word ≡ true
turn_none s names w word e =
    let met = word_met s.rules names w.is_trailing w.waiting w.position word w.held in
    let word_faults = word_fault s names w.is_trailing w.waiting word w.held in
    let word_goes = word_passes s names w.is_trailing w.waiting word w.held in
    unless (is_some w.stopped) (word_goes && step_passes s w.position met.0 met.1) (or_else word_faults (step_fault s w.position met.0 met.1))
    (λ none.
    let steps = or_none word_faults (step_fault s w.position met.0 met.1) none in
    and_from word_goes (step_passes s w.position met.0 met.1) (word_none s names w.is_trailing w.waiting word w.held steps.0)
    (step_none s w.position met.0 met.1 steps.1)) e

-- ---- all words, and what comes behind them

walk_none : (s : Shape) (names : Names) (w : Walk) (words : List Text) → walk_fault s names w words ≡ [] → walk_passes s names w words ≡ true
unfolding walk_fault walk_passes
walk_none s names w [] e = refl
walk_none s names w (word ∷ rest) e =
    let each = or_none (turn_fault s names w word) (walk_fault s names (walked s.rules names w word) rest) e in
    and_from (turn_passes s names w word) (walk_passes s names (walked s.rules names w word) rest) (turn_none s names w word each.0)
    (walk_none s names (walked s.rules names w word) rest each.1)

no_defaults : (rules : List Rule) → list_all (λ a. is_empty a.defaults) rules ≡ true → list_all default_passes rules ≡ true
no_defaults [] h = refl
no_defaults (a ∷ rules) h =
    let each = both (is_empty a.defaults) (list_all (λ r. is_empty r.defaults) rules) h in
    and_from (default_passes a) (list_all default_passes rules) (ap (λ b. b || (not (is_request (action_of a)) && values_pass a a.defaults)) each.0) (no_defaults rules each.1)

check_none : (x y z : Bool) → check_kinds x y z ≡ [] → (x ≡ false) × (y ≡ false) × (z ≡ false)
check_none true y z h = absurd (omega (arith, ap length h))
check_none false true z h = absurd (omega (arith, ap length h))
check_none false false true h = absurd (omega (arith, ap length h))
check_none false false false h = (refl, refl, refl)

all_given : (p q : Rule → Bool) (rules : List Rule) → list_any (λ a. p a && not (q a)) rules ≡ false → list_all (λ a. not (p a) || q a) rules ≡ true
all_given p q [] h = refl
all_given p q (a ∷ rules) h = by (p a) (q a) (all_given p q rules) h
  where
    by : (x y : Bool) → (list_any (λ r. p r && not (q r)) rules ≡ false → list_all (λ r. not (p r) || q r) rules ≡ true)
        → ((x && not y) || list_any (λ r. p r && not (q r)) rules) ≡ false → ((not x || y) && list_all (λ r. not (p r) || q r) rules) ≡ true
    by true true rest e = rest e
    by true false rest e = sym e
    by false y rest e = rest e

valid_none : (s : Shape) (rows : List Row) → list_all (λ a. a.is_free) s.rules ≡ true → check_fault s rows false ≡ [] → is_valid s rows false ≡ true
valid_none s rows free e =
    let given = list_any (λ (r : Row). explicit_source r.source) rows in
    let missing = list_any (λ a. a.required && not (is_given a.id rows)) s.rules in
    let each = check_none (s.arg_required_else_help && not given) s.subcommand_required (not (s.subcommand_negates_reqs && false) && missing) e in
    by s.arg_required_else_help given s.subcommand_required s.subcommand_negates_reqs missing _ _ each.0 each.1 each.2 free
    (all_given (λ a. a.required) (λ a. is_given a.id rows) s.rules)
  where
    by : (help given wants negates missing free all : Bool) → (help && not given) ≡ false → wants ≡ false → (not (negates && false) && missing) ≡ false → free ≡ true
        → (missing ≡ false → all ≡ true) → ((not help || (false || given)) && ((not wants || false) && (free && ((negates && false) || all)))) ≡ true
    by help given wants negates missing free all p q r f each = grind arith

level_none : (s : Shape) (h : Held) (words : List Text) → list_all (λ a. is_empty a.defaults) s.rules ≡ true → list_all (λ a. a.is_free) s.rules ≡ true
    → level_fault s [] h words false [] ≡ [] → level_passes s [] h words false ≡ true
level_none s h words plain free e =
    let end = (walk s.rules [] h words).held in
    let again = s.args_override_self in
    let checks = check_fault s (finished s.rules end) false in
    let defaults = defaults_fault (settled s.rules end).rows s.rules in
    let first = or_none (walk_fault s [] (walk_from h) words) (or_else (settle_fault s.rules again end) (or_else defaults checks)) e in
    let second = or_none (settle_fault s.rules again end) (or_else defaults checks) first.1 in
    let third = or_none defaults checks second.1 in
    and_from (walk_passes s [] (walk_from h) words) _ (walk_none s [] (walk_from h) words first.0)
    (and_from (settle_passes s.rules again end) _ (settle_none s.rules again end second.0)
    (and_from (list_all default_passes s.rules) (is_valid s (finished s.rules end) false) (no_defaults s.rules plain) (valid_none s (finished s.rules end) free third.1)))

-- a simple command with no subcommand, no rule on another argument and no default
pub takes_faultless : (a : App) (words : List Text) → is_simple a ≡ true → (built a).subs ≡ [] → list_all (λ r. is_empty r.defaults) (built a).top.rules ≡ true
    → list_all (λ r. r.is_free) (built a).top.rules ≡ true → fault_of a words ≡ [] → takes a words ≡ true
takes_faultless a words simple alone plain free none =
    let given = argument_words a words in
    and_from (is_simple a) _ simple
    (leaf_takes (built a) nothing_held given alone (level_none (built a).top nothing_held given plain free (sym (leaf_fault (built a) nothing_held given alone) ∙ none)))
