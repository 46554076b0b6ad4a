-- What a walk over a command line keeps of the rows, if no word fails, and that it stops at no `help`.
use Rattle.std.proofs.Common.{◌≡◌, ℕ, Bool, true, false, zero, suc, List, [], ◌∷◌, Option, Some, None, IfSome, refl, ap, codes, length, drop, arith, find, slice_get, encode_utf8, is_some, ◌&&◌, if◌then◌else◌, fold, bytes_eq, chars}
use Rattle.std.specs.Prelude.{⊤}
use Rattle.std.specs.Option.{option_map_or}
use Rattle.clap.specs.Lexer.{long_of, short_of}
use Rattle.clap.specs.Kinds.{Kinds, or_else}
use Rattle.clap.specs.Walk.{Held, Names, Outcome, Row, Rule, Step, Text, Waiting, Walk, after_flag, after_step, arg_by_id, arg_by_index, arg_by_long, arg_by_short, attached_value, bundle, bundle_met, bundle_step, done, finished, flag_met, idle, is_pending, long_met, long_or_other, next, nothing_held}
use Rattle.clap.specs.Walk.{option, option_met, option_word, plain, plain_word, positional, reacted, refused, settled, settled_rows, short_met, short_or_plain, subcommand, subcommand_met, subcommand_or_other, takes_several, takes_values, to_positional, trailing, used, used_by_id, value, waits, walk, walk_from, walked, walked_from, word_met}
use Rattle.clap.specs.Faults.{bundle_fault, bundle_step_fault, check_fault, defaults_fault, flag_word_fault, flags_fault, level_fault, long_fault, option_fault, other_fault, positional_fault, react_fault, settle_fault, short_fault, step_fault, stray_fault, turn_fault, use_fault, walk_fault, word_fault}
use Rattle.clap.specs.Simple.{Shape}
use Rattle.clap.specs.declared.error.kind.ErrorKind.{ErrorKind}
use Rattle.clap.specs.declared.error.kind.ErrorKind.TheVariants as kind

pub not_none : (k : ErrorKind) (ks : Kinds) → k ∷ ks ≡ [] → ⊥
not_none k ks e = let bad : suc (length ks) ≡ 0 = ap length e in absurd (omega arith)

pub both_empty : (a b : Kinds) → or_else a b ≡ [] → (a ≡ []) × (b ≡ [])
both_empty [] b e = (refl, e)
both_empty (k ∷ ks) b e = absurd (not_none k ks e)

-- the rule is one that a search in the list finds
abbrev pub Found : List Rule → Rule → Type 0
Found c a = (p : Rule → Bool) × (find p c ≡ Some a)

-- a use that doesn't fail keeps P
abbrev pub Keeps : List Rule → Bool → (List Row → Type 0) → Type 0
Keeps c again P = (a : Rule) (values : List Text) (rows : List Row) → Found c a → use_fault again a values rows ≡ [] → P rows → P (used a values rows)

-- the name isn't `help`, if the command has that subcommand
abbrev pub IsOther : Shape → Text → Type 0
IsOther s name = s.disable_help_subcommand ≡ false → bytes_eq name (codes "help") ≡ false

-- no `help` is entered at this step
abbrev Enters : Shape → Step → Type 0
Enters s (subcommand name) = IsOther s name
Enters s _ = ⊤

-- a walk that stopped did so at no `help`
abbrev Stops : Shape → Option (Text × List Text) → Type 0
Stops s stop = IfSome stop (λ p. IsOther s p.0)

module _ (s : Shape) (P : List Row → Type 0) (keeps : Keeps s.rules s.args_override_self P) where
  -- what a word keeps, and what a walk has kept
  abbrev Met : Held × Step → Type 0
  Met m = P m.0.rows × Enters s m.1

  abbrev Stays : Walk → Type 0
  Stays w = P w.held.rows × Stops s w.stopped

  settles_by : (o : Option Rule) (id : Text) → arg_by_id s.rules id ≡ o → (values : List Text) (rows : List Row)
      → option_map_or (λ a. use_fault s.args_override_self a values rows) o [] ≡ [] → P rows → P (used_by_id o values rows)
  settles_by None id is values rows e p = p
  settles_by (Some a) id is values rows e p = keeps a values rows ((λ b. bytes_eq b.id id), is) e p

  settles_rows : (pending : Option (Text × List Text)) (rows : List Row) (skip : ℕ)
      → settle_fault s.rules s.args_override_self (record { rows = rows; pending = pending; skip = skip }) ≡ [] → P rows → P (settled_rows s.rules pending rows)
  settles_rows None rows skip e p = p
  settles_rows (Some q) rows skip e p = settles_by (arg_by_id s.rules q.0) q.0 refl q.1 rows e p

  settles : (h : Held) → settle_fault s.rules s.args_override_self h ≡ [] → P h.rows → P (settled s.rules h).rows
  settles h e p = settles_rows h.pending h.rows h.skip e p

  reacts : (a : Rule) → Found s.rules a → (values : List Text) (h : Held) → react_fault s.rules s.args_override_self a values h ≡ [] → P h.rows → P (reacted s.rules a values h).rows
  reacts a found values h e p =
      let parts = both_empty (settle_fault s.rules s.args_override_self h) (use_fault s.args_override_self a values (settled s.rules h).rows) e in
      keeps a values (settled s.rules h).rows found parts.1 (settles h parts.0 p)

  options : (a : Rule) → Found s.rules a → (v : Option Text) (h : Held) → option_fault s.rules s.args_override_self a v h ≡ [] → P h.rows → P (option_met s.rules a v h).0.rows
  options a found (Some v) h e p = reacts a found (v ∷ []) h e p
  options a found None h e p = settles h e p

  flag_or_option : (b : Bool) (a : Rule) → Found s.rules a → (v : Option Text) (h : Held)
      → (if b then option_fault s.rules s.args_override_self a v h else (if is_some v then kind.TooManyValues ∷ [] else react_fault s.rules s.args_override_self a [] h)) ≡ []
      → P h.rows → P (if b then option_met s.rules a v h else flag_met s.rules a v h).0.rows
  flag_or_option true a found v h e p = options a found v h e p
  flag_or_option false a found (Some v) h e p = p
  flag_or_option false a found None h e p = reacts a found [] h e p

  longs : (o : Option Rule) (p : Rule → Bool) → find p s.rules ≡ o → (v : Option Text) (h : Held) → long_fault s.rules s.args_override_self o v h ≡ []
      → P h.rows → P (long_met s.rules o v h).0.rows
  longs None test is v h e p = p
  longs (Some a) test is v h e p = flag_or_option (takes_values a) a (test, is) v h e p

  short_or_option : (b : Bool) (k : ℕ) (rest : Text) (a : Rule) → Found s.rules a → (h : Held)
      → ((so_far : Outcome) (h : Held) → flags_fault s.rules s.args_override_self k rest 0 h ≡ [] → P h.rows → P (bundle_met s.rules k rest 0 so_far h).0.rows)
      → (if b then option_fault s.rules s.args_override_self a (attached_value rest) h else or_else (react_fault s.rules s.args_override_self a [] h) (flags_fault s.rules s.args_override_self k rest 0 (reacted s.rules a [] h))) ≡ []
      → P h.rows → P (if b then option_met s.rules a (attached_value rest) h else bundle_met s.rules k rest 0 done (reacted s.rules a [] h)).0.rows
  short_or_option true k rest a found h others e p = options a found (attached_value rest) h e p
  short_or_option false k rest a found h others e p =
      let parts = both_empty (react_fault s.rules s.args_override_self a [] h) (flags_fault s.rules s.args_override_self k rest 0 (reacted s.rules a [] h)) e in
      others done (reacted s.rules a [] h) parts.1 (reacts a found [] h parts.0 p)

  shorts : (o : Option Rule) (k : ℕ) (rest : Text) (test : Rule → Bool) → find test s.rules ≡ o → (h : Held)
      → ((so_far : Outcome) (h : Held) → flags_fault s.rules s.args_override_self k rest 0 h ≡ [] → P h.rows → P (bundle_met s.rules k rest 0 so_far h).0.rows)
      → short_fault s.rules s.args_override_self o rest h (flags_fault s.rules s.args_override_self k rest 0) ≡ []
      → P h.rows → P (short_met s.rules o rest h (bundle_met s.rules k rest 0 done)).0.rows
  shorts None k rest test is h others e p = p
  shorts (Some a) k rest test is h others e p = short_or_option (takes_values a) k rest a (test, is) h others e p

  bundle_steps : (o : Option ℕ) (k : ℕ) (flags : Text) (skip : ℕ) (so_far : Outcome) (h : Held)
      → ((flags : Text) (skip : ℕ) (so_far : Outcome) (h : Held) → flags_fault s.rules s.args_override_self k flags skip h ≡ [] → P h.rows → P (bundle_met s.rules k flags skip so_far h).0.rows)
      → bundle_step_fault s.rules s.args_override_self o flags skip h (flags_fault s.rules s.args_override_self k) ≡ []
      → P h.rows → P (bundle_step s.rules o flags skip so_far h (bundle_met s.rules k)).0.rows
  bundle_steps None k flags skip so_far h others e p = p
  bundle_steps (Some x) k flags zero so_far h others e p =
      let rest = drop (length (encode_utf8 x)) flags in
      shorts (arg_by_short s.rules x) k rest _ refl h (others rest 0) e p
  bundle_steps (Some x) k flags (suc skip) so_far h others e p = others (drop (length (encode_utf8 x)) flags) skip so_far h e p

  bundles : (k : ℕ) (flags : Text) (skip : ℕ) (so_far : Outcome) (h : Held) → flags_fault s.rules s.args_override_self k flags skip h ≡ [] → P h.rows → P (bundle_met s.rules k flags skip so_far h).0.rows
  unfolding flags_fault bundle_met
  bundles zero flags skip so_far h e p = p
  bundles (suc k) flags skip so_far h e p = bundle_steps (slice_get (chars flags) 0) k flags skip so_far h (bundles k) e p

  plain_option : (o : Option Rule) (id word : Text) (h : Held) → P h.rows → P (option_word o id word h).0.rows
  plain_option None id word h p = p
  plain_option (Some a) id word h p = p

  plains : (waiting : Waiting) (word : Text) (h : Held) → P h.rows → Met (plain_word s.rules waiting word h)
  plains (option id) word h p = (plain_option (arg_by_id s.rules id) id word h p, tt)
  plains idle word h p = (p, tt)
  plains positional word h p = (p, tt)

  after_flags : (out : Outcome) (waiting : Waiting) (word : Text) (h : Held) → P h.rows → Met (after_flag s.rules waiting word h out)
  after_flags done waiting word h p = (p, tt)
  after_flags (waits id) waiting word h p = (p, tt)
  after_flags plain waiting word h p = plains waiting word h p
  after_flags refused waiting word h p = plains waiting word h p

  short_words : (o : Option Text) (waiting : Waiting) (word : Text) (h : Held) → option_map_or (λ flags. bundle_fault s.rules s.args_override_self flags h) o [] ≡ []
      → P h.rows → Met (short_or_plain s.rules waiting word o h)
  short_words None waiting word h e p = plains waiting word h p
  short_words (Some flags) waiting word h e p =
      after_flags (bundle s.rules flags h).1 waiting word (bundle s.rules flags h).0 (bundles (length flags) flags h.skip plain (record h { skip = 0 }) e p)

  flag_words : (o : Option (Text × Option Text)) (waiting : Waiting) (word : Text) (h : Held) → flag_word_fault s.rules s.args_override_self o word h ≡ []
      → P h.rows → Met (long_or_other s.rules waiting word o h)
  flag_words (Some q) waiting word h e p =
      let met = long_met s.rules (arg_by_long s.rules q.0) q.1 h in
      after_flags met.1 waiting word met.0 (longs (arg_by_long s.rules q.0) _ refl q.1 h e p)
  flag_words None waiting word h e p = short_words (short_of word) waiting word h e p

  not_dashes : (b : Bool) (waiting : Waiting) (position : ℕ) (word : Text) (h : Held)
      → (if b then [] else flag_word_fault s.rules s.args_override_self (long_of word) word h) ≡ []
      → P h.rows → Met (if b then (h, trailing position) else long_or_other s.rules waiting word (long_of word) h)
  not_dashes true waiting position word h e p = (p, tt)
  not_dashes false waiting position word h e p = flag_words (long_of word) waiting word h e p

  sub_or_others : (o : Option Text) (waiting : Waiting) (position : ℕ) (word : Text) (h : Held) → other_fault s o word h ≡ []
      → P h.rows → Met (subcommand_or_other s.rules o waiting position word h)
  sub_or_others (Some name) waiting position word h e p = (p, λ enabled. grind (arith, e, enabled))
  sub_or_others None waiting position word h e p = not_dashes (bytes_eq word (45 ∷ 45 ∷ [])) waiting position word h e p

  words_met : (is_trailing : Bool) (names : Names) (waiting : Waiting) (position : ℕ) (word : Text) (h : Held) → word_fault s names is_trailing waiting word h ≡ []
      → P h.rows → Met (word_met s.rules names is_trailing waiting position word h)
  words_met true names waiting position word h e p = (p, tt)
  words_met false names waiting position word h e p = sub_or_others (subcommand_met names waiting word) waiting position word h e p

  positional_rows : (b : Bool) (h : Held) → (if b then [] else settle_fault s.rules s.args_override_self h) ≡ [] → P h.rows → P (if b then h else settled s.rules h).rows
  positional_rows true h e p = p
  positional_rows false h e p = settles h e p

  to_positionals : (o : Option Rule) (word : Text) (w : Walk) (h : Held) → option_map_or (λ a. positional_fault s.rules s.args_override_self a h) o (stray_fault s) ≡ []
      → P h.rows → Stops s w.stopped → Stays (to_positional s.rules o word w h)
  to_positionals None word w h e p stops = (p, stops)
  to_positionals (Some a) word w h e p stops = (positional_rows (is_pending a h.pending && takes_several a) h e p, tt)

  after_steps : (step : Step) (word : Text) (w : Walk) (h : Held) → step_fault s w.position h step ≡ [] → Met (h, step) → Stops s w.stopped → Stays (after_step s.rules word w h step)
  after_steps value word w h e met stops = to_positionals (arg_by_index s.rules w.position) word w h e met.0 stops
  after_steps (subcommand name) word w h e met stops = met
  after_steps (next waiting) word w h e met stops = (met.0, stops)
  after_steps (trailing position) word w h e met stops = (met.0, stops)

  turns_from : (stopped : Option (Text × List Text)) (names : Names) (w : Walk) (word : Text)
      → (let met = word_met s.rules names w.is_trailing w.waiting w.position word w.held in
      if is_some stopped then [] else or_else (word_fault s names w.is_trailing w.waiting word w.held) (step_fault s w.position met.0 met.1)) ≡ []
      → Stops s stopped → Stays w → Stays (walked_from s.rules names stopped w word)
  turns_from (Some q) names w word e at stays = (stays.0, at)
  turns_from None names w word e at stays =
      let met = word_met s.rules names w.is_trailing w.waiting w.position word w.held in
      let parts = both_empty (word_fault s names w.is_trailing w.waiting word w.held) (step_fault s w.position met.0 met.1) e in
      after_steps met.1 word w met.0 parts.1 (words_met w.is_trailing names w.waiting w.position word w.held parts.0 stays.0) stays.1

  turns : (names : Names) (w : Walk) (word : Text) → turn_fault s names w word ≡ [] → Stays w → Stays (walked s.rules names w word)
  unfolding walked
  turns names w word e stays = turns_from w.stopped names w word e stays.1 stays

  walks : (names : Names) (w : Walk) (words : List Text) → walk_fault s names w words ≡ [] → Stays w → Stays (fold (walked s.rules names) w words)
  unfolding walk_fault
  walks names w [] e stays = stays
  walks names w (word ∷ rest) e stays =
      let parts = both_empty (turn_fault s names w word) (walk_fault s names (walked s.rules names w word) rest) e in
      walks names (walked s.rules names w word) rest parts.1 (turns names w word parts.0 stays)

  -- a level that doesn't fail keeps P up to its defaults and stops at no `help`, and nothing below it or at its end fails
  pub level_keeps : (names : Names) (words : List Text) (has_subcommand : Bool) (below : Kinds) → level_fault s names nothing_held words has_subcommand below ≡ [] → P []
      → (let end = walk s.rules names nothing_held words in
      P (settled s.rules end.held).rows × Stops s end.stopped × (below ≡ []) × (check_fault s (finished s.rules end.held) has_subcommand ≡ []))
  level_keeps names words has_subcommand below e p =
      let end = (walk s.rules names nothing_held words).held in
      let walked_all = both_empty (walk_fault s names (walk_from nothing_held) words) _ e in
      let under = both_empty below _ walked_all.1 in
      let settled_all = both_empty (settle_fault s.rules s.args_override_self end) _ under.1 in
      let kept = walks names (walk_from nothing_held) words walked_all.0 (p, tt) in
      (settles end settled_all.0 kept.0, kept.1, under.0, (both_empty (defaults_fault (settled s.rules end).rows s.rules) _ settled_all.1).1)
