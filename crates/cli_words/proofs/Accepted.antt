-- What a simple command finds for an argument, where it refuses nothing, are values that passed the argument's parser: the walk
-- over the words adds values only by uses, and a use of no value, or of values that do not pass, is refused. So an argument that is
-- given has such a value.
use Rattle.std.proofs.Common.{◌≡◌, ◌∙◌, ◌&&◌, ◌||◌, ℕ, Bool, cond, true, false, zero, suc, refl, sym, ap, ap₂, subst, arith, List, [], ◌∷◌, ◌++◌, Option, Some}
use Rattle.std.proofs.Common.{◌⊎◌, inl, inr, true≢false}
use Rattle.std.proofs.Common.{None}
use Rattle.std.proofs.lemmas.Bool.{eqb-true}
use Rattle.std.proofs.lemmas.Slice.Eq.{bytes_eq-Decides}
use Rattle.std.specs.Prelude.{find, fold, slice_get, drop, length, encode_utf8, is_some, nat_lt}
use Rattle.std.specs.Option.{option_map_or, option_and_then}
use Rattle.std.specs.Str.{bytes_eq, chars}
use Rattle.clap.specs.Lexer.{long_of, short_of}
use Rattle.clap.specs.Facts.{explicit_source, parser_of_value, unwrap_or_range}
use Rattle.clap.specs.Values.{reading_of}
use Rattle.clap.specs.ValueTests.{accepts}
use Rattle.clap.specs.Kinds.{Kinds, or_else, range_kinds, value_kinds, values_kinds}
use Rattle.clap.specs.Simple.{Shape}
use Rattle.clap.specs.Faults.{action_fault, use_fault, settle_fault, react_fault, option_fault, long_fault, short_fault, bundle_step_fault, flags_fault}
use Rattle.clap.specs.Faults.{bundle_fault, flag_word_fault, other_fault, word_fault, positional_fault, step_fault, turn_fault, walk_fault, default_fault}
use Rattle.clap.specs.Faults.{check_fault, defaults_fault, given_default_fault, level_fault}
use Rattle.clap.specs.Walk.{Held, Names, Outcome, Row, Rule, Step, Text, Waiting, Walk, idle, option, positional, done, waits, plain, refused, next, trailing}
use Rattle.clap.specs.Walk.{subcommand, value, action_of, after_flag, after_step, arg_by_id, arg_by_index, arg_by_long, arg_by_short, at_row, attached_value}
use Rattle.clap.specs.Takes.{is_given}
use Rattle.clap.specs.Walk.{bundle_met, bundle_step, default_rows, finished, flag_met, has_row, is_empty, is_pending, long_met, long_or_other, more_values}
use Rattle.clap.specs.Walk.{first_of, most_values}
use Rattle.clap.specs.Walk.{option_met, option_word, plain_word, reacted, reading_by, settled, settled_rows, short_met, short_or_plain, subcommand_met}
use Rattle.clap.specs.Walk.{subcommand_or_other, takes_several, takes_values, to_positional, used, used_as, used_by_id, values_or_missing, walk, walk_from}
use Rattle.clap.specs.Walk.{walked, walked_from, with_default, with_values, without, word_met}
use Rattle.clap.specs.declared.builder.action.ArgAction.{ArgAction}
use Rattle.clap.specs.declared.builder.action.ArgAction.TheVariants.{Set, SetTrue}
use Rattle.clap.specs.declared.builder.value_parser.Reading.{Reading}
use Rattle.clap.specs.declared.builder.value_parser.ValueParser.{ValueParser}
use Rattle.clap.specs.declared.error.kind.ErrorKind.{ErrorKind}
use Rattle.clap.specs.declared.error.kind.ErrorKind.TheVariants.{InvalidValue, TooManyValues}
use Rattle.clap.specs.declared.parser.matches.ValueSource.{ValueSource}
use Rattle.clap.specs.declared.parser.matches.ValueSource.TheVariants.{CommandLine, DefaultValue}

pub both_empty : (a b : Kinds) → or_else a b ≡ [] → (a ≡ []) × (b ≡ [])
both_empty [] b e = (refl, e)
both_empty (k ∷ ks) b e = cc

some_is : {x a : Rule} → ◌≡◌ {A = Option Rule} (Some x) (Some a) → x ≡ a
some_is e = cc

passed : (b : Bool) (k : ErrorKind) → cond b [] (k ∷ []) ≡ [] → b ≡ true
passed true k e = refl
passed false k e = cc

-- of the argument with this id and this parser
module _ (id : Text) (q : ValueParser) where
  abbrev pub EachPasses : List Text → Type 0
  EachPasses [] = Unit {0}
  EachPasses (v ∷ vs) = (accepts false q v ≡ true) × EachPasses vs

  abbrev HasValue : List Text → Type 0
  HasValue [] = ⊥
  HasValue (v ∷ vs) = Unit {0}

  -- there is a value, and each passes
  abbrev pub ArePassed : List Text → Type 0
  ArePassed vs = HasValue vs × EachPasses vs

  -- a row of the argument has values that passed, and is read as the parser says
  pub record Fit (r : Row) : Type 0 where
    pub values : bytes_eq r.id id ≡ true → ArePassed r.values
    pub reading : bytes_eq r.id id ≡ true → r.reading ≡ reading_of q

  abbrev pub AllFit : List Row → Type 0
  AllFit [] = Unit {0}
  AllFit (r ∷ rs) = Fit r × AllFit rs

  -- a rule sets its values, or is a flag's, and the argument's has the parser and wants a value
  pub record IsGood (a : Rule) : Type 0 where
    pub sets : (action_of a ≡ Set) ⊎ (action_of a ≡ SetTrue)
    pub parser : bytes_eq a.id id ≡ true → parser_of_value a.parser ≡ q
    pub case_counts : bytes_eq a.id id ≡ true → a.ignore_case ≡ false
    pub wants_value : bytes_eq a.id id ≡ true → nat_lt 0 (unwrap_or_range a.range).start_inclusive ≡ true

  abbrev pub AllGood : List Rule → Type 0
  AllGood [] = Unit {0}
  AllGood (a ∷ rest) = IsGood a × AllGood rest

  -- ---- values and rows

  passing : (vs : List Text) → values_kinds false q vs ≡ [] → EachPasses vs
  passing [] e = tt
  passing (v ∷ vs) e =
      let parts = both_empty (value_kinds false q v) (values_kinds false q vs) e in
      (passed (accepts false q v) _ parts.0, passing vs parts.1)

  append_passing : (vs ws : List Text) → EachPasses vs → EachPasses ws → EachPasses (vs ++ ws)
  append_passing [] ws h k = k
  append_passing (v ∷ vs) ws h k = (h.0, append_passing vs ws h.1 k)

  append_passed : (vs ws : List Text) → ArePassed vs → ArePassed ws → ArePassed (vs ++ ws)
  append_passed [] ws h k = k
  append_passed (v ∷ vs) ws h k = (tt, append_passing (v ∷ vs) ws h.1 k.1)

  append_fit : (rs ts : List Row) → AllFit rs → AllFit ts → AllFit (rs ++ ts)
  append_fit [] ts h k = k
  append_fit (r ∷ rs) ts h k = (h.0, append_fit rs ts h.1 k)

  at_row_fit : (key : Text) (change : Row → List Row) (missing rows : List Row) → ((r : Row) → bytes_eq r.id key ≡ true → Fit r → AllFit (change r)) →
      AllFit missing → AllFit rows → AllFit (at_row key change missing rows)
  at_row_fit key change missing [] changes fresh h = fresh
  at_row_fit key change missing (r ∷ rs) changes fresh h = go (bytes_eq r.id key) refl (at_row_fit key change missing rs changes fresh h.1)
    where
      go : (b : Bool) → bytes_eq r.id key ≡ b → AllFit (at_row key change missing rs) → AllFit (cond b (change r ++ rs) (r ∷ at_row key change missing rs))
      go true e rest = append_fit (change r) rs (changes r e h.0) h.1
      go false e rest = (h.0, rest)

  without_fit : (key : Text) (rows : List Row) → AllFit rows → AllFit (without key rows)
  without_fit key rows h = at_row_fit key (λ _. []) [] rows (λ r e k. tt) tt h

  key_is : (r key : Text) → bytes_eq r key ≡ true → bytes_eq r id ≡ true → bytes_eq key id ≡ true
  key_is r key same is = (bytes_eq-Decides key id).1 (sym ((bytes_eq-Decides r key).0 same) ∙ (bytes_eq-Decides r id).0 is)

  with_values_fit : (key : Text) (how : Reading) (s : ValueSource) (vs : List Text) (rows : List Row) → (bytes_eq key id ≡ true → ArePassed vs) →
      (bytes_eq key id ≡ true → how ≡ reading_of q) → AllFit rows → AllFit (with_values key how s vs rows)
  with_values_fit key how s vs rows passes reads h =
      at_row_fit key (more_values s vs) _ rows
      (λ r same fit. (record { values = λ is. append_passed r.values vs (fit.values is) (passes (key_is r.id key same is)); reading = fit.reading }, tt))
      (record { values = passes; reading = reads }, tt) h

  good_values : (a : Rule) → IsGood a → (vs : List Text) → (bytes_eq a.id id ≡ true → HasValue vs) →
      values_kinds a.ignore_case (parser_of_value a.parser) vs ≡ [] → bytes_eq a.id id ≡ true → ArePassed vs
  good_values a g vs some e is =
      (some is, passing vs (sym (ap₂ (λ (b : Bool) (p : ValueParser). values_kinds b p vs) (g.case_counts is) (g.parser is)) ∙ e))

  no_value : (wants : Bool) (otherwise : Kinds) → wants ≡ true → cond (wants && true) (InvalidValue ∷ []) otherwise ≡ [] → ⊥
  no_value true otherwise is e = cc
  no_value false otherwise is e = cc

  -- a use that is in the range has a value
  used_value : (a : Rule) → IsGood a → (vs : List Text) →
      range_kinds (unwrap_or_range a.range).start_inclusive (most_values a) (length vs) ≡ [] → bytes_eq a.id id ≡ true → HasValue (values_or_missing a vs)
  used_value a g [] e is = absurd (no_value (nat_lt 0 (unwrap_or_range a.range).start_inclusive) _ (g.wants_value is) e)
  used_value a g (v ∷ vs) e is = tt

  good_reading : (a : Rule) → IsGood a → bytes_eq a.id id ≡ true → reading_by a ≡ reading_of q
  good_reading a g is = ap reading_of (g.parser is)

  used_as_fit : (again : Bool) (a : Rule) → IsGood a → (vs : List Text) (rows : List Row) → (bytes_eq a.id id ≡ true → HasValue vs) →
      action_fault Set again a vs rows ≡ [] → AllFit rows → AllFit (used_as Set a.id (reading_by a) vs rows)
  used_as_fit again a g vs rows some e h =
      with_values_fit a.id (reading_by a) CommandLine vs (without a.id rows) (good_values a g vs some (both_empty _ _ e).1) (good_reading a g)
      (without_fit a.id rows h)

  -- by an action that is known
  used_by_action : (again : Bool) (a : Rule) (vs : List Text) (rows : List Row) (x : ArgAction) → action_of a ≡ x →
      (action_fault x again a vs rows ≡ [] → AllFit (used_as x a.id (reading_by a) vs rows)) → action_fault (action_of a) again a vs rows ≡ [] →
      AllFit (used_as (action_of a) a.id (reading_by a) vs rows)
  used_by_action again a vs rows x is fits e =
      subst (λ (y : ArgAction). AllFit (used_as y a.id (reading_by a) vs rows)) (sym is)
      (fits (subst (λ (y : ArgAction). action_fault y again a vs rows ≡ []) is e))

  used_fit : (again : Bool) (a : Rule) → IsGood a → (vs : List Text) (rows : List Row) → use_fault again a vs rows ≡ [] → AllFit rows → AllFit (used a vs rows)
  used_fit again a g vs rows e h =
      let parts = both_empty _ _ e in
      let all = values_or_missing a vs in
      let some = used_value a g vs parts.0 in
      elim g.sets [
        | inl is ↦ used_by_action again a all rows Set is (λ f. used_as_fit again a g all rows some f h) parts.1
        | inr is ↦ used_by_action again a all rows SetTrue is (λ f. used_as_fit again a g all rows some f h) parts.1
      ]

  -- ---- one word

  found_good : (test : Rule → Bool) (c : List Rule) → AllGood c → (a : Rule) → find test c ≡ Some a → IsGood a
  found_good test [] g a e = cc
  found_good test (x ∷ xs) g a e = go (test x) e (found_good test xs g.1 a)
    where
      go : (b : Bool) → cond b (Some x) (find test xs) ≡ Some a → (find test xs ≡ Some a → IsGood a) → IsGood a
      go true here later = subst IsGood (some_is here) g.0
      go false there later = later there

  -- where an argument is found, it is a good one
  abbrev GoodIfFound : Option Rule → Type 0
  GoodIfFound o = (a : Rule) → o ≡ Some a → IsGood a

  module _ (c : List Rule) (good : AllGood c) (again : Bool) where
    used_by_id_fit : (o : Option Rule) → GoodIfFound o → (vs : List Text) (rows : List Row) → option_map_or (λ a. use_fault again a vs rows) o [] ≡ [] →
        AllFit rows → AllFit (used_by_id o vs rows)
    used_by_id_fit None g vs rows e h = h
    used_by_id_fit (Some a) g vs rows e h = used_fit again a (g a refl) vs rows e h

    settled_fit : (h : Held) → settle_fault c again h ≡ [] → AllFit h.rows → AllFit (settled c h).rows
    settled_fit h e k = go h.pending e
      where
        go : (p : Option (Text × List Text)) → option_map_or (λ p. option_map_or (λ a. use_fault again a p.1 h.rows) (arg_by_id c p.0) []) p [] ≡ [] →
            AllFit (settled_rows c p h.rows)
        go None e = k
        go (Some p) e = used_by_id_fit (arg_by_id c p.0) (found_good _ c good) p.1 h.rows e k

    reacted_fit : (a : Rule) → IsGood a → (vs : List Text) (h : Held) → react_fault c again a vs h ≡ [] → AllFit h.rows → AllFit (reacted c a vs h).rows
    reacted_fit a g vs h e k =
        let parts = both_empty (settle_fault c again h) _ e in
        used_fit again a g vs (settled c h).rows parts.1 (settled_fit h parts.0 k)

    option_fit : (a : Rule) → IsGood a → (v : Option Text) (h : Held) → option_fault c again a v h ≡ [] → AllFit h.rows → AllFit (option_met c a v h).0.rows
    option_fit a g (Some v) h e k = reacted_fit a g (v ∷ []) h e k
    option_fit a g None h e k = settled_fit h e k

    flag_fit : (a : Rule) → IsGood a → (v : Option Text) (h : Held) (k : ErrorKind) → cond (is_some v) (k ∷ []) (react_fault c again a [] h) ≡ [] →
        AllFit h.rows →
        AllFit (flag_met c a v h).0.rows
    flag_fit a g (Some v) h k e fit = fit
    flag_fit a g None h k e fit = reacted_fit a g [] h e fit

    long_fit : (o : Option Rule) → GoodIfFound o → (v : Option Text) (h : Held) → long_fault c again o v h ≡ [] → AllFit h.rows →
        AllFit (long_met c o v h).0.rows
    long_fit None g v h e k = k
    long_fit (Some a) g v h e k = go (takes_values a) e
      where
        go : (b : Bool) → cond b (option_fault c again a v h) (cond (is_some v) (TooManyValues ∷ []) (react_fault c again a [] h)) ≡ [] →
            AllFit (cond b (option_met c a v h) (flag_met c a v h)).0.rows
        go true e = option_fit a (g a refl) v h e k
        go false e = flag_fit a (g a refl) v h TooManyValues e k

    -- what may follow in a bundle of flags keeps rows fit
    abbrev KeepsFit : (Text → ℕ → Held → Kinds) → (Text → ℕ → Outcome → Held → Held × Outcome) → Type 0
    KeepsFit fault met = (flags : Text) (skip : ℕ) (so_far : Outcome) (h : Held) → fault flags skip h ≡ [] → AllFit h.rows →
        AllFit (met flags skip so_far h).0.rows

    short_fit : (o : Option Rule) → GoodIfFound o → (rest : Text) (h : Held) (fault : Held → Kinds) (met : Held → Held × Outcome) →
        ((h : Held) → fault h ≡ [] → AllFit h.rows → AllFit (met h).0.rows) → short_fault c again o rest h fault ≡ [] → AllFit h.rows →
        AllFit (short_met c o rest h met).0.rows
    short_fit None g rest h fault met keeps e k = k
    short_fit (Some a) g rest h fault met keeps e k = go (takes_values a) e
      where
        go : (b : Bool) → cond b (option_fault c again a (attached_value rest) h) (or_else (react_fault c again a [] h) (fault (reacted c a [] h))) ≡ [] →
            AllFit (cond b (option_met c a (attached_value rest) h) (met (reacted c a [] h))).0.rows
        go true e = option_fit a (g a refl) (attached_value rest) h e k
        go false e =
            let parts = both_empty (react_fault c again a [] h) _ e in
            keeps (reacted c a [] h) parts.1 (reacted_fit a (g a refl) [] h parts.0 k)

    bundle_step_fit : (o : Option ℕ) (flags : Text) (skip : ℕ) (so_far : Outcome) (h : Held) (fault : Text → ℕ → Held → Kinds)
        (met : Text → ℕ → Outcome → Held → Held × Outcome) → KeepsFit fault met → bundle_step_fault c again o flags skip h fault ≡ [] → AllFit h.rows →
        AllFit (bundle_step c o flags skip so_far h met).0.rows
    bundle_step_fit None flags skip so_far h fault met keeps e k = k
    bundle_step_fit (Some x) flags zero so_far h fault met keeps e k =
        let rest = drop (length (encode_utf8 x)) flags in
        short_fit (arg_by_short c x) (found_good _ c good) rest h (fault rest 0) (met rest 0 done) (keeps rest 0 done) e k
    bundle_step_fit (Some x) flags (suc skip) so_far h fault met keeps e k = keeps _ skip so_far h e k

    flags_fit : (n : ℕ) → KeepsFit (flags_fault c again n) (bundle_met c n)
    unfolding flags_fault bundle_met
    flags_fit zero flags skip so_far h e k = k
    flags_fit (suc n) flags skip so_far h e k =
        bundle_step_fit (slice_get (chars flags) 0) flags skip so_far h (flags_fault c again n) (bundle_met c n) (flags_fit n) e k

    option_word_fit : (o : Option Rule) (name word : Text) (h : Held) → AllFit h.rows → AllFit (option_word o name word h).0.rows
    option_word_fit None name word h k = k
    option_word_fit (Some a) name word h k = k

    plain_word_fit : (waiting : Waiting) (word : Text) (h : Held) → AllFit h.rows → AllFit (plain_word c waiting word h).0.rows
    plain_word_fit idle word h k = k
    plain_word_fit (option name) word h k = option_word_fit (arg_by_id c name) name word h k
    plain_word_fit positional word h k = k

    after_flag_fit : (waiting : Waiting) (word : Text) (h : Held) (o : Outcome) → AllFit h.rows → AllFit (after_flag c waiting word h o).0.rows
    after_flag_fit waiting word h done k = k
    after_flag_fit waiting word h (waits name) k = k
    after_flag_fit waiting word h plain k = plain_word_fit waiting word h k
    after_flag_fit waiting word h refused k = plain_word_fit waiting word h k

    short_word_fit : (waiting : Waiting) (word : Text) (o : Option Text) (h : Held) → option_map_or (λ flags. bundle_fault c again flags h) o [] ≡ [] →
        AllFit h.rows →
        AllFit (short_or_plain c waiting word o h).0.rows
    short_word_fit waiting word None h e k = plain_word_fit waiting word h k
    short_word_fit waiting word (Some flags) h e k =
        after_flag_fit waiting word _ _ (flags_fit (length flags) flags h.skip plain (record h { skip = 0 }) e k)

    flag_word_fit : (waiting : Waiting) (word : Text) (o : Option (Text × Option Text)) (h : Held) → flag_word_fault c again o word h ≡ [] → AllFit h.rows →
        AllFit (long_or_other c waiting word o h).0.rows
    flag_word_fit waiting word (Some p) h e k = after_flag_fit waiting word _ _ (long_fit (arg_by_long c p.0) (found_good _ c good) p.1 h e k)
    flag_word_fit waiting word None h e k = short_word_fit waiting word (short_of word) h e k

  -- ---- the walk

  module _ (s : Shape) (good : AllGood s.rules) (names : Names) where
    other_fit : (o : Option Text) (waiting : Waiting) (position : ℕ) (word : Text) (h : Held) → other_fault s o word h ≡ [] → AllFit h.rows →
        AllFit (subcommand_or_other s.rules o waiting position word h).0.rows
    other_fit (Some name) waiting position word h e k = k
    other_fit None waiting position word h e k = go (bytes_eq word (45 ∷ 45 ∷ [])) e
      where
        go : (b : Bool) → cond b [] (flag_word_fault s.rules s.args_override_self (long_of word) word h) ≡ [] →
            AllFit (cond b (h, trailing position) (long_or_other s.rules waiting word (long_of word) h)).0.rows
        go true e = k
        go false e = flag_word_fit s.rules good s.args_override_self waiting word (long_of word) h e k

    word_fit : (is_trailing : Bool) (waiting : Waiting) (position : ℕ) (word : Text) (h : Held) → word_fault s names is_trailing waiting word h ≡ [] →
        AllFit h.rows →
        AllFit (word_met s.rules names is_trailing waiting position word h).0.rows
    word_fit true waiting position word h e k = k
    word_fit false waiting position word h e k = other_fit (subcommand_met names waiting word) waiting position word h e k

    positional_fit : (o : Option Rule) (stray : Kinds) (word : Text) (w : Walk) (h : Held) →
        option_map_or (λ a. positional_fault s.rules s.args_override_self a h) o stray ≡ [] →
        AllFit h.rows → AllFit (to_positional s.rules o word w h).held.rows
    positional_fit None stray word w h e k = k
    positional_fit (Some a) stray word w h e k = go (is_pending a h.pending && takes_several a) e
      where
        go : (b : Bool) → cond b [] (settle_fault s.rules s.args_override_self h) ≡ [] → AllFit (cond b h (settled s.rules h)).rows
        go true e = k
        go false e = settled_fit s.rules good s.args_override_self h e k

    step_fit : (word : Text) (w : Walk) (h : Held) (step : Step) → step_fault s w.position h step ≡ [] → AllFit h.rows →
        AllFit (after_step s.rules word w h step).held.rows
    step_fit word w h (next waiting) e k = k
    step_fit word w h (trailing position) e k = k
    step_fit word w h (subcommand name) e k = k
    step_fit word w h value e k = positional_fit (arg_by_index s.rules w.position) _ word w h e k

    walked_fit : (w : Walk) (word : Text) → turn_fault s names w word ≡ [] → AllFit w.held.rows → AllFit (walked s.rules names w word).held.rows
    unfolding walked
    walked_fit w word e k = go w.stopped e
      where
        go : (stop : Option (Text × List Text)) →
            cond (is_some stop) [] (or_else (word_fault s names w.is_trailing w.waiting word w.held)
            (step_fault s w.position (word_met s.rules names w.is_trailing w.waiting w.position word w.held).0
            (word_met s.rules names w.is_trailing w.waiting w.position word w.held).1)) ≡ [] →
            AllFit (walked_from s.rules names stop w word).held.rows
        go (Some p) e = k
        go None e =
            let parts = both_empty (word_fault s names w.is_trailing w.waiting word w.held) _ e in
            step_fit word w _ _ parts.1 (word_fit w.is_trailing w.waiting w.position word w.held parts.0 k)

    walk_fit : (w : Walk) (words : List Text) → walk_fault s names w words ≡ [] → AllFit w.held.rows → AllFit (fold (walked s.rules names) w words).held.rows
    unfolding walk_fault
    walk_fit w [] e k = k
    walk_fit w (word ∷ words) e k =
        let parts = both_empty (turn_fault s names w word) _ e in
        walk_fit (walked s.rules names w word) words parts.1 (walked_fit w word parts.0 k)

  -- ---- after the walk

  default_rows_fit : (a : Rule) → IsGood a → (vs : List Text) (rows : List Row) → values_kinds a.ignore_case (parser_of_value a.parser) vs ≡ [] → AllFit rows →
      AllFit (default_rows a.id (reading_by a) vs rows)
  default_rows_fit a g [] rows e k = k
  default_rows_fit a g (v ∷ vs) rows e k =
      with_values_fit a.id (reading_by a) DefaultValue (v ∷ vs) rows (good_values a g (v ∷ vs) (λ _. tt) e) (good_reading a g) k

  with_default_fit : (rows : List Row) (a : Rule) → IsGood a → default_fault rows a ≡ [] → AllFit rows → AllFit (with_default rows a)
  with_default_fit rows a g e k = go (has_row a.id rows) e
    where
      given : (vs : List Text) (b : Bool) → is_empty vs ≡ b → cond b [] (given_default_fault a vs) ≡ [] → AllFit (default_rows a.id (reading_by a) vs rows)
      given [] b is e = k
      given (v ∷ vs) true is e =
          let none : length (v ∷ vs) ≡ 0 = eqb-true (length (v ∷ vs)) 0 is in
          absurd (omega arith)
      given (v ∷ vs) false is e = default_rows_fit a g (v ∷ vs) rows (both_empty _ _ e).1 k

      go : (b : Bool) → cond (b || is_empty a.defaults) [] (given_default_fault a a.defaults) ≡ [] →
          AllFit (cond b rows (default_rows a.id (reading_by a) a.defaults rows))
      go true e = k
      go false e = given a.defaults (is_empty a.defaults) refl e

  defaults_fit : (rows : List Row) (c : List Rule) → AllGood c → defaults_fault rows c ≡ [] → AllFit rows → AllFit (fold with_default rows c)
  unfolding defaults_fault
  defaults_fit rows [] g e k = k
  defaults_fit rows (a ∷ rest) g e k =
      let parts = both_empty (default_fault rows a) _ e in
      defaults_fit (with_default rows a) rest g.1 parts.1 (with_default_fit rows a g.0 parts.0 k)

  -- where a level refuses nothing, its rows fit
  pub level_fit : (s : Shape) → AllGood s.rules → (names : Names) (h : Held) (words : List Text) (has_subcommand : Bool) (below : Kinds) →
      level_fault s names h words has_subcommand below ≡ [] → AllFit h.rows → AllFit (finished s.rules (walk s.rules names h words).held)
  level_fit s good names h words has_subcommand below e k =
      let end = (walk s.rules names h words).held in
      let after_walk = both_empty (walk_fault s names (walk_from h) words) _ e in
      let after_below = both_empty below _ after_walk.1 in
      let after_settling = both_empty (settle_fault s.rules s.args_override_self end) _ after_below.1 in
      let after_defaults = both_empty (defaults_fault (settled s.rules end).rows s.rules) _ after_settling.1 in
      defaults_fit (settled s.rules end).rows s.rules good after_defaults.0
      (settled_fit s.rules good s.args_override_self end after_settling.0 (walk_fit s good names (walk_from h) words after_walk.0 k))

  -- ---- an argument that is given

  -- the value that is found passed
  pub record Passed (found : Option Text) : Type 0 where
    pub value : Text
    pub is : found ≡ Some value
    pub passes : accepts false q value ≡ true

  first_passed : (vs : List Text) → ArePassed vs → Passed (slice_get vs 0)
  first_passed [] h = absurd h.0
  first_passed (v ∷ vs) h = record { value = v; is = refl; passes = h.1.0 }

  pub given_passed : (rows : List Row) → AllFit rows → is_given id rows ≡ true → Passed (first_of id rows)
  given_passed [] fit e = cc
  given_passed (r ∷ rows) fit e = go (bytes_eq r.id id) refl e (given_passed rows fit.1)
    where
      go : (b : Bool) → bytes_eq r.id id ≡ b →
          option_map_or (λ (x : Row). explicit_source x.source) (cond b (Some r) (find (λ (x : Row). bytes_eq x.id id) rows)) false ≡ true →
          (is_given id rows ≡ true → Passed (first_of id rows)) →
          Passed (option_and_then (λ (x : Row). slice_get x.values 0) (cond b (Some r) (find (λ (x : Row). bytes_eq x.id id) rows)))
      go true is given later = first_passed r.values (fit.0.values is)
      go false is given later = later given

-- where a level refuses nothing, nothing that is required is missing
pub level_checked : (s : Shape) (names : Names) (h : Held) (words : List Text) (has_subcommand : Bool) (below : Kinds) →
    level_fault s names h words has_subcommand below ≡ [] → check_fault s (finished s.rules (walk s.rules names h words).held) has_subcommand ≡ []
level_checked s names h words has_subcommand below e =
    let end = (walk s.rules names h words).held in
    let after_walk = both_empty (walk_fault s names (walk_from h) words) _ e in
    let after_below = both_empty below _ after_walk.1 in
    let after_settling = both_empty (settle_fault s.rules s.args_override_self end) _ after_below.1 in
    (both_empty (defaults_fault (settled s.rules end).rows s.rules) _ after_settling.1).1

-- ---- arguments that are good

-- each argument sets its values, or is a flag, and the one that is looked for has its parser
pub another : (id : Text) (q : ValueParser) (a : Rule) → (action_of a ≡ Set) ⊎ (action_of a ≡ SetTrue) → bytes_eq a.id id ≡ false → IsGood id q a
another id q a sets other = record {
  sets = sets;
  parser = λ e. absurd (true≢false (sym e ∙ other));
  case_counts = λ e. absurd (true≢false (sym e ∙ other));
  wants_value = λ e. absurd (true≢false (sym e ∙ other));
}

pub its_own : (id : Text) (q : ValueParser) (a : Rule) → action_of a ≡ Set → parser_of_value a.parser ≡ q → a.ignore_case ≡ false →
    nat_lt 0 (unwrap_or_range a.range).start_inclusive ≡ true → IsGood id q a
its_own id q a sets parser case_counts wants =
    record { sets = inl sets; parser = λ e. parser; case_counts = λ e. case_counts; wants_value = λ e. wants }
