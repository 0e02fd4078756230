-- Where the command refuses nothing, a mode is named: its argument is required, and takes only the names of modes.
use Rattle.std.proofs.Common.{◌≡◌, ◌∙◌, ◌&&◌, ◌||◌, not, Bool, true, false, refl, sym, subst, ap, inl, inr, codes, List, [], ◌∷◌, Option, Some}
use Rattle.std.proofs.lemmas.Slice.Eq.{bytes_eq-Decides}
use Rattle.std.specs.Borrow.{Bor}
use Rattle.std.specs.List.{list_any}
use Rattle.std.specs.Option.{option_and_then}
use Rattle.std.specs.Str.{bytes_eq}
use Rattle.clap.specs.Faults.{check_fault, fault_of}
use Rattle.clap.specs.Kinds.{check_kinds}
use Rattle.clap.specs.Simple.{argument_words, built, matches_of, names_of}
use Rattle.clap.specs.Takes.{is_given}
use Rattle.clap.specs.ValueTests.{accepts}
use Rattle.clap.specs.Walk.{Row, Text, first_of, nothing_held}
use Rattle.clap.specs.declared.builder.value_parser.ValueParser.TheVariants as vp
use Rattle.clap.proofs.OnLiterals.{clap_on_literals}
use Rattle.clap.proofs.WalkLemmas.{list_any-map}
use Rattle.cli_words.specs.declared.mode.Mode.{Mode}
use Rattle.cli_words.specs.declared.mode.Mode.TheVariants.{Play, Run, Big, Check, Points, Large, Messages, Groups, Draw, OneNode}
use Rattle.cli_words.specs.declared.modes.Options.{Options}
use Rattle.cli_words.specs.Command.{AreModes, command_of, mode_named, mode_names, mode_of, options_of, trace_mode}
use Rattle.cli_words.proofs.Accepted.{AllGood, Passed, another, given_passed, its_own, level_checked, level_fit}
use Rattle.cli_words.proofs.Steps.{and, top}

-- the argument of the mode has the names as its parser, and each argument sets its value
rules_good : (names : Bor (List (Bor Text))) → AllGood (codes "mode") (vp.Names names) (top names).rules
unfolding clap_on_literals
rules_good names = (
  its_own _ _ _ refl refl refl refl,
  (
    another _ _ _ (inl refl) refl,
    (
      another _ _ _ (inl refl) refl,
      (
        another _ _ _ (inl refl) refl,
        (another _ _ _ (inl refl) refl, (another _ _ _ (inl refl) refl, (another _ _ _ (inl refl) refl, (another _ _ _ (inr refl) refl, tt)))),
      ),
    ),
  ),
)

-- the mode alone is required
checked : (names : Bor (List (Bor Text))) (rows : List Row) (has_subcommand : Bool) → check_fault (top names) rows has_subcommand ≡ [] →
    is_given (codes "mode") rows ≡ true
unfolding clap_on_literals
checked names rows has_subcommand e = go has_subcommand (is_given (codes "mode") rows) e
  where
    go : (b given : Bool) → check_kinds (not b && false) (not b && false) (not given || false) ≡ [] → given ≡ true
    go b true e = refl
    go true false e = cc
    go false false e = cc

-- ---- each name is that of a mode

abbrev IsNamed : Options → Text → Type 0
IsNamed options name = (mode : Mode) × (mode_named options name ≡ Some mode)

abbrev EachIsNamed : Options → List Text → Type 0
EachIsNamed options [] = Unit {0}
EachIsNamed options (name ∷ names) = IsNamed options name × EachIsNamed options names

each_is_named : (options : Options) → EachIsNamed options mode_names
each_is_named options =
    and (Play, refl) (and (Run, refl) (and (Big options.nodes options.seed, refl) (and (trace_mode options.threads, refl) (and (Check, refl)
    (and (Points options.room, refl) (and (Large options.nodes options.seed options.size, refl) (and (Messages, refl) (and (Groups, refl)
    (and (Draw options.from options.entries, refl) (and (OneNode, refl) tt))))))))))

one_is_named : (options : Options) (names : List Text) (name : Text) → EachIsNamed options names → list_any (λ (t : Text). bytes_eq t name) names ≡ true →
    IsNamed options name
one_is_named options [] name each e = cc
one_is_named options (t ∷ names) name each e = by (bytes_eq t name) refl e (one_is_named options names name each.1)
  where
    by : (b : Bool) → bytes_eq t name ≡ b → (b || list_any (λ (s : Text). bytes_eq s name) names) ≡ true →
        (list_any (λ (s : Text). bytes_eq s name) names ≡ true → IsNamed options name) → IsNamed options name
    by true is e later = subst (IsNamed options) ((bytes_eq-Decides t name).0 is) each.0
    by false is e later = later e

-- each name that the parser takes is that of a mode
accepted_names : (names : Bor (List (Bor Text))) → AreModes names → (options : Options) (name : Text) → accepts false (vp.Names names) name ≡ true →
    IsNamed options name
accepted_names names modes options name e =
    one_is_named options mode_names name (each_is_named options)
    (sym (list_any-map (λ (t : Text). bytes_eq t name) (λ (t : Bor Text). t.now) names.now ∙ ap (list_any (λ (t : Text). bytes_eq t name)) modes) ∙ e)

found_mode : (names : Bor (List (Bor Text))) → AreModes names → (options : Options) (found : Option Text) → Passed (codes "mode") (vp.Names names) found →
    (mode : Mode) × (option_and_then (mode_named options) found ≡ Some mode)
found_mode names modes options found p =
    let named = accepted_names names modes options p.value p.passes in
    (named.0, ap (option_and_then (mode_named options)) p.is ∙ named.1)

pub some_mode_of : (names : Bor (List (Bor Text))) → AreModes names → (words : List Text) → fault_of (command_of names) words ≡ [] →
    (mode : Mode) × (mode_of (matches_of (command_of names) words) ≡ Some mode)
some_mode_of names modes words e =
    let rows = matches_of (command_of names) words in
    let fit = level_fit (codes "mode") (vp.Names names) (top names) (rules_good names) (names_of (built (command_of names))) nothing_held
    (argument_words (command_of names) words) _ _ e tt in
    let given = checked names rows _ (level_checked (top names) (names_of (built (command_of names))) nothing_held
    (argument_words (command_of names) words) _ _ e) in
    found_mode names modes (options_of rows) (first_of (codes "mode") rows) (given_passed (codes "mode") (vp.Names names) rows fit given)
