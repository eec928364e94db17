-- Plain words after a command's name are its files.
use Rattle.std.proofs.Common.{◌≡◌, ◌==◌, ◌++◌, ℕ, List, [], ◌∷◌, Option, Some, None, false, true}
use Rattle.std.proofs.Common.{refl, codes, ap, ap₂, ◌∙◌}
use Rattle.std.specs.Prelude.{fold, if◌then◌else◌, option_and_then, option_map, unwrap_or, slice_get}
use Rattle.clap.proofs.OnLiterals.{clap_on_literals}
use Rattle.clap.specs.Words.{Kinds, Rule, Shape, Text, built}
use Rattle.clap.specs.Walk.{after_step, Held, Walk, arg_by_index, finished}
use Rattle.clap.specs.Walk.{idle, nothing_held, settled, to_positional, value, walked, word_met}
use Rattle.clap.specs.Lexer.{short_of, short_of_rest, strip_byte}
use Rattle.clap.specs.Simple.{names_of}
use Rattle.clap.specs.Kinds.{or_else}
use Rattle.clap.specs.Faults.{check_fault, defaults_fault, level_fault, settle_fault, step_fault, turn_fault}
use Rattle.clap.specs.Faults.{walk_fault, word_fault}
use Rattle.wallet_words.specs.Command.{Command, command_of, command_in, if_faultless, options, try_query}
use Rattle.wallet_words.specs.Count.{count_asked}
use Rattle.wallet_words.specs.Laws.{IsPlain, OptionsAreRead, TryIsRead, after_words, count_words}
use Rattle.wallet_words.specs.Parser.{wallet_parser, try_parser}

-- ---- one plain word

-- between two words, before the file of this place
abbrev at : Held → ℕ → Walk
at h place = record { held = h; waiting = idle; position = place; is_trailing = false; stopped = None }

unstripped : (x : ℕ) (xs : Text) → (x == 45) ≡ false → strip_byte 45 (x ∷ xs) ≡ None
unstripped x xs p = ap (λ b. if b then Some xs else None) p

unshort : (x : ℕ) (xs : Text) → (x == 45) ≡ false → short_of (x ∷ xs) ≡ None
unshort x xs p = ap (option_and_then short_of_rest) (unstripped x xs p)

met : (c : List Rule) (place : ℕ) (word : Text) (h : Held) → IsPlain word
    → word_met c [] false idle place word h ≡ (h, value)
met c place [] h p = refl
met c place (x ∷ xs) h p = rw (p, unshort x xs p) refl

unfaulted : (s : Shape) (word : Text) (h : Held) → IsPlain word → word_fault s [] false idle word h ≡ []
unfaulted s [] h p = refl
unfaulted s (x ∷ xs) h p = rw (p, unshort x xs p) refl

-- where a walk stands after the word
abbrev passed : Shape → ℕ → Text → Held → Walk
passed s place word h = to_positional s.rules (arg_by_index s.rules place) word (at h place) h

step : (s : Shape) (place : ℕ) (word : Text) (h : Held) → IsPlain word
    → walked s.rules [] (at h place) word ≡ passed s place word h
unfolding walked
step s place word h p = ap (λ m. after_step s.rules word (at h place) m.0 m.1) (met s.rules place word h p)

turn : (s : Shape) (place : ℕ) (word : Text) (h : Held) → IsPlain word
    → turn_fault s [] (at h place) word ≡ step_fault s place h value
turn s place word h p =
    ap₂ or_else (unfaulted s word h p) (ap (λ m. step_fault s place m.0 m.1) (met s.rules place word h p))

on : (s : Shape) (place : ℕ) (word : Text) (rest : List Text) (h : Held) → IsPlain word
    → walk_fault s [] (at h place) (word ∷ rest)
    ≡ or_else (step_fault s place h value) (walk_fault s [] (passed s place word h) rest)
unfolding walk_fault
on s place word rest h p =
    ap₂ (λ kinds w. or_else kinds (walk_fault s [] w rest)) (turn s place word h p) (step s place word h p)

-- ---- a command that was named

abbrev shape_at : ℕ → Shape
shape_at i = unwrap_or (slice_get (built wallet_parser).subs i) try_parser.top

-- its faults, by those of the walk over its words and by where this ended
abbrev faults_below : Shape → Kinds → Walk → Kinds
faults_below s kinds end =
    or_else kinds
    (or_else (settle_fault s.rules s.args_override_self end.held)
    (or_else (defaults_fault (settled s.rules end.held).rows s.rules)
    (check_fault s (finished s.rules end.held) false)))

-- the command that all the words are, by the same
abbrev command_by : List Text → Shape → Kinds → Walk → Option Command
command_by words s kinds end =
    let b = built wallet_parser in
    if_faultless (level_fault b.top (names_of b) nothing_held words true (faults_below s kinds end))
    (command_in (Some (s.name, finished s.rules end.held)))

-- after some of its words
abbrev command_from : List Text → Shape → Walk → List Text → Option Command
command_from words s w rest =
    command_by words s (walk_fault s [] w rest) (fold (walked s.rules []) w rest)

-- ---- `try`

abbrev try_shape : Shape
try_shape = shape_at 0

abbrev query_passed : Text → Walk
query_passed q = passed try_shape 1 q nothing_held

abbrev trees_passed : Text → Text → Walk
trees_passed q t = passed try_shape 2 t (query_passed q).held

try_walk : (q t : Text) → IsPlain q → IsPlain t
    → fold (walked try_shape.rules []) (at nothing_held 1) (q ∷ t ∷ []) ≡ trees_passed q t
try_walk q t p r = ap (λ w. walked try_shape.rules [] w t) (step try_shape 1 q nothing_held p)
    ∙ step try_shape 2 t (query_passed q).held r

try_faults : (q t : Text) → IsPlain q → IsPlain t
    → walk_fault try_shape [] (at nothing_held 1) (q ∷ t ∷ []) ≡ walk_fault try_shape [] (trees_passed q t) []
try_faults q t p r = on try_shape 1 q (t ∷ []) nothing_held p ∙ on try_shape 2 t [] (query_passed q).held r

try_named : (q t : Text) → command_of (codes "try" ∷ q ∷ t ∷ [])
    ≡ command_from (codes "try" ∷ q ∷ t ∷ []) try_shape (at nothing_held 1) (q ∷ t ∷ [])
unfolding clap_on_literals command_of
try_named q t = refl

try_ended : (q t : Text)
    → command_from (codes "try" ∷ q ∷ t ∷ []) try_shape (trees_passed q t) [] ≡ Some (try_query q t)
unfolding clap_on_literals
try_ended q t = refl

pub try_is_read : TryIsRead
try_is_read q t p r = try_named q t
    ∙ (ap₂ (command_by (codes "try" ∷ q ∷ t ∷ []) try_shape) (try_faults q t p r) (try_walk q t p r)
    ∙ try_ended q t)

-- ---- `options`

abbrev options_shape : Shape
options_shape = shape_at 1

abbrev request_passed : Text → Walk
request_passed r = passed options_shape 1 r nothing_held

abbrev wallet_passed : Text → Text → Walk
wallet_passed r w = passed options_shape 2 w (request_passed r).held

abbrev clients_passed : Text → Text → Text → Walk
clients_passed r w c = passed options_shape 3 c (wallet_passed r w).held

options_walk : (r w c : Text) (rest : List Text) → IsPlain r → IsPlain w → IsPlain c
    → fold (walked options_shape.rules []) (at nothing_held 1) (r ∷ w ∷ c ∷ rest)
    ≡ fold (walked options_shape.rules []) (clients_passed r w c) rest
options_walk r w c rest p q s =
    ap (λ x. fold (walked options_shape.rules []) x (w ∷ c ∷ rest)) (step options_shape 1 r nothing_held p)
    ∙ (ap (λ x. fold (walked options_shape.rules []) x (c ∷ rest))
    (step options_shape 2 w (request_passed r).held q)
    ∙ ap (λ x. fold (walked options_shape.rules []) x rest)
    (step options_shape 3 c (wallet_passed r w).held s))

options_faults : (r w c : Text) (rest : List Text) → IsPlain r → IsPlain w → IsPlain c
    → walk_fault options_shape [] (at nothing_held 1) (r ∷ w ∷ c ∷ rest)
    ≡ walk_fault options_shape [] (clients_passed r w c) rest
options_faults r w c rest p q s = on options_shape 1 r (w ∷ c ∷ rest) nothing_held p
    ∙ (on options_shape 2 w (c ∷ rest) (request_passed r).held q
    ∙ on options_shape 3 c rest (wallet_passed r w).held s)

abbrev options_words : Text → Text → Text → List Text → List Text
options_words r w c rest = codes "options" ∷ r ∷ w ∷ c ∷ rest

options_passed : (r w c : Text) (rest : List Text) → IsPlain r → IsPlain w → IsPlain c
    → command_from (options_words r w c rest) options_shape (at nothing_held 1) (r ∷ w ∷ c ∷ rest)
    ≡ command_from (options_words r w c rest) options_shape (clients_passed r w c) rest
options_passed r w c rest p q s = ap₂ (command_by (options_words r w c rest) options_shape)
    (options_faults r w c rest p q s) (options_walk r w c rest p q s)

-- what is left of the words after the files
abbrev left : Option Text → Option Text → List Text
left after count = after_words after ++ count_words count

options_named : (r w c : Text) (after count : Option Text)
    → command_of (options_words r w c (left after count))
    ≡ command_from (options_words r w c (left after count)) options_shape (at nothing_held 1)
    (r ∷ w ∷ c ∷ left after count)
unfolding clap_on_literals command_of
options_named r w c None None = refl
options_named r w c None (Some text) = refl
options_named r w c (Some token) None = refl
options_named r w c (Some token) (Some text) = refl

options_ended : (r w c : Text) (after count : Option Text)
    → command_from (options_words r w c (left after count)) options_shape (clients_passed r w c)
    (left after count)
    ≡ option_map (λ n. options r w c after n) (count_asked count)
unfolding clap_on_literals
options_ended r w c None None = refl
options_ended r w c None (Some text) = refl
options_ended r w c (Some token) None = refl
options_ended r w c (Some token) (Some text) = refl

pub options_are_read : OptionsAreRead
options_are_read r w c after count p q s = options_named r w c after count
    ∙ (options_passed r w c (left after count) p q s ∙ options_ended r w c after count)
