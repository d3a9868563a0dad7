-- The options of lines: one table of their names. Public clauses cite this module.
use Rattle.std.specs.Prelude.{◌-◌, ◌^◌, ◌||◌, if◌then◌else◌, codes, nat_eq, ℕ, Bool, true, false, List, [], ◌∷◌, drop}
use Rattle.std.specs.Prelude.{length, is_some, unwrap_or, Option, Some, None, Result, Ok, Err}
use Rattle.std.specs.List.{starts_with}
use Rattle.std.specs.Option.{ok_or}
use Rattle.rx_model.specs.declared.names.Limits.{Limits}
use Rattle.rx_model.specs.declared.wire.TheConstants.{DEFAULT_CONNS, DEFAULT_CALLS, DEFAULT_SLOTS, DEFAULT_WINDOW}
use Rattle.rx_script.specs.declared.fault.LineWhy.{LineWhy}
use Rattle.rx_script.specs.declared.fault.LineWhy.TheVariants.{Word, Number, Twice}
use Rattle.rx_script.specs.declared.limits.TheConstants.{DEFAULT_SERVICE, DEFAULT_FIRST}
use Rattle.rx_script.specs.declared.options.OptionName.{OptionName}
use Rattle.rx_script.specs.declared.options.OptionName.TheVariants as option_names
use Rattle.rx_script.specs.declared.options.Options.{Options}
use Rattle.rx_script.specs.declared.options.TheConstants.{NO_OPTIONS}
use Rattle.rx_script.specs.Numbers.{number_within, key_in}
use Rattle.rx_script.specs.Words.{LineForm, and_then}

-- the text in front of an option's value
abbrev pub option_text : OptionName → List ℕ
option_text option_names.Service = codes "service="
option_text option_names.Conns = codes "conns="
option_text option_names.Calls = codes "calls="
option_text option_names.Slots = codes "slots="
option_text option_names.Window = codes "window="
option_text option_names.Key = codes "key="
option_text option_names.Nonce = codes "nonce="
option_text option_names.First = codes "first="

-- the text of the option's value, if a word is that option
abbrev pub value_text : OptionName → List ℕ → Option (List ℕ)
value_text name word =
    if starts_with nat_eq word (option_text name) then Some (drop (length (option_text name)) word) else None

-- one option with its text, or else what is found among the others
abbrev pub found_or : OptionName → Option (List ℕ) → Option (OptionName × List ℕ) → Option (OptionName × List ℕ)
found_or name None other = other
found_or name (Some text) other = Some (name, text)

-- which of these options a word is, and the text of its value
abbrev pub option_in : List OptionName → List ℕ → Option (OptionName × List ℕ)
option_in [] word = None
option_in (o ∷ os) word = found_or o (value_text o word) (option_in os word)

-- a value that is none is `Number`, and one of an option that was given is `Twice`
abbrev pub once : {A : Type 0} → Option A → Option A → Result A LineWhy
once given value = and_then (ok_or value Number) (λ a. if is_some given then Err Twice else Ok a)

-- a number within the bounds, where it wasn't given
abbrev pub number_value : ℕ → ℕ → Option ℕ → List ℕ → Result ℕ LineWhy
number_value low high given text = once given (number_within low high text)

-- the options with one more; a limit may be any number of 32 bits
abbrev pub with_value : OptionName → Options → List ℕ → Result Options LineWhy
with_value option_names.Service given text =
    and_then (number_value 0 (2 ^ 16 - 1) given.service text) (λ n. Ok (record given { service = Some n }))
with_value option_names.Conns given text =
    and_then (number_value 0 (2 ^ 32 - 1) given.conns text) (λ n. Ok (record given { conns = Some n }))
with_value option_names.Calls given text =
    and_then (number_value 0 (2 ^ 32 - 1) given.calls text) (λ n. Ok (record given { calls = Some n }))
with_value option_names.Slots given text =
    and_then (number_value 0 (2 ^ 32 - 1) given.slots text) (λ n. Ok (record given { slots = Some n }))
with_value option_names.Window given text =
    and_then (number_value 0 (2 ^ 32 - 1) given.window text) (λ n. Ok (record given { window = Some n }))
with_value option_names.Key given text =
    and_then (once given.key (key_in text)) (λ key. Ok (record given { key = Some key }))
with_value option_names.Nonce given text =
    and_then (number_value 0 (2 ^ 64 - 1) given.nonce text) (λ n. Ok (record given { nonce = Some n }))
with_value option_names.First given text =
    and_then (number_value 1 (2 ^ 32 - 1) given.first text) (λ n. Ok (record given { first = Some n }))

-- whether an option may stand, where a key does in the line or doesn't: a nonce wants one
abbrev pub may_stand : Bool → OptionName → Bool
may_stand keyed option_names.Nonce = keyed
may_stand keyed option = true

-- the options with one more word, which is none of these or may not stand, or is one more
abbrev pub with_found : Bool → Options → Option (OptionName × List ℕ) → Result Options LineWhy
with_found keyed given None = Err Word
with_found keyed given (Some found) =
    if may_stand keyed found.0 then with_value found.0 given found.1 else Err Word

-- the options with one more word
abbrev pub with_option : List OptionName → Bool → Options → List ℕ → Result Options LineWhy
with_option row keyed given word = with_found keyed given (option_in row word)

-- the options with more words, from the left
abbrev pub options_from : List OptionName → Bool → Options → LineForm Options
options_from row keyed given [] = Ok given
options_from row keyed given (word ∷ words) =
    and_then (with_option row keyed given word) (λ next. options_from row keyed next words)

-- whether one of the words gives a key
abbrev pub has_key : List (List ℕ) → Bool
has_key [] = false
has_key (word ∷ words) = is_some (value_text option_names.Key word) || has_key words

-- the options of a line, of which it may have these
abbrev pub options_word : List OptionName → LineForm Options
options_word row words = options_from row (has_key words) NO_OPTIONS words

-- ---- what they mean

-- the limits, with those that stand where none is named
abbrev pub limits_in : Options → Limits
limits_in given = record {
  conns = unwrap_or given.conns DEFAULT_CONNS;
  calls = unwrap_or given.calls DEFAULT_CALLS;
  slots = unwrap_or given.slots DEFAULT_SLOTS;
  window = unwrap_or given.window DEFAULT_WINDOW;
}

-- the service that options name, or the default
abbrev pub service_in : Options → ℕ
service_in given = unwrap_or given.service DEFAULT_SERVICE

-- the nonce that they name, or 0
abbrev pub nonce_in : Options → ℕ
nonce_in given = unwrap_or given.nonce 0

-- the first call number that they name, or the default
abbrev pub first_in : Options → ℕ
first_in given = unwrap_or given.first DEFAULT_FIRST
