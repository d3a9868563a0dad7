-- Lemmas on what commands are asked for: the numbers of their words are within bounds.
use Rattle.std.proofs.Common.{◌≡◌, ◌≤◌, ◌<◌, ◌&&◌, ◌^◌, ℕ, Bool, true, false, List, [], ◌∷◌, Option, Some, None, refl}
use Rattle.std.proofs.Common.{IfSome, ◌-◌, ◌∙◌, arith, is_some, lit<, lit≤, not, subst, sym}
use Rattle.std.proofs.lemmas.Bool.{and_parts, leb-true, ltb-true}
use Rattle.std.specs.Prelude.{if◌then◌else◌, nat_le, nat_lt}
use Rattle.std.specs.Str.Parse.{digits_value}
use Rattle.rx_rules.specs.Setup.{FitsLimits}
use Rattle.rx_words.specs.Commands.{call_of, command_by, command_of}
use Rattle.rx_words.specs.Commands.{serve_of}
use Rattle.rx_words.specs.Names.{command_named}
use Rattle.rx_words.specs.Numbers.{is_decimal, number_within}
use Rattle.rx_words.specs.Options.{any_port, call_options, down_of, epoch_given, host_given, host_or, limits_of, needs}
use Rattle.rx_words.specs.Options.{nonce_of, number_or, serve_options, window_of}
use Rattle.rx_words.specs.Parts.{Part, parts_of}
use Rattle.rx_words.specs.Rules.{meets_rules, one_plain, three_plain, two_plain, value_of}
use Rattle.rx_words.specs.declared.command.Command.{Command}
use Rattle.rx_words.specs.declared.names.CommandName.{CommandName}
use Rattle.rx_words.specs.declared.names.CommandName.TheVariants as names
use Rattle.rx_words.specs.declared.names.OptionName.TheVariants as options
use Rattle.rx_words.specs.declared.options.CallOptions.{CallOptions}
use Rattle.rx_words.specs.declared.options.ServeOptions.{ServeOptions}
use Rattle.rx_top.specs.Leaves.{CanDo}

-- ---- what needs something

needs_where : {A B : Type 0} (o : Option A) (next : A → Option B) (Q : A → Type 0) (P : B → Type 0) → IfSome o Q
    → ((a : A) → Q a → IfSome (next a) P) → IfSome (needs o next) P
needs_where None next Q P holds go = tt
needs_where (Some a) next Q P holds go = go a holds

needs_any : {A B : Type 0} (o : Option A) (next : A → Option B) (P : B → Type 0)
    → ((a : A) → IfSome (next a) P) → IfSome (needs o next) P
needs_any None next P go = tt
needs_any (Some a) next P go = go a

if_some : {A : Type 0} (b : Bool) (a : A) (P : A → Type 0) → (b ≡ true → P a)
    → IfSome (if b then Some a else None) P
if_some true a P go = go refl
if_some false a P go = tt

unless_some : {A : Type 0} (b : Bool) (a : A) (P : A → Type 0) → P a → IfSome (if b then None else Some a) P
unless_some true a P holds = tt
unless_some false a P holds = holds

if_any : {A : Type 0} (b : Bool) (o : Option A) (P : A → Type 0) → IfSome o P → IfSome (if b then o else None) P
if_any true o P holds = holds
if_any false o P holds = tt

-- ---- numbers

abbrev Within : ℕ → ℕ → ℕ → Type 0
Within low high n = (low ≤ n) × (n ≤ high)

number_fits : (low high : ℕ) (word : List ℕ) → IfSome (number_within low high word) (Within low high)
number_fits low high word =
    let value : ℕ = digits_value 10 word in
    if_some (is_decimal word && (nat_le low value && nat_le value high)) value (Within low high) (λ yes.
    let parts = and_parts (is_decimal word) (nat_le low value && nat_le value high) yes in
    let bounds = and_parts (nat_le low value) (nat_le value high) parts.1 in
    (leb-true low value bounds.0, leb-true value high bounds.1))

number_or_fits : (low high default : ℕ) (o : Option (List ℕ)) → Within low high default
    → IfSome (number_or low high default o) (Within low high)
number_or_fits low high default None within = within
number_or_fits low high default (Some text) within = number_fits low high text

window_fits : (parts : List Part) → IfSome (window_of parts) (Within 32 255)
window_fits parts = number_or_fits 32 255 32 (value_of parts options.Window) (lit≤ tt, lit≤ tt)

limits_fit : (parts : List Part) → IfSome (limits_of parts) FitsLimits
limits_fit parts =
    needs_where _ _ (Within 1 65536) FitsLimits (number_or_fits 1 65536 16384 (value_of parts options.Conns)
    (lit≤ tt, lit≤ tt)) (λ conns few_conns.
    needs_where _ _ (Within 1 4096) FitsLimits (number_or_fits 1 4096 64 (value_of parts options.Calls)
    (lit≤ tt, lit≤ tt)) (λ calls few_calls.
    needs_where _ _ (Within 1 65536) FitsLimits (number_or_fits 1 65536 2048 (value_of parts options.Slots)
    (lit≤ tt, lit≤ tt)) (λ slots few_slots.
    needs_where _ _ (Within 32 255) FitsLimits (window_fits parts) (λ window wide.
    if_some (nat_lt calls slots) _ _ (λ more. record {
      some_conns = few_conns.0;
      few_conns = few_conns.1;
      some_calls = few_calls.0;
      few_calls = few_calls.1;
      some_slots = ltb-true calls slots more;
      few_slots = few_slots.1;
      wide = wide.0;
      narrow = wide.1;
    })))))

-- ---- options

record ServeFits (o : ServeOptions) : Type 0 where
  limits : FitsLimits o.limits
  jumbo : Within 1 16 o.jumbo
  span : Within 1 (2 ^ 40) o.span

serve_options_fit : (parts : List Part) → IfSome (serve_options parts) ServeFits
serve_options_fit parts =
    needs_any (host_given (value_of parts options.At)) _ ServeFits (λ at.
    needs_any (number_or 0 65535 1 (value_of parts options.Service)) _ ServeFits (λ service.
    needs_where (number_or 1 (2 ^ 40) 60000 (value_of parts options.For)) _ (Within 1 (2 ^ 40)) ServeFits
    (number_or_fits 1 (2 ^ 40) 60000 (value_of parts options.For) (lit≤ tt, lit≤ tt)) (λ span long.
    needs_any (number_or 1 1000000000 1000000 (value_of parts options.Turns)) _ ServeFits (λ turns.
    needs_where (limits_of parts) _ FitsLimits ServeFits (limits_fit parts) (λ limits fit.
    needs_any (nonce_of (value_of parts options.Key) (value_of parts options.Nonce)) _ ServeFits (λ nonce.
    needs_where (number_or 1 16 1 (value_of parts options.Jumbo)) _ (Within 1 16) ServeFits
    (number_or_fits 1 16 1 (value_of parts options.Jumbo) (lit≤ tt, lit≤ tt)) (λ jumbo few.
    record { limits = fit; jumbo = few; span = long })))))))

record CallFits (o : CallOptions) : Type 0 where
  epoch : Within 0 (2 ^ 32 - 1) o.epoch
  window : Within 32 255 o.window
  jumbo : Within 1 16 o.jumbo

call_options_fit : (parts : List Part) → IfSome (call_options parts) CallFits
call_options_fit parts =
    needs_any (host_given (value_of parts options.To)) _ CallFits (λ to.
    needs_where (epoch_given (value_of parts options.Epoch)) _ (Within 0 (2 ^ 32 - 1)) CallFits
    (needs_any (value_of parts options.Epoch) (number_within 0 (2 ^ 32 - 1)) (Within 0 (2 ^ 32 - 1))
    (number_fits 0 (2 ^ 32 - 1))) (λ epoch word.
    needs_any (host_or any_port (value_of parts options.From)) _ CallFits (λ from.
    needs_any (number_or 0 65535 1 (value_of parts options.Service)) _ CallFits (λ service.
    needs_any (number_or 1 1000000000 1000000 (value_of parts options.Turns)) _ CallFits (λ turns.
    needs_where (window_of parts) _ (Within 32 255) CallFits (window_fits parts) (λ window wide.
    needs_where (number_or 1 16 1 (value_of parts options.Jumbo)) _ (Within 1 16) CallFits
    (number_or_fits 1 16 1 (value_of parts options.Jumbo) (lit≤ tt, lit≤ tt)) (λ jumbo few.
    record { epoch = word; window = wide; jumbo = few })))))))

-- ---- commands

serve_fits : (parts : List Part) → IfSome (serve_of parts) CanDo
serve_fits parts =
    needs_any (two_plain parts) _ CanDo (λ files.
    needs_where (serve_options parts) _ ServeFits CanDo (serve_options_fit parts) (λ given fits.
    record { limits = fits.limits; some = fits.jumbo.0; few = fits.jumbo.1; span = fits.span.1 }))

client_fits : (window : ℕ) → Within 32 255 window → FitsLimits (record {
  conns = 1;
  calls = 1;
  slots = 511;
  window = window;
})
client_fits window wide =
    record {
      some_conns = lit≤ tt;
      few_conns = lit≤ tt;
      some_calls = lit≤ tt;
      few_calls = lit≤ tt;
      some_slots = lit< tt;
      few_slots = lit≤ tt;
      wide = wide.0;
      narrow = wide.1;
    }

below_word : (n : ℕ) → Within 0 (2 ^ 32 - 1) n → n < 2 ^ 32
below_word n within = omega (arith, within)

call_fits : (parts : List Part) → IfSome (call_of parts) CanDo
call_fits parts =
    needs_any (three_plain parts) _ CanDo (λ texts.
    needs_where (call_options parts) _ CallFits CanDo (call_options_fit parts) (λ given fits.
    needs_any (down_of (value_of parts options.Down)) _ CanDo (λ down.
    record {
      epoch = below_word given.epoch fits.epoch;
      limits = client_fits given.window fits.window;
      some = fits.jumbo.0;
      few = fits.jumbo.1;
    })))

by_fits : (command : CommandName) (parts : List Part) → IfSome (command_by command parts) CanDo
by_fits names.Sim parts =
    needs_any (one_plain parts) _ CanDo (λ plan.
    unless_some (is_some (value_of parts options.Script) && not (is_some (value_of parts options.Xg))) _ CanDo tt)
by_fits names.Serve parts = serve_fits parts
by_fits names.Call parts = call_fits parts
by_fits names.Compile parts = needs_any (one_plain parts) _ CanDo (λ xg. tt)
by_fits names.Load parts =
    needs_any (two_plain parts) _ CanDo (λ texts. needs_any (number_within 0 (2 ^ 64 - 1) texts.0) _ CanDo (λ number.
    needs_where (number_within 1 10000 texts.1) _ (Within 1 10000) CanDo (number_fits 1 10000 texts.1) (λ calls few.
    few)))
by_fits names.Peers parts = needs_any (three_plain parts) _ CanDo (λ files. tt)

-- what the words ask for can be done: a node can be set up with it, and so many calls can be made
pub words_fit : (words : List (List ℕ)) → IfSome (command_of words) CanDo
words_fit [] = tt
words_fit (word ∷ words) =
    needs_any (command_named word) _ CanDo (λ command.
    if_any (meets_rules command (parts_of words)) _ CanDo (by_fits command (parts_of words)))

-- the same where the words are this command
pub command_fits : (words : List (List ℕ)) (c : Command) → command_of words ≡ Some c → CanDo c
command_fits words c is = subst (λ (o : Option Command). IfSome o CanDo) is (words_fit words)

-- words are one command
pub same_command : (words : List (List ℕ)) (c d : Command) → command_of words ≡ Some c → command_of words ≡ Some d
    → c ≡ d
same_command words c d first second = let both : Some c ≡ Some d = sym first ∙ second in cc (both)
