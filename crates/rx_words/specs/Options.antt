-- What the values of options stand for. Public clauses cite this module.
use Rattle.std.specs.Prelude.{◌&&◌, ◌+◌, ◌*◌, ◌-◌, ◌^◌, not, if◌then◌else◌, nat_lt, codes, ℕ, Bool, true, false}
use Rattle.std.specs.Prelude.{List, Option, Some, None, is_some, bytes_eq}
use Rattle.rx_model.specs.declared.names.Host.{Host}
use Rattle.rx_model.specs.declared.names.Limits.{Limits}
use Rattle.rx_words.specs.declared.names.OptionName.TheVariants as options
use Rattle.rx_words.specs.declared.options.CallOptions.{CallOptions}
use Rattle.rx_words.specs.declared.options.ServeOptions.{ServeOptions}
use Rattle.rx_words.specs.Numbers.{host_in, number_within}
use Rattle.rx_words.specs.Parts.{Part}
use Rattle.rx_words.specs.Rules.{value_of}

-- what stands for a value that is there, if it stands for something
abbrev pub needs : {A B : Type 0} → Option A → (A → Option B) → Option B
needs None next = None
needs (Some a) next = next a

-- the number of an option within its bounds, or its default where the option isn't given
abbrev pub number_or : ℕ → ℕ → ℕ → Option (List ℕ) → Option ℕ
number_or low high default None = Some default
number_or low high default (Some text) = number_within low high text

-- the host of an option, or its default where the option isn't given
abbrev pub host_or : Host → Option (List ℕ) → Option Host
host_or default None = Some default
host_or default (Some text) = host_in text

-- `--down yes`, and no other value
abbrev pub down_of : Option (List ℕ) → Option Bool
down_of None = Some false
down_of (Some text) = if bytes_eq text (codes "yes") then Some true else None

-- the nonce, which wants a key
abbrev pub nonce_of : Option (List ℕ) → Option (List ℕ) → Option ℕ
nonce_of key nonce = if is_some nonce && not (is_some key) then None else number_or 0 (2 ^ 64 - 1) 0 nonce

-- the window of a node
abbrev pub window_of : List Part → Option ℕ
window_of parts = number_or 32 255 32 (value_of parts options.Window)

-- the limits of a node, which has more slots than live calls
abbrev pub limits_of : List Part → Option Limits
limits_of parts =
    needs (number_or 1 65536 16384 (value_of parts options.Conns)) (λ conns.
    needs (number_or 1 4096 64 (value_of parts options.Calls)) (λ calls.
    needs (number_or 1 65536 2048 (value_of parts options.Slots)) (λ slots.
    needs (window_of parts) (λ window.
    if nat_lt calls slots
    then Some (record { conns = conns; calls = calls; slots = slots; window = window })
    else None))))

-- a host that has to be given
abbrev pub host_given : Option (List ℕ) → Option Host
host_given text = needs text host_in

-- the options of a server: its host has to be given
abbrev pub serve_options : List Part → Option ServeOptions
serve_options parts =
    needs (host_given (value_of parts options.At)) (λ at.
    needs (number_or 0 65535 1 (value_of parts options.Service)) (λ service.
    needs (number_or 1 (2 ^ 40) 60000 (value_of parts options.For)) (λ span.
    needs (number_or 1 1000000000 1000000 (value_of parts options.Turns)) (λ turns.
    needs (limits_of parts) (λ limits.
    needs (nonce_of (value_of parts options.Key) (value_of parts options.Nonce)) (λ nonce.
    needs (number_or 1 16 1 (value_of parts options.Jumbo)) (λ jumbo.
    Some (record {
      at = at;
      service = service;
      span = span;
      turns = turns;
      limits = limits;
      nonce = nonce;
      jumbo = jumbo;
    }))))))))

-- an epoch, which has to be given
abbrev pub epoch_given : Option (List ℕ) → Option ℕ
epoch_given text = needs text (number_within 0 (2 ^ 32 - 1))

-- a port of the loopback address that the system picks
abbrev pub any_port : Host
any_port = record { addr = 127 * 2 ^ 24 + 1; port = 0 }

-- the options of a call: its host and its epoch have to be given
abbrev pub call_options : List Part → Option CallOptions
call_options parts =
    needs (host_given (value_of parts options.To)) (λ to.
    needs (epoch_given (value_of parts options.Epoch)) (λ epoch.
    needs (host_or any_port (value_of parts options.From)) (λ from.
    needs (number_or 0 65535 1 (value_of parts options.Service)) (λ service.
    needs (number_or 1 1000000000 1000000 (value_of parts options.Turns)) (λ turns.
    needs (window_of parts) (λ window.
    needs (number_or 1 16 1 (value_of parts options.Jumbo)) (λ jumbo.
    Some (record {
      to = to;
      epoch = epoch;
      from = from;
      service = service;
      turns = turns;
      window = window;
      jumbo = jumbo;
    }))))))))
