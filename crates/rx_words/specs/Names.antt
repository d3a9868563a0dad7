-- The names of commands, and the options of each. Public clauses cite this module.
use Rattle.std.specs.Prelude.{codes, ℕ, if◌then◌else◌, List, [], ◌∷◌, Option, Some, None, bytes_eq}
use Rattle.rx_words.specs.declared.names.CommandName.{CommandName}
use Rattle.rx_words.specs.declared.names.CommandName.TheVariants as commands
use Rattle.rx_words.specs.declared.names.OptionName.{OptionName}
use Rattle.rx_words.specs.declared.names.OptionName.TheVariants as options

-- the text of a command's name
abbrev pub command_text : CommandName → List ℕ
command_text commands.Sim = codes "sim"
command_text commands.Serve = codes "serve"
command_text commands.Call = codes "call"
command_text commands.Compile = codes "compile"
command_text commands.Load = codes "load"
command_text commands.Peers = codes "peers"

-- the first of these commands that the word names
abbrev pub named_in : List CommandName → List ℕ → Option CommandName
named_in [] word = None
named_in (command ∷ more) word = if bytes_eq word (command_text command) then Some command else named_in more word

-- the command that a word names
abbrev pub command_named : List ℕ → Option CommandName
command_named word = named_in (commands.Sim ∷ commands.Serve ∷ commands.Call ∷ commands.Compile ∷ commands.Load
    ∷ commands.Peers ∷ []) word

-- the text of an option behind its two dashes
abbrev pub option_text : OptionName → List ℕ
option_text options.Xg = codes "xg"
option_text options.Script = codes "script"
option_text options.At = codes "at"
option_text options.To = codes "to"
option_text options.From = codes "from"
option_text options.Epoch = codes "epoch"
option_text options.Service = codes "service"
option_text options.For = codes "for"
option_text options.Turns = codes "turns"
option_text options.Conns = codes "conns"
option_text options.Calls = codes "calls"
option_text options.Slots = codes "slots"
option_text options.Window = codes "window"
option_text options.Key = codes "key"
option_text options.Nonce = codes "nonce"
option_text options.Jumbo = codes "jumbo"
option_text options.Up = codes "up"
option_text options.Down = codes "down"

-- the options of a command
abbrev pub options_of : CommandName → List OptionName
options_of commands.Sim = options.Xg ∷ options.Script ∷ []
options_of commands.Serve = options.At ∷ options.Service ∷ options.For ∷ options.Turns ∷ options.Conns ∷ options.Calls
    ∷ options.Slots ∷ options.Window ∷ options.Key ∷ options.Nonce ∷ options.Jumbo ∷ []
options_of commands.Call = options.To ∷ options.Epoch ∷ options.From ∷ options.Service ∷ options.Turns ∷ options.Up
    ∷ options.Down ∷ options.Window ∷ options.Key ∷ options.Jumbo ∷ []
options_of commands.Compile = []
options_of commands.Load = []
options_of commands.Peers = []
