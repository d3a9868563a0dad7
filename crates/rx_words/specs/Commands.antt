-- Which command the words are: the whole meaning of a command line. Public clauses cite this module.
use Rattle.std.specs.Prelude.{◌&&◌, ◌-◌, ◌^◌, not, if◌then◌else◌, ℕ, List, [], ◌∷◌, Option, Some, None, is_some}
use Rattle.rx_words.specs.declared.command.Command.{Command}
use Rattle.rx_words.specs.declared.command.Command.TheVariants.{Sim, Serve, Call, Compile, Load, Peers}
use Rattle.rx_words.specs.declared.names.CommandName.{CommandName}
use Rattle.rx_words.specs.declared.names.CommandName.TheVariants as commands
use Rattle.rx_words.specs.declared.names.OptionName.TheVariants as options
use Rattle.rx_words.specs.Names.{command_named}
use Rattle.rx_words.specs.Numbers.{number_within}
use Rattle.rx_words.specs.Options.{call_options, down_of, needs, serve_options}
use Rattle.rx_words.specs.Parts.{Part, parts_of}
use Rattle.rx_words.specs.Rules.{meets_rules, one_plain, three_plain, two_plain, value_of}

-- sim PLAN [--xg XG] [--script SCRIPT]: a script wants an interface
abbrev pub sim_of : List Part → Option Command
sim_of parts = needs (one_plain parts) (λ plan.
    if is_some (value_of parts options.Script) && not (is_some (value_of parts options.Xg)) then None
    else Some (Sim (record {
      plan = plan;
      xg = value_of parts options.Xg;
      script = value_of parts options.Script;
    })))

-- serve XG SCRIPT --at HOST [--service N] [--for MS] [--turns N] [--conns N] [--calls N] [--slots N] [--window N]
-- [--key FILE] [--nonce N] [--jumbo N]
abbrev pub serve_of : List Part → Option Command
serve_of parts = needs (two_plain parts) (λ files. needs (serve_options parts) (λ given.
    Some (Serve (record { xg = files.0; script = files.1; key = value_of parts options.Key }) given)))

-- call XG PROC ARGS --to HOST --epoch N [--from HOST] [--service N] [--turns N] [--up FILE] [--down yes] [--window N]
-- [--key FILE] [--jumbo N]
abbrev pub call_of : List Part → Option Command
call_of parts = needs (three_plain parts) (λ texts. needs (call_options parts) (λ given.
    needs (down_of (value_of parts options.Down)) (λ down.
    Some (Call (record {
      xg = texts.0;
      proc = texts.1;
      args = texts.2;
      up = value_of parts options.Up;
      down = down;
      key = value_of parts options.Key;
    }) given))))

-- compile XG
abbrev pub compile_of : List Part → Option Command
compile_of parts = needs (one_plain parts) (λ xg. Some (Compile xg))

-- load NUMBER CALLS
abbrev pub load_of : List Part → Option Command
load_of parts = needs (two_plain parts) (λ texts.
    needs (number_within 0 (2 ^ 64 - 1) texts.0) (λ number.
    needs (number_within 1 10000 texts.1) (λ calls. Some (Load number calls))))

-- peers XG SCRIPT PLAN
abbrev pub peers_of : List Part → Option Command
peers_of parts = needs (three_plain parts) (λ files. Some (Peers files.0 files.1 files.2))

-- the command of this name, by its words
abbrev pub command_by : CommandName → List Part → Option Command
command_by commands.Sim parts = sim_of parts
command_by commands.Serve parts = serve_of parts
command_by commands.Call parts = call_of parts
command_by commands.Compile parts = compile_of parts
command_by commands.Load parts = load_of parts
command_by commands.Peers parts = peers_of parts

-- the command of this name, where its words meet the rules that all commands share
abbrev pub command_in : CommandName → List Part → Option Command
command_in command parts = if meets_rules command parts then command_by command parts else None

-- the command that words are: the first one is its name
abbrev pub command_of : List (List ℕ) → Option Command
command_of [] = None
command_of (word ∷ words) = needs (command_named word) (λ command. command_in command (parts_of words))
