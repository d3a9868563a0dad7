-- Which commands of `rx_words` the program has. Public clauses cite this module.
use Rattle.std.specs.Prelude.{Bool, true, false, Option, Some, None}
use Rattle.rx_words.specs.declared.command.Command.{Command}
use Rattle.rx_words.specs.declared.command.Command.TheVariants as commands

-- a command that the program has
abbrev pub has_command : Command → Bool
has_command (commands.Sim names) = true
has_command (commands.Serve names given) = true
has_command (commands.Call asked given) = true
has_command (commands.Compile xg) = true
has_command (commands.Load number calls) = true
has_command (commands.Peers xg script plan) = false

-- a command that makes events
abbrev pub makes_events : Command → Bool
makes_events (commands.Sim names) = true
makes_events (commands.Serve names given) = true
makes_events (commands.Call asked given) = true
makes_events (commands.Compile xg) = false
makes_events (commands.Load number calls) = true
makes_events (commands.Peers xg script plan) = false

-- a command over UDP
abbrev pub is_over_wire : Command → Bool
is_over_wire (commands.Sim names) = false
is_over_wire (commands.Serve names given) = true
is_over_wire (commands.Call asked given) = true
is_over_wire (commands.Compile xg) = false
is_over_wire (commands.Load number calls) = false
is_over_wire (commands.Peers xg script plan) = false

-- a command that reads files
abbrev pub reads_files : Command → Bool
reads_files (commands.Sim names) = true
reads_files (commands.Serve names given) = true
reads_files (commands.Call asked given) = true
reads_files (commands.Compile xg) = true
reads_files (commands.Load number calls) = false
reads_files (commands.Peers xg script plan) = false

-- the words are a command, of which this holds
abbrev pub is_one : (Command → Bool) → Option Command → Bool
is_one holds None = false
is_one holds (Some c) = holds c

-- the words are a command that the program has
abbrev pub is_command : Option Command → Bool
is_command = is_one has_command

-- only these note events in a journal
abbrev pub has_events : Option Command → Bool
has_events = is_one makes_events

-- only these have to do with a wire
abbrev pub has_wire : Option Command → Bool
has_wire = is_one is_over_wire

-- only these have files read
abbrev pub has_files : Option Command → Bool
has_files = is_one reads_files
