-- The first words of lines. Public clauses cite this module.
use Rattle.std.specs.Prelude.{ℕ, List, [], ◌∷◌, Option, Some, None, codes, if◌then◌else◌}
use Rattle.std.specs.Str.{bytes_eq}
use Rattle.rx_script.specs.declared.verb.Verb.{Verb}
use Rattle.rx_script.specs.declared.verb.Verb.TheVariants as verbs

-- how a first word is written
abbrev pub verb_text : Verb → List ℕ
verb_text verbs.On = codes "on"
verb_text verbs.Wait = codes "wait"
verb_text verbs.Up = codes "up"
verb_text verbs.Down = codes "down"
verb_text verbs.When = codes "when"
verb_text verbs.Fail = codes "fail"
verb_text verbs.Set = codes "set"
verb_text verbs.Copy = codes "copy"
verb_text verbs.Size = codes "size"
verb_text verbs.Count = codes "count"
verb_text verbs.Echo = codes "echo"
verb_text verbs.Send = codes "send"
verb_text verbs.Server = codes "server"
verb_text verbs.Client = codes "client"
verb_text verbs.Peer = codes "peer"
verb_text verbs.Connect = codes "connect"
verb_text verbs.Call = codes "call"
verb_text verbs.Write = codes "write"
verb_text verbs.Shut = codes "shut"
verb_text verbs.Read = codes "read"
verb_text verbs.Ask = codes "ask"
verb_text verbs.Cancel = codes "cancel"
verb_text verbs.Accept = codes "accept"
verb_text verbs.Finish = codes "finish"
verb_text verbs.Poll = codes "poll"
verb_text verbs.Deliver = codes "deliver"
verb_text verbs.Jumbo = codes "jumbo"
verb_text verbs.Forge = codes "forge"
verb_text verbs.Clock = codes "clock"
verb_text verbs.Invoke = codes "invoke"
verb_text verbs.Turn = codes "turn"
verb_text verbs.Round = codes "round"
verb_text verbs.Rounds = codes "rounds"
verb_text verbs.Lossy = codes "lossy"

-- which of these a word is
abbrev pub verb_in : List Verb → List ℕ → Option Verb
verb_in [] word = None
verb_in (v ∷ vs) word = if bytes_eq (verb_text v) word then Some v else verb_in vs word
