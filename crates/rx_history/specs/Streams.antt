-- What a history says of the two streams of a call, by its name. Public clauses cite this module.
use Rattle.std.specs.Prelude.{◌≡◌, ◌++◌, Bool, false, List, [], ℕ, Option, Some, None}
use Rattle.rx_model.specs.declared.answers.End.{End}
use Rattle.rx_model.specs.declared.names.CallName.{CallName}
use Rattle.rx_rules.specs.Life.{Life}
use Rattle.rx_rules.specs.Life as lives
use Rattle.rx_rules.specs.Looks.{CallRecord, Looks, call_at}

-- what was said of a call that is looked for
abbrev pub said_by : Option CallRecord → List ℕ
said_by None = []
said_by (Some k) = k.looks.sent.said

-- what was read of it
abbrev pub read_by : Option CallRecord → List ℕ
read_by None = []
read_by (Some k) = k.looks.received.read

-- whether its own stream is shut
abbrev pub is_shut_by : Option CallRecord → Bool
is_shut_by None = false
is_shut_by (Some k) = k.looks.sent.shut

-- a client's end
abbrev pub end_of_life : Life → Option End
end_of_life (lives.Ended end) = Some end
end_of_life _ = None

-- a client's end, of a call that is looked for
abbrev pub end_by : Option CallRecord → Option End
end_by None = None
end_by (Some k) = end_of_life k.life

-- the bytes that the writes of a call accepted
abbrev pub said : Looks → CallName → List ℕ
said l c = said_by (call_at l c)

-- the bytes that its reads gave
abbrev pub read : Looks → CallName → List ℕ
read l c = read_by (call_at l c)

-- whether nothing more will be said
abbrev pub is_shut : Looks → CallName → Bool
is_shut l c = is_shut_by (call_at l c)

-- how a client's call ended
abbrev pub end_at : Looks → CallName → Option End
end_at l c = end_by (call_at l c)

-- the list begins the other
abbrev pub Begins : List ℕ → List ℕ → Type 0
Begins part whole = (rest : List ℕ) × (part ++ rest ≡ whole)
