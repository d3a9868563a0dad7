-- How many packet slots the calls of a node hold. Public clauses cite this module.
use Rattle.std.specs.Prelude.{◌+◌, ◌-◌, if◌then◌else◌, ℕ, suc, List, [], ◌∷◌}
use Rattle.rx_rules.specs.CallLooks.{CallLooks, NodeView, held, lead}
use Rattle.rx_rules.specs.Life.{is_live, is_active}
use Rattle.rx_rules.specs.Looks.{CallRecord, Looks}
use Rattle.rx_rules.specs.Sent.{room_of}
use Rattle.rx_rules.specs.Setup.{Setup, is_client, receiving_window, sending_window, shared_slots}

-- the slots that a call holds beside one of its own; one that is broken or ended holds none
abbrev pub beside : CallRecord → ℕ
beside k = if is_active k.life then held k.looks - lead k.looks else 0

-- their sum
abbrev pub beside_all : List CallRecord → ℕ
beside_all [] = 0
beside_all (k ∷ ks) = beside k + beside_all ks

-- the slots that calls hold beside one for each
abbrev pub common : Looks → ℕ
common l = beside_all l.calls

-- how many further ones they may hold
abbrev pub left_slots : Setup → Looks → ℕ
left_slots s l = shared_slots s - common l

-- what the node tells each of its calls
abbrev pub node_view : Setup → Looks → NodeView
node_view s l =
    record { client = is_client s.kind; window = receiving_window s; left = left_slots s l; now = l.now }

-- how many of these live
abbrev pub count_live : List CallRecord → ℕ
count_live [] = 0
count_live (k ∷ ks) = if is_live k.life then suc (count_live ks) else count_live ks

-- how many calls live
abbrev pub live : Looks → ℕ
live l = count_live l.calls

-- how many bytes a write of a call may accept: it opens pieces from what is left, and the first from its own slot
abbrev pub room : Setup → Looks → CallLooks → ℕ
room s l k = room_of (sending_window s) (left_slots s l + 1 - lead k) k.sent
