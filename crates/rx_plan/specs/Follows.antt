-- Which events follow a plan, and how its run ends. Public clauses cite this module.
use Rattle.std.specs.Prelude.{◌≡◌, ◌+◌, ◌&&◌, if◌then◌else◌, nat_le, nat_lt, ℕ, suc, Bool, List, [], ◌∷◌, ◌++◌, length}
use Rattle.std.specs.Prelude.{◌⊎◌, false, true, Option, Some, None}
use Rattle.rx_model.specs.declared.event.Noted.{Noted}
use Rattle.rx_model.specs.declared.names.Host.{Host}
use Rattle.rx_model.specs.declared.names.Limits.{Limits}
use Rattle.rx_model.specs.declared.wire.TheConstants.{MIN_WINDOW, MAX_WINDOW}
use Rattle.rx_rules.specs.Classes.{Class, null, token}
use Rattle.rx_rules.specs.Setup.{Client, Server, unprompted}
use Rattle.rx_history.specs.Sides.{Node}
use Rattle.rx_jobs.specs.Handlers.{Handlers}
use Rattle.rx_script.specs.declared.outcome.PlanWhy.{PlanWhy}
use Rattle.rx_script.specs.declared.outcome.PlanWhy.TheVariants as causes
use Rattle.rx_script.specs.declared.plan.Numbered.{Numbered}
use Rattle.rx_script.specs.declared.plan.PlanLine.{PlanLine}
use Rattle.rx_script.specs.declared.plan.PlanLine.TheVariants as lines
use Rattle.rx_plan.specs.Lines.{line_part}
use Rattle.rx_plan.specs.Parts.{Came, To, Refused, Cut, Endless, Part, Then, ends}
use Rattle.rx_plan.specs.Stages.{Stage}
use Rattle.rx_plan.specs.declared.limits.TheConstants.{MAX_CLIENTS, MAX_SLOTS}

-- ---- lines that make nodes

-- limits that a node can be made with
abbrev pub fits_limits : Limits → Bool
fits_limits l =
    nat_le 1 l.conns && (nat_le l.conns 65536 && (nat_le 1 l.calls && (nat_le l.calls 4096 && (nat_lt l.calls l.slots
    && (nat_le l.slots 65536 && (nat_le MIN_WINDOW l.window && nat_le l.window MAX_WINDOW))))))

-- the slots of all nodes
abbrev pub slots_of : List Node → ℕ
slots_of [] = 0
slots_of (n ∷ ns) = n.setup.limits.slots + slots_of ns

-- there is room for one more node among these
abbrev pub has_room : Limits → List Node → Bool
has_room l ns = fits_limits l && (nat_le (slots_of ns + l.slots) MAX_SLOTS && nat_le (length ns) MAX_CLIENTS)

-- the class of a key, or of none
abbrev pub class_of : Option (List ℕ) → Class
class_of None = null
class_of (Some key) = token key

-- a server, at its start
abbrev pub server_node : Host → ℕ → Limits → Option (List ℕ) → ℕ → Node
server_node host service limits key nonce =
    record { host = host; setup = unprompted (Server service nonce) limits (class_of key) }

-- a client
abbrev pub client_node : Host → ℕ → Limits → Option (List ℕ) → Node
client_node host epoch limits key =
    record { host = host; setup = unprompted (Client host epoch) limits (class_of key) }

-- what a run comes to by its server line
abbrev pub begun : Node → Stage
begun n = record {
  nodes = n ∷ [];
  history = [];
  calls = [];
  accepted = [];
  packets = [];
  callers = [];
  jobs = [];
}

-- the first line makes the server
abbrev pub begins : PlanLine → Came Stage
begins (lines.Server host service limits key nonce) =
    if has_room limits [] then To (begun (server_node host service limits key nonce)) else Refused causes.Slots
begins _ = Refused causes.NoNode

-- one client more, where only nodes were made so far
abbrev pub adds : Bool → Node → Stage → Came Stage
adds late n s =
    if late then Refused causes.Late
    else if has_room n.setup.limits s.nodes then To (record s { nodes = s.nodes ++ n ∷ [] })
    else Refused causes.Slots

-- ---- a whole plan

-- what a run came to behind some lines: its stage, whether one of them made no node, and the place of the next
pub record Progress : Type 0 where
  pub stage : Stage
  pub late : Bool
  pub place : ℕ

-- behind one line more
abbrev pub made_node : Progress → Came Stage → Came Progress
made_node p (To s) = To (record p { stage = s; place = suc p.place })
made_node p (Refused why) = Refused why
made_node p Cut = Cut
made_node p Endless = Endless

-- one line behind the first
abbrev pub next_part : Handlers → PlanLine → Progress → Part Progress
next_part g (lines.Client host epoch limits key) p =
    λ es out. (es ≡ []) × ((out ≡ made_node p (adds p.late (client_node host epoch limits key) p.stage)) ⊎ (out ≡ Cut))
next_part g line p =
    Then (line_part g p.place line p.stage)
    (λ s. ends (To (record { stage = s; late = true; place = suc p.place })))

-- how the lines of a plan went
pub data Went : Type 0 where
  -- there was none
  Empty : Went
  -- all were made
  Whole : Stage → Went
  -- the line with this number was refused
  RefusedAt : ℕ → PlanWhy → Went
  -- the run was cut off in one of them
  CutOff : Went
  -- a polling or a turn of one of them has no end
  EndlessIn : Went

-- the events of lines behind the first, and how these went
pub data Goes (g : Handlers) : List Numbered → Progress → List Noted → Went → Type 0 where
  all : (p : Progress) → Goes g [] p [] (Whole p.stage)
  next : (l : Numbered) (ls : List Numbered) (p q : Progress) (es more : List Noted) (went : Went)
      → next_part g l.what p es (To q) → Goes g ls q more went → Goes g (l ∷ ls) p (es ++ more) went
  refused : (l : Numbered) (ls : List Numbered) (p : Progress) (es : List Noted) (why : PlanWhy)
      → next_part g l.what p es (Refused why) → Goes g (l ∷ ls) p es (RefusedAt l.line why)
  cut : (l : Numbered) (ls : List Numbered) (p : Progress) (es : List Noted)
      → next_part g l.what p es Cut → Goes g (l ∷ ls) p es CutOff
  endless : (l : Numbered) (ls : List Numbered) (p : Progress) (es : List Noted)
      → next_part g l.what p es Endless → Goes g (l ∷ ls) p es EndlessIn

-- behind the line that makes the server
abbrev pub goes_from : Handlers → ℕ → List Numbered → Came Stage → List Noted → Went → Type 0
goes_from g line rest (To s) es went = Goes g rest (record { stage = s; late = false; place = 1 }) es went
goes_from g line rest (Refused why) es went = (es ≡ []) × (went ≡ RefusedAt line why)
goes_from g line rest Cut es went = (es ≡ []) × (went ≡ CutOff)
goes_from g line rest Endless es went = ⊥

-- the events of a plan, and how its lines went; memory may be wanted as the server is made
abbrev pub plan_goes : Handlers → List Numbered → List Noted → Went → Type 0
plan_goes g [] es went = (es ≡ []) × (went ≡ Empty)
plan_goes g (l ∷ ls) es went =
    goes_from g l.line ls (begins l.what) es went ⊎ goes_from g l.line ls Cut es went
