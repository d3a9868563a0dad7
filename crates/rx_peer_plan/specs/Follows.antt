-- Which events follow a plan of peers, and how its run ends. Public clauses cite this module.
use Rattle.std.specs.Prelude.{◌+◌, ◌*◌, ◌&&◌, if◌then◌else◌, nat_le, nat_lt, ℕ, suc, Bool, false, true, List, [], ◌∷◌}
use Rattle.std.specs.Prelude.{◌++◌, length}
use Rattle.rx_joint_peers.specs.Joint.{made_peer}
use Rattle.rx_model.specs.declared.event.Noted.{Noted}
use Rattle.rx_model.specs.declared.names.Limits.{Limits}
use Rattle.rx_peer.specs.PeerWorlds.{PeerNode}
use Rattle.rx_peer_plan.specs.declared.limits.TheConstants.{MAX_PEERS}
use Rattle.rx_peer_plan.specs.Lines.{line_part}
use Rattle.rx_peer_plan.specs.Stages.{PeerHandlers, PeerStage}
use Rattle.rx_plan.specs.declared.limits.TheConstants.{MAX_SLOTS}
use Rattle.rx_plan.specs.Follows.{fits_limits}
use Rattle.rx_plan.specs.Parts.{Came, Cut, Endless, Part, Refused, Then, To, ends}
use Rattle.rx_script.specs.declared.outcome.PlanWhy.{PlanWhy}
use Rattle.rx_script.specs.declared.outcome.PlanWhy.TheVariants as causes
use Rattle.rx_script.specs.declared.plan.PeerLine.{PeerLine}
use Rattle.rx_script.specs.declared.plan.PeerLine.TheVariants as lines
use Rattle.rx_script.specs.declared.plan.PeerNumbered.{PeerNumbered}

-- ---- how lines go, whatever they make

-- what a run came to behind some lines: its stage, whether one of them made no node, and the place of the next
pub record Progress (S : Type 0) : Type 0 where
  pub stage : S
  pub late : Bool
  pub place : ℕ

-- behind one line more
abbrev pub made_node : {S : Type 0} → Progress S → Came S → Came (Progress S)
made_node p (To s) = To (record p { stage = s; place = suc p.place })
made_node p (Refused why) = Refused why
made_node p Cut = Cut
made_node p Endless = Endless

-- how the lines of a plan went
pub data Went (S : Type 0) : Type 0 where
  -- all were made
  Whole : S → Went S
  -- the line with this number was refused
  RefusedAt : ℕ → PlanWhy → Went S
  -- the run was cut off in one of them
  CutOff : Went S
  -- a polling or a turn of one of them has no end
  EndlessIn : Went S

-- the events of lines, by what each may make and its number, and how these went
pub data Goes {L S : Type 0} (number : L → ℕ) (part : L → Progress S → Part (Progress S))
    : List L → Progress S → List Noted → Went S → Type 0 where
  all : (p : Progress S) → Goes number part [] p [] (Whole p.stage)
  next : (l : L) (ls : List L) (p q : Progress S) (es more : List Noted) (went : Went S)
      → part l p es (To q) → Goes number part ls q more went → Goes number part (l ∷ ls) p (es ++ more) went
  refused : (l : L) (ls : List L) (p : Progress S) (es : List Noted) (why : PlanWhy)
      → part l p es (Refused why) → Goes number part (l ∷ ls) p es (RefusedAt (number l) why)
  cut : (l : L) (ls : List L) (p : Progress S) (es : List Noted)
      → part l p es Cut → Goes number part (l ∷ ls) p es CutOff
  endless : (l : L) (ls : List L) (p : Progress S) (es : List Noted)
      → part l p es Endless → Goes number part (l ∷ ls) p es EndlessIn

-- ---- lines that make peers

-- the slots of all halves
abbrev pub slots_of : List PeerNode → ℕ
slots_of [] = 0
slots_of (p ∷ ps) = p.caller.limits.slots + p.served.limits.slots + slots_of ps

-- there is room for one peer more among these, each of whose halves has these limits
abbrev pub has_room : Limits → List PeerNode → Bool
has_room l ps =
    fits_limits l && (nat_le (slots_of ps + 2 * l.slots) MAX_SLOTS && nat_lt (length ps) MAX_PEERS)

-- one peer more within these limits, where only peers were made so far
abbrev pub adds : Bool → Limits → PeerNode → PeerStage → Came PeerStage
adds late limits p s =
    if late then Refused causes.Late
    else if has_room limits s.peers then To (record s { peers = s.peers ++ p ∷ []; jobs = s.jobs ++ [] ∷ [] })
    else Refused causes.Slots

-- ---- a whole plan

-- one line; memory may be wanted as a peer is made
abbrev pub next_part : PeerHandlers → PeerLine → Progress PeerStage → Part (Progress PeerStage)
next_part g (lines.Peer host epoch service limits) p =
    ends (made_node p (adds p.late limits (made_peer host epoch service limits) p.stage))
next_part g line p =
    Then (line_part g p.place line p.stage)
    (λ s. ends (To (record { stage = s; late = true; place = suc p.place })))

-- before the first line there are no peers
abbrev pub begun : Progress PeerStage
begun = record {
  stage = record { peers = []; history = []; calls = []; packets = []; callers = []; jobs = [] };
  late = false;
  place = 0;
}

-- the events of a plan of peers, and how its lines went
abbrev pub FollowsPeers : PeerHandlers → List PeerNumbered → List Noted → Went PeerStage → Type 0
FollowsPeers g ls es went = Goes (λ l. l.line) (λ l. next_part g l.what) ls begun es went
