-- Two peers, of which the second connects to the first; and a poll of the first, of which both halves are asked, since
-- neither has something due. These events follow that plan of peers, and are a world.
use Rattle.std.proofs.Common.{◌≡◌, Bool, List, [], ◌∷◌, true, false, None, Ok, refl, inl, arith, reverse, IfSome}
use Rattle.std.proofs.lemmas.List.Elements.{All-cons, All-nil}
use Rattle.rx_joint_peers.specs.Joint.{made_peer}
use Rattle.rx_model.specs.declared.event.Event.{Event}
use Rattle.rx_model.specs.declared.event.Event.TheVariants as events
use Rattle.rx_model.specs.declared.event.Noted.{Noted}
use Rattle.rx_model.specs.declared.names.Host.{Host}
use Rattle.rx_model.specs.declared.names.Limits.{Limits}
use Rattle.rx_peer.specs.declared.role.Role.{Role}
use Rattle.rx_peer.specs.declared.role.Role.TheVariants as roles
use Rattle.rx_peer.specs.PeerWorlds.{PeerWorld}
use Rattle.rx_peer_plan.proofs.Reading.{hosts_apart}
use Rattle.rx_peer_plan.proofs.Whole.{plans_whole}
use Rattle.rx_peer_plan.specs.Answers.{peer_answer_lines}
use Rattle.rx_peer_plan.specs.Follows.{FollowsPeers, Progress, Whole, all, begun, next, next_part}
use Rattle.rx_peer_plan.specs.Polls.{PeerPolling, polls_out}
use Rattle.rx_peer_plan.specs.Programs.{goes, is_over}
use Rattle.rx_peer_plan.specs.Promises.{AreInRange, IsInRange, peer_made, plan_peers}
use Rattle.rx_peer_plan.specs.Stages.{IsAllowedOf, PeerHandlers, PeerStage, with_event}
use Rattle.rx_plan.specs.Parts.{To, makes}
use Rattle.rx_script.specs.declared.plan.PeerLine.TheVariants as lines
use Rattle.rx_script.specs.declared.plan.PeerNumbered.{PeerNumbered}
use Rattle.rx_wire.specs.Turns.{noted}

abbrev limits : Limits
limits = record { conns = 1024; calls = 64; slots = 2048; window = 32 }

abbrev first : Host
first = record { addr = 167772161; port = 7000 }

abbrev second : Host
second = record { addr = 167772162; port = 7001 }

abbrev handlers : PeerHandlers
handlers = record { types = []; procs = []; scripts = [] ∷ [] ∷ [] }

-- ---- the plan

abbrev first_peer : PeerNumbered
first_peer = record { line = 1; what = lines.Peer first 1 1 limits }

abbrev second_peer : PeerNumbered
second_peer = record { line = 2; what = lines.Peer second 2 1 limits }

abbrev connects : PeerNumbered
connects = record { line = 3; what = lines.Connect 2 1 }

abbrev polls : PeerNumbered
polls = record { line = 4; what = lines.Poll 1 }

abbrev plan : List PeerNumbered
plan = first_peer ∷ second_peer ∷ connects ∷ polls ∷ []

-- the nodes of its peers are 2 and 3, and 4 and 5
pub two_peers : plan_peers plan ≡ made_peer first 1 1 limits ∷ made_peer second 2 1 limits ∷ []
two_peers = refl

-- ---- its events

abbrev linked : Event
linked = events.Linked first 1 1 (Ok 4)

abbrev none : Event
none = events.Polled None

abbrev happened : List Noted
happened = noted 4 linked ∷ noted 2 none ∷ noted 3 none ∷ []

-- ---- what it comes to

abbrev peers_made : PeerStage
peers_made = record {
  peers = made_peer first 1 1 limits ∷ made_peer second 2 1 limits ∷ [];
  history = [];
  calls = [];
  packets = [];
  callers = [];
  jobs = [] ∷ [] ∷ [];
}

abbrev one_made : Progress PeerStage
one_made = record {
  stage = record peers_made { peers = made_peer first 1 1 limits ∷ []; jobs = [] ∷ [] };
  late = false;
  place = 1;
}

abbrev both_made : Progress PeerStage
both_made = record { stage = peers_made; late = false; place = 2 }

abbrev connected : Progress PeerStage
connected = record { stage = with_event 4 linked peers_made; late = true; place = 3 }

abbrev caller_polled : PeerStage
caller_polled = with_event 2 none connected.stage

abbrev polled : Progress PeerStage
polled = record { stage = with_event 3 none caller_polled; late = true; place = 4 }

-- ---- line by line

connecting : next_part handlers connects.what both_made (noted 4 linked ∷ []) (To connected)
connecting =
    record {
      front = noted 4 linked ∷ [];
      rest = [];
      are = refl;
      came = To connected.stage;
      made =
          record {
            front = noted 4 linked ∷ [];
            rest = [];
            are = refl;
            came = To linked;
            made = makes linked ((refl, refl, refl), allowed);
            goes = (refl, inl refl);
          };
      goes = (refl, inl refl);
    }
  where
    allowed : IsAllowedOf peers_made.peers [] 4 linked
    allowed =
        record {
          number = 2;
          role = roles.Caller;
          is = refl;
          allowed = (omega arith, omega arith, omega arith, refl);
        }

by_caller : IsAllowedOf peers_made.peers connected.stage.history 2 none
by_caller = record { number = 1; role = roles.Caller; is = refl; allowed = refl }

by_served : IsAllowedOf peers_made.peers caller_polled.history 3 none
by_served = record { number = 1; role = roles.Served; is = refl; allowed = refl }

polling : next_part handlers polls.what connected (noted 2 none ∷ noted 3 none ∷ []) (To polled)
polling =
    record {
      front = noted 2 none ∷ noted 3 none ∷ [];
      rest = [];
      are = refl;
      came = To polled.stage;
      made =
          record {
            front = noted 2 none ∷ [];
            rest = noted 3 none ∷ [];
            are = refl;
            came = To none;
            made = makes none (tt, by_caller);
            goes =
                record {
                  front = noted 3 none ∷ [];
                  rest = [];
                  are = refl;
                  came = To none;
                  made = makes none (tt, by_served);
                  goes = (refl, inl refl);
                };
          };
      goes = (refl, inl refl);
    }

-- in a round the first peer is polled by the same events
abbrev asked : Role → Bool → PeerPolling
asked half again = record { half = half; again = again; given = [] }

pub in_a_round :
    polls_out 1 (record { stage = connected.stage; given = [] }) (noted 2 none ∷ noted 3 none ∷ [])
    (To (record { stage = polled.stage; given = [] }))
in_a_round =
    record {
      front = noted 2 none ∷ noted 3 none ∷ [];
      rest = [];
      are = refl;
      came = To (asked roles.Served false, polled.stage);
      made =
          goes (asked roles.Caller true) connected.stage tt none (noted 3 none ∷ []) _ refl (tt, by_caller)
          (goes (asked roles.Served true) caller_polled tt none [] _ refl (tt, by_served)
          (is_over (asked roles.Served false) polled.stage refl));
      goes = (refl, inl refl);
    }

-- all lines are made
pub follows : FollowsPeers handlers plan happened (Whole polled.stage)
follows =
    next first_peer (second_peer ∷ connects ∷ polls ∷ []) begun one_made [] happened (Whole polled.stage)
    (refl, inl refl)
    (next second_peer (connects ∷ polls ∷ []) one_made both_made [] happened (Whole polled.stage) (refl, inl refl)
    (next connects (polls ∷ []) both_made connected (noted 4 linked ∷ []) (noted 2 none ∷ noted 3 none ∷ [])
    (Whole polled.stage) connecting
    (next polls [] connected polled (noted 2 none ∷ noted 3 none ∷ []) [] (Whole polled.stage) polling (all polled))))

-- no line asks for an answer
pub no_answers : peer_answer_lines [] [] plan [] ≡ []
no_answers = refl

-- ---- a world

abbrev Ranged : PeerNumbered → Type 0
Ranged l = IfSome (peer_made l.what) IsInRange

in_range : AreInRange plan
in_range =
    All-cons Ranged first_peer (second_peer ∷ connects ∷ polls ∷ [])
    (record { caller = omega arith; served = (omega arith, omega arith) })
    (All-cons Ranged second_peer (connects ∷ polls ∷ [])
    (record { caller = omega arith; served = (omega arith, omega arith) })
    (All-cons Ranged connects (polls ∷ []) tt (All-cons Ranged polls [] tt (All-nil Ranged))))

-- its peers and events are a world of peers
pub a_world : PeerWorld (plan_peers plan) (reverse happened)
a_world = (plans_whole handlers plan happened polled.stage in_range (hosts_apart plan (refl, (refl, tt))) follows).1
