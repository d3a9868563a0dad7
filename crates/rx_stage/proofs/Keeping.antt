-- What a run keeps of an event, as what its stage keeps of it.
use Rattle.std.proofs.Common.{◌≡◌, ◌∙◌, ℕ, List, [], ◌∷◌, ◌++◌, Option, Some}
use Rattle.std.proofs.Common.{None, Result, Ok, Err}
use Rattle.std.specs.Prelude.{IfErr, OnOk}
use Rattle.std.proofs.Common.{sym, subst, ap, length, option_map, nat_le}
use Rattle.std.proofs.Common.{if◌then◌else◌}
use Rattle.rx_model.specs.declared.event.Event.{Event}
use Rattle.rx_model.specs.declared.names.CallName.{CallName}
use Rattle.rx_model.specs.declared.names.Host.{Host}
use Rattle.rx_law.specs.Worlds.{Datagram}
use Rattle.rx_joint.specs.Nodes.{IsNodeThere, host_of}
use Rattle.rx_script.specs.declared.outcome.PlanWhy.TheVariants as causes
use Rattle.rx_plan.specs.declared.limits.TheConstants.{MAX_PACKETS}
use Rattle.rx_stage.specs.declared.stop.Stop.{Stop}
use Rattle.rx_stage.specs.declared.stop.Stop.TheVariants as stops
use Rattle.rx_plan.specs.declared.call.ClientCall.{ClientCall}
use Rattle.rx_plan.specs.Finds.{numbered}
use Rattle.rx_stage.specs.LinesPlayed.{KeepsPacket, keeps_caller}
use Rattle.rx_plan.specs.Lines.{given_packet, with_accepted, with_called, with_caller}
use Rattle.rx_plan.specs.Lines.{with_packet}
use Rattle.rx_plan.specs.Parts.{To, Refused, ends}
use Rattle.rx_stage.specs.Ran.{Ran, stop_of}
use Rattle.rx_stage.specs.Shown.{Shows, WorldState}
use Rattle.rx_plan.specs.Stages.{Stage, host_at, name_accepted, name_called}
use Rattle.rx_plan.specs.Stages.{packet_given, with_some}
use Rattle.rx_stage.specs.Shown.{stage_of}
use Rattle.rx_stage.specs.Tells.{Told}
use Rattle.rx_stage.proofs.Finding.{host_shown}
use Rattle.rx_stage.proofs.Running.{ran_refused, ran_to, ran_wants}

-- ---- names

-- the names that accepts answered
pub shown_accepted : (w : WorldState) (s : Stage) (names : List CallName) (e : Event) → Shows w s
    → names ≡ with_some w.accepted (name_accepted e) → Shows (record w { accepted = names }) (with_accepted e s)
shown_accepted w s names e shown kept =
    record {
      is = ap (with_accepted e) shown.is ∙ ap (λ ns. record (stage_of w s.history) { accepted = ns }) (sym kept);
      standing = shown.standing;
      service = shown.service;
      of_nodes = shown.of_nodes;
      few = shown.few;
    }

-- those that calls answered
pub shown_called : (w : WorldState) (s : Stage) (node : ℕ) (calls : List ClientCall) (e : Event) → Shows w s
    → calls ≡ with_some w.calls (option_map (λ c. record { node = node; name = c }) (name_called e))
    → Shows (record w { calls = calls }) (with_called node e s)
shown_called w s node calls e shown kept =
    record {
      is = ap (with_called node e) shown.is ∙ ap (λ cs. record (stage_of w s.history) { calls = cs }) (sym kept);
      standing = shown.standing;
      service = shown.service;
      of_nodes = shown.of_nodes;
      few = shown.few;
    }

-- ---- callers

pub shown_caller : (w : WorldState) (s : Stage) (node line : ℕ) (bytes : List ℕ) (name : Option CallName) → Shows w s
    → Shows (keeps_caller node line bytes name w) (with_caller node line bytes name s)
shown_caller w s node line bytes None shown = shown
shown_caller w s node line bytes (Some name) shown =
    record {
      is = ap (with_caller node line bytes (Some name)) shown.is;
      standing = shown.standing;
      service = shown.service;
      of_nodes = shown.of_nodes;
      few = shown.few;
    }

-- ---- datagrams

-- one more that is kept
pub shown_packet : (w : WorldState) (s : Stage) (packets : List Datagram) (d : Datagram) → Shows w s
    → packets ≡ w.packets ++ d ∷ [] → Shows (record w { packets = packets }) (record s {
      packets = s.packets ++ d
          ∷ [];
    })
shown_packet w s packets d shown kept =
    record {
      is = ap (λ (t : Stage). record t { packets = t.packets ++ d ∷ [] }) shown.is
          ∙ ap (λ ps. record (stage_of w s.history) { packets = ps }) (sym kept);
      standing = shown.standing;
      service = shown.service;
      of_nodes = shown.of_nodes;
      few = shown.few;
    }

-- those that are kept
pub packets_shown : (w : WorldState) (s : Stage) → Shows w s → s.packets ≡ w.packets
packets_shown w s shown = ap (λ (t : Stage). t.packets) shown.is

-- a datagram that a line names
pub packet_there : (i w : WorldState) (packets : List Datagram) (k : ℕ) (o : Option Datagram) → i ≡ w
    → packets ≡ i.packets → o ≡ numbered packets k → (s : Stage) → Shows w s → numbered s.packets k ≡ o
packet_there i w packets k o parts same found s shown =
    ap (λ ps. numbered ps k) (packets_shown w s shown ∙ ap (λ (v : WorldState). v.packets) (sym parts) ∙ sym same)
    ∙ sym found

-- the same packets
shown_same : (w : WorldState) (s : Stage) (packets : List Datagram) → Shows w s → packets ≡ w.packets
    → Shows (record w { packets = packets }) s
shown_same w s packets shown same = subst (λ ps. Shows (record w { packets = ps }) s) (sym same) shown

-- what is kept of a poll is what its line comes to
pub packet_comes : (w : WorldState) (s : Stage) (got : Option Datagram) (packets : List Datagram) (stop : Option Stop)
    (t : Told) → Shows w s → KeepsPacket got w.packets packets stop
    → Ran (ends (with_packet got s)) (Shows (record w { packets = packets })) stop t t
packet_comes w s None packets stop t shown (same, goes) =
    subst (λ st. Ran (ends (To s)) (Shows (record w { packets = packets })) st t t) (sym goes)
    (ran_to (Shows (record w { packets = packets })) s t (shown_same w s packets shown same))
packet_comes w s (Some d) packets None t shown (room, kept) =
    subst (λ ps. Ran (ends (if nat_le MAX_PACKETS (length ps) then Refused causes.Bag
    else To (record s { packets = s.packets ++ d ∷ [] }))) (Shows (record w { packets = packets })) None t t)
    (sym (packets_shown w s shown))
    (subst (λ b. Ran (ends (if b then Refused causes.Bag else To (record s { packets = s.packets ++ d ∷ [] })))
    (Shows (record w { packets = packets })) None t t) (sym room)
    (ran_to (Shows (record w { packets = packets })) (record s { packets = s.packets ++ d ∷ [] }) t
    (shown_packet w s packets d shown kept)))
packet_comes w s (Some d) packets (Some stops.OutOfMemory) t shown kept =
    ran_wants (Shows (record w { packets = packets })) (with_packet (Some d) s) t
packet_comes w s (Some d) packets (Some (stops.Refused why)) t shown (full, bag) =
    subst (λ c. Ran (ends (with_packet (Some d) s)) (Shows (record w { packets = packets })) (Some (stops.Refused
    c)) t t)
    (sym bag)
    (subst (λ ps. Ran (ends (if nat_le MAX_PACKETS (length ps) then Refused causes.Bag
    else To (record s { packets = s.packets ++ d ∷ [] }))) (Shows (record w { packets = packets }))
    (Some (stops.Refused causes.Bag)) t t) (sym (packets_shown w s shown))
    (subst (λ b. Ran (ends (if b then Refused causes.Bag else To (record s { packets = s.packets ++ d ∷ [] })))
    (Shows (record w { packets = packets })) (Some (stops.Refused causes.Bag)) t t) (sym full)
    (ran_refused (Shows (record w { packets = packets })) causes.Bag t)))
packet_comes w s (Some d) packets (Some stops.SinkFault) t shown none = elim none [ ]
packet_comes w s (Some d) packets (Some stops.Endless) t shown none = elim none [ ]

-- ---- what is come to

-- behind an accept
pub accepted_comes : (j m : WorldState) (t : Stage) (names : List CallName) (e : Event) (b : Told) → j ≡ m → Shows m t
    → names ≡ with_some j.accepted (name_accepted e)
    → Ran (ends (To (with_accepted e t))) (Shows (record j { accepted = names })) None b b
accepted_comes j m t names e b parts shown kept =
    ran_to (Shows (record j { accepted = names })) (with_accepted e t) b
    (shown_accepted j t names e (subst (λ v. Shows v t) (sym parts) shown) kept)

-- behind a call
pub called_comes : (j m : WorldState) (t : Stage) (node : ℕ) (calls : List ClientCall) (e : Event) (b : Told) → j ≡ m
    → Shows m t → calls ≡ with_some j.calls (option_map (λ c. record { node = node; name = c }) (name_called e))
    → Ran (ends (To (with_called node e t))) (Shows (record j { calls = calls })) None b b
called_comes j m t node calls e b parts shown kept =
    ran_to (Shows (record j { calls = calls })) (with_called node e t) b
    (shown_called j t node calls e (subst (λ v. Shows v t) (sym parts) shown) kept)

module _ (j m new : WorldState) (t : Stage) (node line : ℕ) (bytes : List ℕ) (calls : List ClientCall) (e : Event) where
  -- behind the call of an invoke
  pub invoked_comes : (r : Result (Unit {0}) Stop) (b : Told) → j ≡ m → Shows m t
      → calls ≡ with_some j.calls (option_map (λ c. record { node = node; name = c }) (name_called e))
      → OnOk r (new ≡ keeps_caller node line bytes (name_called e) (record j { calls = calls }))
      → IfErr r (λ stop. stop ≡ stops.OutOfMemory)
      → Ran (ends (To (with_caller node line bytes (name_called e) (with_called node e t)))) (Shows new) (stop_of r) b b
  invoked_comes (Ok x) b parts shown kept caller wanting =
      ran_to (Shows new) (with_caller node line bytes (name_called e) (with_called node e t)) b
      (subst (λ v. Shows v (with_caller node line bytes (name_called e) (with_called node e t))) (sym caller)
      (shown_caller (record j { calls = calls }) (with_called node e t) node line bytes (name_called e)
      (shown_called j t node calls e (subst (λ v. Shows v t) (sym parts) shown) kept)))
  invoked_comes (Err stop) b parts shown kept caller wanting =
      subst (λ why. Ran (ends (To (with_caller node line bytes (name_called e) (with_called node e t)))) (Shows new)
      (Some why) b b) (sym wanting)
      (ran_wants (Shows new) (To (with_caller node line bytes (name_called e) (with_called node e t))) b)

module _ (w i j m : WorldState) (s t : Stage) (node : ℕ) (from : Host) (e : Event) (packets : List Datagram)
    (stop : Option Stop) (b : Told) where
  -- behind a poll
  pub polled_comes : i ≡ w → from ≡ host_of i.nodes node → Shows w s → IsNodeThere w.nodes node → j ≡ m → Shows m t
      → KeepsPacket (packet_given from e) j.packets packets stop
      → Ran (ends (with_packet (given_packet (host_at s node) e) t)) (Shows (record j { packets = packets })) stop b b
  polled_comes before host shown there parts after kept =
      subst (λ o. Ran (ends (with_packet (given_packet o e) t)) (Shows (record j { packets = packets })) stop b b)
      (ap Some (host ∙ ap (λ (v : WorldState). host_of v.nodes node) before) ∙ sym (host_shown w s node shown there))
      (packet_comes j t (packet_given from e) packets stop b (subst (λ v. Shows v t) (sym parts) after) kept)
