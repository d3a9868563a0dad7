-- A server's call starts in place of its channel's earlier one, which ends.
use Rattle.std.proofs.Common.{◌≡◌, ◌<◌, ◌==◌, ◌%◌, ℕ, not, nat_lt, if◌then◌else◌, is_some, Bool, true, false, List}
use Rattle.std.proofs.Common.{[], ◌∷◌, filter}
use Rattle.std.proofs.Common.{Option, Some, None, refl, ◌∙◌, ap, sym, subst, arith}
use Rattle.std.specs.Prelude.{option_and_then, slice_set}
use Rattle.std.proofs.lemmas.Bool.Decides.{nat_tests}
use Rattle.rx_model.specs.declared.names.CallName.{CallName}
use Rattle.rx_model.specs.Names.{Channel}
use Rattle.rx_rules.specs.Classes.{Class}
use Rattle.rx_rules.specs.Judging.{opened}
use Rattle.rx_rules.specs.Life.{after_later, is_live}
use Rattle.rx_rules.specs.Life as lives
use Rattle.rx_rules.specs.Looks.{Looks, call_named, channel_at, is_call, latest, latest_name}
use Rattle.rx_rules.specs.Looks.{on_life}
use Rattle.rx_rules.specs.Records.{started, started_later}
use Rattle.rx_rules.specs.Setup.{Setup, nonce_of}
use Rattle.rx_rules.proofs.EveryLaws.{Every, filter-passes}
use Rattle.rx_history.proofs.Dimensions.Dims.{dims_life}
use Rattle.rx_history.proofs.LifeFalls.{later_falls}
use Rattle.rx_history.proofs.Order.OrderlyOpens.{ended_dead, orderly_opened, room_behind}
use Rattle.rx_history.proofs.Order.Orderly.{Orderly, orderly_dims}
use Rattle.rx_history.proofs.Room.RoomStarts.{RoomyAt, roomy_opened}
use Rattle.rx_table.specs.declared.seat.Seat.{Seat}
use Rattle.rx_table.specs.Records.{seat_at}
use Rattle.rx_node.specs.Mirrors.{IsChannel, Mirrors, channel_in}
use Rattle.rx_node.specs.Node.{NodeState, setup_of}
use Rattle.rx_queue.specs.Queue.{QueueState}
use Rattle.rx_server.specs.Server.{FirstsStand, ReadyStand, ServerState, Serves, waits_at, waits_on}
use Rattle.rx_server.specs.Taking.{Opening}
use Rattle.rx_server.proofs.FirstsLaws.{firsts_dims, firsts_started, firsts_without}
use Rattle.rx_server.proofs.PlacedFirsts.{dead_channel}
use Rattle.rx_server.proofs.ReadyLaws.{ready_dims, ready_without}
use Rattle.rx_server.proofs.ReadyStarts.{ready_started}
use Rattle.rx_server.proofs.Serving.{SameRole, challenges_by}

module _ (class : List ℕ → Class) (sv : ServerState) (l : Looks) (ch : Channel) (key number : ℕ)
    (serves : Serves class sv l) (at : IsChannel l key ch)
    (opening : Opening (setup_of class sv.node) l ch number) where
  abbrev s : Setup
  s = setup_of class sv.node

  abbrev c : CallName
  c = call_named ch number

  -- its channel's earlier call ended
  abbrev ended : Looks
  ended = on_life (latest_name l ch) after_later l

  abbrev made : Looks
  made = started s lives.Waiting c ended

  opened-is : opened s c l ≡ made
  opened-is = ap (λ (b : Bool). if b then started_later s c l else l) opening.above

  dead : is_call (λ k. is_live k.life) (latest ended ch) ≡ false
  dead = ended_dead s c l opening.opens serves.mirrors.roomy

  low : ch.chan < 4
  low = (let is = ap (λ (d : Channel). d.chan) at.is in omega arith)

  -- so that its seat is free
  pub seat_free : (n : NodeState) (m : Mirrors class n ended) (seat : Seat) → seat_at n.table key ≡ Some seat
      → seat.live ≡ None
  seat_free n m seat there =
      none seat.live ((m.channels key ch seat (record { conn = at.conn; there = at.there; is = at.is }) there).call.live
      ∙ dead)
    where
      none : (o : Option ℕ) → is_some o ≡ false → o ≡ None
      none None is = refl
      none (Some end) is = absurd (cc (is))

  -- and there is room
  pub room_free : (n : NodeState) → Mirrors class n ended → n.live < sv.node.limits.calls
  room_free n m =
      (let room = room_behind s c l opening.opens serves.mirrors.roomy serves.mirrors.orderly in
      let same = m.live in omega arith)

  pub orderly_made : Orderly s made
  orderly_made =
      subst (λ (q : Looks). Orderly s q) opened-is
      (orderly_opened s c l low (λ above. opening.opens) serves.mirrors.roomy serves.mirrors.orderly)

  pub roomy_made : RoomyAt s made
  roomy_made = subst (λ (q : Looks). RoomyAt s q) opened-is (roomy_opened s c l serves.mirrors.roomy)

  -- no channel of the others is its
  others : (firsts : List ℕ) → Every (λ k. (k == key) ≡ false) (filter (λ k. not (k == key)) firsts)
  others firsts = each (filter (λ k. not (k == key)) firsts) (filter-passes (λ k. not (k == key)) firsts)
    where
      refused : (b : Bool) → not b ≡ true → b ≡ false
      refused true is = absurd (cc (is))
      refused false is = refl

      each : (ks : List ℕ) → Every (λ k. not (k == key) ≡ true) ks → Every (λ k. (k == key) ≡ false) ks
      each [] all = tt
      each (k ∷ ks) all = (refused (k == key) all.0, each ks all.1)

  silent : waits_at ended key ≡ None
  silent =
      ap (option_and_then (λ x. waits_on ended (channel_in x (key % 4)))) at.there
      ∙ ap (waits_on ended) (sym at.is) ∙ (dead_channel ended ch dead).0

  -- the server serves the start
  pub serves_made : (n : NodeState) (firsts : QueueState) → SameRole sv.node n
      → firsts.order ≡ filter (λ k. not (k == key)) sv.firsts.order → firsts.ready ≡ slice_set sv.firsts.ready key None
      → Mirrors class n made → Serves class (record sv { node = n; firsts = firsts }) made
  serves_made n firsts role without cleared mirrors =
      let dims = dims_life (latest_name l ch) after_later l later_falls in
      let there : IsChannel ended key ch = record { conn = at.conn; there = at.there; is = at.is } in
      let orderly = orderly_dims s l ended dims serves.mirrors.orderly in
      let high = above (channel_at l ch).number opening.above in
      let rest : List ℕ = filter (λ k. not (k == key)) sv.firsts.order in
      record {
        mirrors = mirrors;
        nonce = serves.nonce ∙ ap (λ (k : _). nonce_of k l.entered) (sym role.kind);
        firsts = subst (λ (keys : List ℕ). FirstsStand keys made) (sym without)
            (firsts_started s c key ended there orderly high rest (others sv.firsts.order)
            (firsts_without sv.firsts.order key ended silent
            (firsts_dims l ended dims sv.firsts.order refl serves.firsts)));
        ready = subst (λ (b : Bool). ReadyStand b firsts made) (sym (challenges_by class sv.node n role))
            (ready_started s c key ended there orderly high (class sv.node.secret).challenges firsts
            (subst (λ (keys : List ℕ). Every (λ k. (k == key) ≡ false) keys) (sym without) (others sv.firsts.order))
            (ready_without (class sv.node.secret).challenges sv.firsts firsts ended key without cleared
            (ready_dims (class sv.node.secret).challenges sv.firsts l ended dims refl serves.ready)));
      }
    where
      above : (n : ℕ) → nat_lt n number ≡ true → n < number
      above n is = grind (arith, nat_tests)
